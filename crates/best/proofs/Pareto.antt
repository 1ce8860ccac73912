-- Where every ballot puts x over y, no path back is as strong: it would have every ballot put y over x.
use Rattle.std.proofs.Common.{◌≡◌, ℕ, ◌<◌, ◌≤◌, Bool, true, List, [], length, inl, inr, le_trans, arith}
use Rattle.std.specs.Prelude.{All}
use Rattle.std.proofs.lemmas.Bool.{cases_lt}
use Rattle.std.proofs.lemmas.Bool.Decides.{nat_tests}
use Rattle.pairwise.specs.Counts.{count, win}
use Rattle.ballots.specs.Ballots.{over}
use Rattle.paths.specs.Paths.{Path, step, on}
use Rattle.paths.proofs.Walks.{in_below}
use Rattle.best.specs.Elections.{WinsByBallots, Pareto}
use Rattle.best.proofs.Votes.{every_count, count_every, win_count, win_below}

-- a ballot's order
over_trans : (last : ℕ) (p : List ℕ) (x y z : ℕ) → over last p x y ≡ true → over last p y z ≡ true → over last p x z ≡ true
unfolding over
over_trans last p x y z f g = grind (arith, nat_tests)

over_asym : (last : ℕ) (p : List ℕ) (x y : ℕ) → over last p x y ≡ true → over last p y x ≡ true → ⊥
unfolding over
over_asym last p x y f g = grind (arith, nat_tests)

module _ (last : ℕ) (ps : List (List ℕ)) where
  -- a win by all ballots is said by every ballot, and so is a path of them
  win_every : (x y : ℕ) → length ps ≤ win last ps x y → All (λ p. over last p x y ≡ true) ps
  win_every x y h = count_every last x y ps (le_trans h (win_below last x y ps))

  path_every :
      {here : ℕ → Bool} {x y : ℕ} → Path (win last ps) here (length ps) x y → All (λ p. over last p x y ≡ true) ps
  path_every (step {x = x} {y = y} hx hy h) = win_every x y h
  path_every (on {x = x} {y = y} {z = z} p hz h) =
      λ j d l. over_trans last _ x y z (path_every p j d l) (win_every y z h j d l)

  -- not every ballot says both
  not_both :
      (x y : ℕ) → 0 < length ps → All (λ p. over last p x y ≡ true) ps →
      All (λ p. over last p y x ≡ true) ps → ⊥
  not_both x y some f g = over_asym last _ x y (f 0 [] some) (g 0 [] some)

pub pareto : Pareto
pareto last v x y ps hx hy some f =
    let wins : WinsByBallots last ps x y = elim (cases_lt (count last ps y x) (length ps)) [
      | inl l ↦ le_trans l (every_count last x y ps f)
      | inr l ↦ absurd (not_both last ps x y some f (count_every last y x ps l))
    ] in (
      length ps,
      some,
      step (in_below v x hx) (in_below v y hy) (rw (win_count last x y ps wins) (every_count last x y ps f)),
      λ p. not_both last ps x y some f (path_every last ps p),
    )
