-- The laws for lists of ballots, from those over any win function at the wins of the ballots.
use Rattle.std.proofs.Common.{◌≡◌, ℕ, ◌<◌, ◌≤◌, Bool, ◌≢◌, List, refl, arith}
use Rattle.std.specs.Prelude.{All}
use Rattle.std.specs.List.{AllZip}
use Rattle.std.proofs.lemmas.Bool.{cases_eq}
use Rattle.pairwise.specs.Counts.{count, win}
use Rattle.paths.specs.Paths.{below}
use Rattle.paths.proofs.Walks.{in_below, below_in}
use Rattle.best.specs.Laws.{Raises, WinAlike}
use Rattle.best.specs.Elections.{
  AheadIsAnOrderByBallots,
  SomeBestByBallots,
  CondorcetWinnerByBallots,
  CondorcetLoserByBallots,
  DominatingSetByBallots,
  IsRaised,
  MonotonicityByOneBallot,
  MonotonicityByBallots,
  ReversalSymmetryByBallots,
  IsCloneSet,
  CloneExchangeByBallots,
  CloneIndependenceByBallots,
}
use Rattle.best.proofs.Clones.{clone_exchange, clone_independence}
use Rattle.best.proofs.Dominating.{dominating_set, condorcet_winner, condorcet_loser}
use Rattle.best.proofs.Maximal.{some_best}
use Rattle.best.proofs.Monotone.{monotonicity}
use Rattle.best.proofs.Strict.{ahead_is_an_order, reversal_symmetry}
use Rattle.best.proofs.Votes.{zip_weaken, zip_back, zip_itself, zip_set, count_le, count_same, win_le, win_same, win_wins}

pub ahead_is_an_order_by_ballots : AheadIsAnOrderByBallots
ahead_is_an_order_by_ballots last v ps = ahead_is_an_order (win last ps) (below v)

pub some_best_by_ballots : SomeBestByBallots
some_best_by_ballots last v ps h = some_best (win last ps) (below v) v 0 (below_in v) (in_below v 0 h)

pub condorcet_winner_by_ballots : CondorcetWinnerByBallots
condorcet_winner_by_ballots last v x ps hx wins =
    condorcet_winner (win last ps) (below v) x (in_below v x hx)
    (λ y hy ne. win_wins last x y ps (wins y (below_in v y hy) ne))

pub condorcet_loser_by_ballots : CondorcetLoserByBallots
condorcet_loser_by_ballots last v x a ps ha ne wins =
    condorcet_loser (win last ps) (below v) x a (in_below v a ha) ne
    (λ y hy ney. win_wins last y x ps (wins y (below_in v y hy) ney))

pub dominating_set_by_ballots : DominatingSetByBallots
dominating_set_by_ballots last v a ps g ha ga dom =
    dominating_set (win last ps) (below v) g a (in_below v a ha) ga
    (λ y z hy hz gy gz. win_wins last y z ps (dom y z (below_in v y hy) (below_in v z hz) gy gz))

-- where x is raised, no count against another candidate shrinks, and no count for another candidate grows
module _ (last v x : ℕ) (ps qs : List (List ℕ)) (raised : AllZip (IsRaised last v x) ps qs) where
  against_others : (y z : ℕ) → y < v → z < v → z ≢ x → count last ps y z ≤ count last qs y z
  against_others y z hy hz ne = count_le last y z y z ps qs
      (zip_weaken (λ p q r e. grind (arith, cases_eq y x, r.still_over z hz, r.others y z hy hz)) ps qs raised)

  for_others : (y z : ℕ) → y < v → z < v → y ≢ x → count last qs y z ≤ count last ps y z
  for_others y z hy hz ne = count_le last y z y z qs ps
      (zip_back (λ p q r e. grind (arith, cases_eq z x, r.none_more_over y hy, r.others y z hy hz)) ps qs raised)

  raises : Raises (win last ps) (win last qs) (below v) x
  raises = record {
    no_stronger = λ y z hy hz ne. let hy = below_in v y hy in let hz = below_in v z hz in
        win_le last y z y z qs ps (for_others y z hy hz ne) (against_others z y hz hy ne);
    no_weaker = λ y z hy hz ne. let hy = below_in v y hy in let hz = below_in v z hz in
        win_le last y z y z ps qs (against_others y z hy hz ne) (for_others z y hz hy ne);
  }

pub monotonicity_by_ballots : MonotonicityByBallots
monotonicity_by_ballots last v x ps qs raised =
    monotonicity (win last ps) (win last qs) (below v) x (raises last v x ps qs raised)

-- a ballot as it was is raised too
as_it_was : (last v x : ℕ) (p : List ℕ) → IsRaised last v x p p
as_it_was last v x p =
    record { still_over = λ y h e. e; none_more_over = λ y h e. e; others = λ y z hy hz ny nz. refl }

pub monotonicity_by_one_ballot : MonotonicityByOneBallot
monotonicity_by_one_ballot last v x j ps q hj r = monotonicity_by_ballots last v x ps _
    (zip_set (IsRaised last v x) (as_it_was last v x) ps j q hj r)

pub reversal_symmetry_by_ballots : ReversalSymmetryByBallots
reversal_symmetry_by_ballots last v x y ps qs reversed =
    let counts : (a b : ℕ) → a < v → b < v → count last qs b a ≡ count last ps a b = λ a b ha hb.
    count_same last b a a b qs ps (zip_back (λ p q r. r b a hb ha) ps qs reversed) in
    reversal_symmetry (win last ps) (win last qs) (below v) x y
    (λ a b ha hb. let ha = below_in v a ha in let hb = below_in v b hb in
    win_same last b a a b qs ps (counts a b ha hb) (counts b a hb ha))

-- a clone set on every ballot wins and loses alike
win_alike : (last v : ℕ) (ps : List (List ℕ)) (k : ℕ → Bool) → All (IsCloneSet last v k) ps → WinAlike (win last ps) v k
win_alike last v ps k t x z y hx hz hy kx kz ky =
    let for_k : count last ps x y ≡ count last ps z y =
    count_same last x y z y ps ps (zip_itself _ ps (λ j d h. (t j d h x z y hx hz hy kx kz ky).0)) in
    let for_y : count last ps y x ≡ count last ps y z =
    count_same last y x y z ps ps (zip_itself _ ps (λ j d h. (t j d h x z y hx hz hy kx kz ky).1)) in
    (win_same last x y z y ps ps for_k for_y, win_same last y x y z ps ps for_y for_k)

pub clone_exchange_by_ballots : CloneExchangeByBallots
clone_exchange_by_ballots last v ps k here there here_in there_in e t =
    clone_exchange (win last ps) v k here there here_in there_in e (win_alike last v ps k t)

pub clone_independence_by_ballots : CloneIndependenceByBallots
clone_independence_by_ballots last v a ps k ha ka t =
    clone_independence (win last ps) v k (below v) a (below_in v) (in_below v a ha) ka (win_alike last v ps k t)
