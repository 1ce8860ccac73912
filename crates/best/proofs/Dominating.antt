-- No path comes into a dominating set: so it holds all the best.
use Rattle.std.proofs.Common.{◌≡◌, ℕ, ◌<◌, ◌≤◌, Bool, true, false, not, eqb, refl, inl, inr, arith}
use Rattle.std.proofs.lemmas.Bool.{cases_Bool, both_ways, eqb-true, eqb-false, eq-eqb, ne_eqb, not-true, not-false, not_from_false}
use Rattle.paths.specs.Paths.{Path, step, on}
use Rattle.paths.proofs.Walks.{ends}
use Rattle.best.specs.Laws.{Dominates, DominatingSet, CondorcetWinner, CondorcetLoser}

module _ (w : ℕ → ℕ → ℕ) (here g : ℕ → Bool) (dom : Dominates w here g) where
  -- no step comes into g from outside, and so no path does
  step_outside : (m y z : ℕ) → 0 < m → here y ≡ true → here z ≡ true → m ≤ w y z → g y ≡ false → g z ≡ false
  step_outside m y z pos hy hz h e =
      elim (cases_Bool (g z)) [ inl f ↦ absurd (omega (arith, (dom z y hz hy f e).1)) | inr f ↦ f ]

  stays_outside : {m y z : ℕ} → 0 < m → Path w here m y z → g y ≡ false → g z ≡ false
  stays_outside {m} pos (step {x = y} {y = z} hy hz h) e = step_outside m y z pos hy hz h e
  stays_outside {m} pos (on {y = y} {z = z} p hz h) e = step_outside m y z pos (ends p) hz h (stays_outside pos p e)

pub dominating_set : DominatingSet
dominating_set w here g a ha ga dom x (hx, b) = elim (cases_Bool (g x)) [
  | inl e ↦ e
  | inr e ↦
      let d = (dom a x ha hx ga e).0 in
      absurd (both_ways (g a) (stays_outside w here g dom d (b a _ d (step ha hx (omega arith))) e) ga)
]

-- one that wins against every other one is a dominating set of its own
pub condorcet_winner : CondorcetWinner
condorcet_winner w here x hx wins =
    let one : Dominates w here (λ y. eqb y x) = λ y z hy hz gy gz. rw (eqb-true y x gy) (wins z hz (eqb-false z x gz)) in (
      (
        hx,
        λ y m pos p. elim (cases_Bool (eqb y x)) [
          | inl e ↦ let r = eqb-true y x e in rw r (rw r at p)
          | inr e ↦ absurd (both_ways (eqb x x) (stays_outside w here (λ y. eqb y x) one pos p e) (eq-eqb x x refl))
        ],
      ),
      λ y b. eqb-true y x (dominating_set w here (λ y. eqb y x) x hx (eq-eqb x x refl) one y b),
    )

-- all others are a dominating set where each of them wins against x
pub condorcet_loser : CondorcetLoser
condorcet_loser w here x a ha ne wins b =
    let others : Dominates w here (λ y. not (eqb y x)) = λ y z hy hz gy gz.
    rw (eqb-true z x (not-false (eqb z x) gz)) (wins y hy (eqb-false y x (not-true (eqb y x) gy))) in
    let ga : not (eqb a x) ≡ true = not_from_false (eqb a x) (ne_eqb a x ne) in
    eqb-false x x (not-true (eqb x x) (dominating_set w here (λ y. not (eqb y x)) a ha ga others x b)) refl
