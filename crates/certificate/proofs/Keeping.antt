-- The strengths that the checker keeps, one pair after the other.
use Rattle.std.proofs.Common.{◌≡◌, ℕ, ◌+◌, ◌*◌, ◌<◌, ◌≤◌, ◌≢◌, List, ◌∷◌, length, set, refl, ap, ◌∙◌, inl, inr, arith}
use Rattle.std.specs.List.{AllByRecursion}
use Rattle.std.proofs.lemmas.List.{get_or-set_same, get_or-set_other}
use Rattle.std.proofs.lemmas.Bool.{cases_Bool, cases_eq}
use Rattle.ballots.specs.Format.{most_candidates}
use Rattle.pairwise.specs.declared.grid.Grid.{Grid}
use Rattle.pairwise.specs.Grids.{cells, cell, number_for}
use Rattle.pairwise.specs.Pairs.{pairs}
use Rattle.pairwise.proofs.OrderedPairs.{pairs_at}
use Rattle.paths.specs.Paths.{IsPair}
use Rattle.paths.specs.Middles.{pair, strength}
use Rattle.paths.specs.Strengths.{GridOf}
use Rattle.paths.proofs.Grids.{numbers_are}
use Rattle.paths.proofs.Pairs.{pair_two}
use Rattle.best.specs.Comparisons.{best_by}

module _ (w : ℕ → ℕ → ℕ) (v : ℕ) where
  -- each cell has the strength of its pair, but for the pairs that are left
  abbrev pub Kept : List (ℕ × ℕ) → List ℕ → Type 0
  Kept left cs =
      (a b : ℕ) → a < most_candidates → b < most_candidates → AllByRecursion (λ xy. xy ≢ (a, b)) left → cell cs a b ≡ strength w v a b

  pub kept_none : (cs : List ℕ) → ((a b : ℕ) → cell cs a b ≡ 0) → Kept (pairs v) cs
  kept_none cs none a b am bm others = elim (cases_Bool (pair v a b)) [
    | inl e ↦ let p = pair_two v a b e in absurd (pairs_at (λ xy. xy ≢ (a, b)) v others a b p.first p.second p.apart refl)
    | inr e ↦ rw e (none a b)
  ]

  pub kept_next : (x y s : ℕ) (left : List (ℕ × ℕ)) (cs : List ℕ) → v ≤ most_candidates → length cs ≡ cells → IsPair v x y →
      s ≡ strength w v x y → Kept ((x, y) ∷ left) cs → Kept left (set cs (x * most_candidates + y) s)
  kept_next x y s left cs few size p is k a b am bm others =
      elim (cases_eq (a * most_candidates + b) (x * most_candidates + y)) [
        | inl e ↦
            let here : x * most_candidates + y < length cs = omega (arith, p.first, p.second) in
            let first : a ≡ x = omega (arith, p.first, p.second) in
            let second : b ≡ y = omega (arith, p.first, p.second) in
            rw (first, second, get_or-set_same cs (x * most_candidates + y) s 0 here) is
        | inr ne ↦
            rw (get_or-set_other cs (x * most_candidates + y) (a * most_candidates + b) s 0 ne)
            (k a b am bm ((λ e. ne (let i = ap (λ q. q.0 * most_candidates + q.1) e in omega arith)), others))
      ]

-- the best by a grid of the strengths
pub best_of_grid : (w : ℕ → ℕ → ℕ) (v : ℕ) (g : Grid) → GridOf w v g → best_by (number_for g) g.candidates ≡ best_by (strength w v) v
best_of_grid w v g h = ap (λ s. best_by s g.candidates) (numbers_are w v h) ∙ ap (best_by (strength w v)) h.candidates
