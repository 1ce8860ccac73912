-- The cells of a grid, and the numbers that it has for pairs.
use Rattle.std.proofs.Common.{◌≡◌, ℕ, zero, suc, ◌+◌, ◌<◌, ◌≤◌, List, get_or, replicate, refl, sym, ◌∙◌, inl, inr, arith}
use Rattle.std.proofs.lemmas.Bool.{cases_lt, lt-ltb}
use Rattle.std.proofs.lemmas.Bool.Decides.{nat_tests}
use Rattle.ballots.specs.Format.{most_candidates}
use Rattle.pairwise.specs.Grids.{cell, within}

-- a list of zeros has 0 at each place, and past its end by the default
pub zeros : (n k : ℕ) → get_or (replicate {A = ℕ} n 0) k 0 ≡ 0
zeros zero k = refl
zeros (suc n) zero = refl
zeros (suc n) (suc k) = zeros n k

-- what there is of f within the candidates
pub within-below : (v x y : ℕ) (f : ℕ → ℕ → ℕ) → x < v → y < v → within v f x y ≡ f x y
within-below v x y f xv yv = rw (lt-ltb x v xv, lt-ltb y v yv)

-- no number is above a bound that holds within, and a sum is one there
pub within_le : (v x y n : ℕ) (f : ℕ → ℕ → ℕ) → f x y ≤ n → within v f x y ≤ n
within_le v x y n f h = grind (arith, nat_tests)

pub within-add : (v x y : ℕ) (f g h : ℕ → ℕ → ℕ) → h x y ≡ f x y + g x y → within v h x y ≡ within v f x y + within v g x y
within-add v x y f g h e = grind (arith, nat_tests)

-- where each cell has the f of its pair, and 0 outside the v candidates
module _ (v : ℕ) (cs : List ℕ) (f : ℕ → ℕ → ℕ) (few : v ≤ most_candidates)
    (each : (x y : ℕ) → x < most_candidates → y < most_candidates → cell cs x y ≡ within v f x y) where
  number_at : (x y : ℕ) → within v (cell cs) x y ≡ within v f x y
  number_at x y = elim (cases_lt x v) [
    | inl xv ↦ elim (cases_lt y v) [
      | inl yv ↦ let e = each x y (omega arith) (omega arith) in grind (arith, nat_tests)
      | inr yv ↦ grind (arith, nat_tests)
    ]
    | inr xv ↦ grind (arith, nat_tests)
  ]

  -- the grid has the f of each pair
  pub number_for-within : within v (cell cs) ≡ within v f
  number_for-within = λ i x y. number_at x y i

  -- and 0 outside
  pub zero_outside : (x y : ℕ) → x < most_candidates → y < most_candidates → cell cs x y ≡ within v (cell cs) x y
  zero_outside x y xm ym = each x y xm ym ∙ sym (number_at x y)
