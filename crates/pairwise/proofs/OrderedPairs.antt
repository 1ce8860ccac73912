-- Which pairs there are, in order.
use Rattle.std.proofs.Common.{◌≡◌, ℕ, zero, suc, ◌+◌, ◌-◌, ◌*◌, ◌<◌, ◌≤◌, not, eqb, ◌≢◌, List, [], ◌∷◌, ◌++◌, map, length, sym, inl, inr, arith, add-mul, length-append}
use Rattle.std.specs.List.{range_with_len, flat_map, filter, AllByRecursion}
use Rattle.std.proofs.lemmas.List.{length-map}
use Rattle.std.proofs.lemmas.Bool.{cases_eq, eq-eqb, ne_eqb}
use Rattle.pairwise.specs.Pairs.{others, pairs_from, pairs}

-- the numbers below v from y on
counting_first : (v y : ℕ) → y < v → range_with_len y (v - y) ≡ y ∷ range_with_len (y + 1) (v - (y + 1))
counting_first v y h = let e : v - y ≡ suc (v - (y + 1)) = omega arith in rw e

counting_none : (v y : ℕ) → v ≤ y → range_with_len y (v - y) ≡ []
counting_none v y h = let e : v - y ≡ 0 = omega arith in rw e

-- z is the first number from y on that is not x
pub record Behind (x y z : ℕ) : Type 0 where
  pub skip : y ≡ x → z ≡ y + 1
  pub here : (y ≡ x → ⊥) → z ≡ y

module _ {v x y z : ℕ} (is : Behind x y z) (xv : x < v) where
  others_from : others v x y ≡ others v x z
  unfolding others
  others_from = elim (cases_eq y x) [
    | inl e ↦ rw (is.skip e, counting_first v y (omega arith), eq-eqb y x e)
    | inr ne ↦ rw (is.here ne)
  ]

  other : z ≡ x → ⊥
  other e = elim (cases_eq y x) [ inl f ↦ omega (arith, is.skip f) | inr ne ↦ ne (omega (arith, is.here ne)) ]

  -- the first of the others, and those behind it; or there are none
  pub others_next : z < v → others v x y ≡ z ∷ others v x (z + 1)
  unfolding others
  others_next l = rw (others_from, counting_first v z l, ne_eqb z x other)

  pub others_end : v ≤ z → others v x y ≡ []
  unfolding others
  others_end l = rw (others_from, counting_none v z l)

-- the pairs of x, and those behind; or there are none
pub from_first : (v x : ℕ) → x < v → pairs_from v x ≡ map (λ b. (x, b)) (others v x 0) ++ pairs_from v (x + 1)
unfolding pairs_from
from_first v x h = rw (counting_first v x h)

pub from_end : (v x : ℕ) → v ≤ x → pairs_from v x ≡ []
unfolding pairs_from
from_end v x h = rw (counting_none v x h)

-- what holds of the others of x, each with x, in front of further pairs
module _ (P : ℕ × ℕ → Type 0) where
  abbrev Rows : ℕ → ℕ → ℕ → List (ℕ × ℕ) → Type 0
  Rows x y n rest = AllByRecursion P (map (λ b. (x, b)) (filter (λ z. not (eqb z x)) (range_with_len y n)) ++ rest)

  row_each : (x y n : ℕ) (rest : List (ℕ × ℕ)) → ((b : ℕ) → b < y + n → b ≢ x → P (x, b)) → AllByRecursion P rest → Rows x y n rest
  row_each x y zero rest h k = k
  row_each x y (suc n) rest h k =
      let more = row_each x (y + 1) n rest (λ b l ne. h b (omega arith) ne) k in
      elim (cases_eq y x) [ inl e ↦ rw (eq-eqb y x e) more | inr ne ↦ rw (ne_eqb y x ne) (h y (omega arith) ne, more) ]

  row_rest : (x y n : ℕ) (rest : List (ℕ × ℕ)) → Rows x y n rest → AllByRecursion P rest
  row_rest x y zero rest h = h
  row_rest x y (suc n) rest h = elim (cases_eq y x) [
    | inl e ↦ row_rest x (y + 1) n rest (rw (eq-eqb y x e) at h)
    | inr ne ↦ row_rest x (y + 1) n rest (rw (ne_eqb y x ne) at h).1
  ]

  row_at : (x y n : ℕ) (rest : List (ℕ × ℕ)) → Rows x y n rest → (b : ℕ) → y ≤ b → b < y + n → b ≢ x → P (x, b)
  row_at x y zero rest h b l u ne = absurd (omega arith)
  row_at x y (suc n) rest h b l u ne = elim (cases_eq y x) [
    | inl e ↦ row_at x (y + 1) n rest (rw (eq-eqb y x e) at h) b (omega arith) (omega arith) ne
    | inr ney ↦
        let k = rw (ne_eqb y x ney) at h in
        elim (cases_eq b y) [ inl e ↦ rw e k.0 | inr more ↦ row_at x (y + 1) n rest k.1 b (omega arith) (omega arith) ne ]
  ]

  module _ (v : ℕ) where
    rows_each : (x n : ℕ) → x + n ≡ v → ((a b : ℕ) → a < v → b < v → a ≢ b → P (a, b)) →
        AllByRecursion P (flat_map (λ a. map (λ b. (a, b)) (others v a 0)) (range_with_len x n))
    unfolding others
    rows_each x zero e h = tt
    rows_each x (suc n) e h =
        row_each x 0 (v - 0) _ (λ b l ne. h x b (omega arith) (omega arith) (λ f. ne (sym f))) (rows_each (x + 1) n (omega arith) h)

    rows_at : (x n : ℕ) → x + n ≡ v → AllByRecursion P (flat_map (λ a. map (λ b. (a, b)) (others v a 0)) (range_with_len x n)) →
        (a b : ℕ) → x ≤ a → a < v → b < v → a ≢ b → P (a, b)
    unfolding others
    rows_at x zero e h a b l av bv ne = absurd (omega arith)
    rows_at x (suc n) e h a b l av bv ne = elim (cases_eq a x) [
      | inl f ↦ rw f (row_at x 0 (v - 0) _ h b (omega arith) (omega arith) (λ g. ne (omega arith)))
      | inr more ↦ rows_at (x + 1) n (omega arith) (row_rest x 0 (v - 0) _ h) a b (omega arith) av bv ne
    ]

    -- the pairs are those of different candidates below v, and no others
    pub pairs_each : ((x y : ℕ) → x < v → y < v → x ≢ y → P (x, y)) → AllByRecursion P (pairs v)
    unfolding pairs_from
    pairs_each h = rows_each 0 (v - 0) (omega arith) h

    pub pairs_at : AllByRecursion P (pairs v) → (x y : ℕ) → x < v → y < v → x ≢ y → P (x, y)
    unfolding pairs_from
    pairs_at h x y xv yv ne = rows_at 0 (v - 0) (omega arith) h x y (omega arith) xv yv ne

-- each candidate has all others
length_beyond : (x y n : ℕ) → x < y → length (filter (λ z. not (eqb z x)) (range_with_len y n)) ≡ n
length_beyond x y zero l = omega arith
length_beyond x y (suc n) l = rw (ne_eqb y x (λ e. omega arith)) (omega (arith, length_beyond x (y + 1) n (omega arith)))

length_others : (x y n : ℕ) → y ≤ x → x < y + n → length (filter (λ z. not (eqb z x)) (range_with_len y n)) + 1 ≡ n
length_others x y zero l u = absurd (omega arith)
length_others x y (suc n) l u = elim (cases_eq y x) [
  | inl e ↦ rw (eq-eqb y x e) (omega (arith, length_beyond x (y + 1) n (omega arith)))
  | inr ne ↦ rw (ne_eqb y x ne) (omega (arith, length_others x (y + 1) n (omega arith) (omega arith)))
]

length_rows : (v x n : ℕ) → x + n ≡ v → length {A = ℕ × ℕ} (flat_map (λ a. map (λ b. (a, b)) (others v a 0)) (range_with_len x n)) ≡ n * (v - 1)
unfolding others
length_rows v x zero e = omega arith
length_rows v x (suc n) e =
    let row : List ℕ = filter (λ z. not (eqb z x)) (range_with_len 0 (v - 0)) in
    let pairs_of_x : List (ℕ × ℕ) = map (λ b. (x, b)) row in
    let rest : List (ℕ × ℕ) = flat_map (λ a. map (λ b. (a, b)) (others v a 0)) (range_with_len (x + 1) n) in
    let long : length pairs_of_x ≡ length row = length-map row (λ b. (x, b)) in
    omega (
      arith,
      length-append pairs_of_x rest,
      long,
      length_others x 0 (v - 0) (omega arith) (omega arith),
      length_rows v (x + 1) n (omega arith),
      add-mul n 1 (v - 1),
    )

pub length_pairs : (v : ℕ) → length (pairs v) ≡ v * (v - 1)
unfolding pairs_from
length_pairs v = let e : v - 0 ≡ v = omega arith in rw e (length_rows v 0 v (omega arith))
