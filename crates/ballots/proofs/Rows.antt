-- Rows of equal width, one after the other.
use Rattle.std.proofs.Common.{◌≡◌, ℕ, zero, suc, ◌+◌, ◌*◌, ◌<◌, ◌≤◌, List, [], ◌∷◌, ◌++◌, length, get_or, take, drop, sym, ap, ◌∙◌, add-mul, arith}
use borrow.Rule.Slice.PartMut.{put_mid}
use Rattle.std.specs.List.{range_with_len, flat_map, AllByRecursion}
use Rattle.std.proofs.lemmas.Nat.{mul-le}
use Rattle.std.proofs.lemmas.List.FromFn.{map-range_with_len_more, length-range_with_len, get_or-range_with_len}
use Rattle.std.proofs.lemmas.List.{append_assoc, flat_map_more, length-append, map-id, take_at, drop_at, drop-drop}

-- row i of n rows of width v ends within them
pub row_ends : (i n v : ℕ) → i < n → i * v + v ≤ n * v
row_ends i n v h = omega (arith, mul-le (i + 1) v n v (omega arith) (omega arith), add-mul i 1 v)

-- one number more, and one row more
pub counting_more : (n : ℕ) → range_with_len 0 (n + 1) ≡ range_with_len 0 n ++ n ∷ []
counting_more n =
    sym (map-id (range_with_len 0 (n + 1)))
    ∙ (map-range_with_len_more (λ i. i) 0 n n (omega arith) ∙ ap (λ l. l ++ n ∷ []) (map-id (range_with_len 0 n)))

pub rows_more : (row : ℕ → List ℕ) (n : ℕ) → flat_map row (range_with_len 0 (n + 1)) ≡ flat_map row (range_with_len 0 n) ++ row n
rows_more row n = rw counting_more (sym (flat_map_more row [] (range_with_len 0 n) n))

-- a row is written behind those that are there
pub row_behind :
    (front row old : List ℕ) (n k : ℕ) → length front ≡ n → put_mid n k (front ++ drop n old) row ≡ (front ++ row) ++ drop (n + k) old
row_behind front row old n k e =
    rw (take_at front (drop n old) n e, drop_at front (drop n old) n e, drop-drop k n old) (sym (append_assoc front row (drop (n + k) old)))

-- rows of width v, joined
module _ {X : Type 0} (row : X → List ℕ) (v : ℕ) where
  pub length_joined : (xs : List X) → AllByRecursion (λ x. length (row x) ≡ v) xs → length (flat_map row xs) ≡ length xs * v
  length_joined [] h = omega arith
  length_joined (x ∷ xs) h =
      length-append (row x) (flat_map row xs) ∙ omega (arith, h.0, length_joined xs h.1, add-mul (length xs) 1 v)

  -- row i is found i widths in
  pub row_joined : (xs : List X) (i : ℕ) (d : X) → AllByRecursion (λ x. length (row x) ≡ v) xs → i < length xs →
      take v (drop (i * v) (flat_map row xs)) ≡ row (get_or xs i d)
  row_joined [] i d h l = absurd (let z : ⊥ = omega arith in z)
  row_joined (x ∷ xs) zero d h l = let z : 0 * v ≡ 0 = omega arith in rw z (take_at (row x) (flat_map row xs) v h.0)
  row_joined (x ∷ xs) (suc i) d h l =
      let m : suc i * v ≡ v + i * v = omega (arith, add-mul i 1 v) in
      let rest : drop (v + i * v) (row x ++ flat_map row xs) ≡ drop (i * v) (flat_map row xs) =
      sym (drop-drop (i * v) v (row x ++ flat_map row xs)) ∙ ap (drop (i * v)) (drop_at (row x) (flat_map row xs) v h.0) in
      rw (m, rest) (row_joined xs i d h.1 (omega arith))

-- the first n rows of width v
module _ (row : ℕ → List ℕ) (v : ℕ) (each : (i : ℕ) → length (row i) ≡ v) where
  all_wide : (a n : ℕ) → AllByRecursion (λ i. length (row i) ≡ v) (range_with_len a n)
  all_wide a zero = tt
  all_wide a (suc n) = (each a, all_wide (a + 1) n)

  pub length_rows : (n : ℕ) → length (flat_map row (range_with_len 0 n)) ≡ n * v
  length_rows n = rw (length_joined row v (range_with_len 0 n) (all_wide 0 n), length-range_with_len)

  pub row_at : (n i : ℕ) → i < n → take v (drop (i * v) (flat_map row (range_with_len 0 n))) ≡ row i
  row_at n i h =
      row_joined row v (range_with_len 0 n) i 0 (all_wide 0 n) (omega (arith, length-range_with_len 0 n))
      ∙ ap row (get_or-range_with_len 0 n i 0 h ∙ omega arith)
