-- The bytes of a table, number by number.
use Rattle.std.proofs.Common.{◌≡◌, ℕ, suc, ◌+◌, ◌*◌, ◌/◌, ◌%◌, ◌<◌, ◌≤◌, List, [], ◌∷◌, ◌++◌, map, length, get_or, drop, Some, None, Option, sym, refl, ap, ◌∙◌, arith, add-zero}
use Rattle.std.specs.List.{range_with_len, flat_map, AllByRecursion}
use Rattle.std.specs.Option.{option_or}
use Rattle.std.proofs.lemmas.Bool.Decides.{nat_tests}
use Rattle.std.proofs.lemmas.Nat.{div-add-mod', mod_below, rows as placing}
use Rattle.std.proofs.lemmas.List.{at_drop_more, drop_all, get_or-take, get_or-drop}
use Rattle.std.proofs.lemmas.List.FromFn.{length-map-range_with_len, get_or-map-range_with_len}
use Rattle.ballots.specs.declared.refusal.Refusal.{Refusal}
use Rattle.ballots.proofs.Rows.{length_joined, length_rows, row_at}
use Rattle.pairwise.specs.Grids.{rows}
use Rattle.certificate.specs.Layout.{number_bytes, number_size, table_bytes, table_size}
use Rattle.certificate.specs.Judge.{bytes_refusal}

module _ (v : ℕ) (n : ℕ → ℕ → ℕ) where
  wide : (x : ℕ) → length (map (n x) (range_with_len 0 v)) ≡ v
  wide x = length-map-range_with_len (n x) 0 v

  -- the number in place i is that of the pair i / v, i % v
  rows_at : (i : ℕ) → 0 < v → i < v * v → get_or (rows v n) i 0 ≡ n (i / v) (i % v)
  rows_at i some h =
      let x : ℕ = i / v in
      let y : ℕ = i % v in
      let place : x * v + y ≡ i = div-add-mod' i v in
      let yv : y < v = mod_below i v some in
      let xv : x < v = grind (arith, placing) in
      ap (λ k. get_or (rows v n) k 0) (sym place)
      ∙ (sym (get_or-drop (x * v) (rows v n) y 0)
      ∙ (sym (get_or-take v (drop (x * v) (rows v n)) y 0 yv)
      ∙ (ap (λ l. get_or l y 0) (row_at (λ x. map (n x) (range_with_len 0 v)) v wide v x xv)
      ∙ get_or-map-range_with_len (n x) 0 v y y 0 yv (omega arith))))

  length-rows : length (rows v n) ≡ v * v
  length-rows = length_rows (λ x. map (n x) (range_with_len 0 v)) v wide v

  -- what is left of the table from place i on
  abbrev pub table_from : ℕ → List ℕ
  table_from i = flat_map number_bytes (drop i (rows v n))

  pub table_next : (i : ℕ) → 0 < v → i < v * v → table_from i ≡ number_bytes (n (i / v) (i % v)) ++ table_from (i + 1)
  table_next i some h =
      at_drop_more (flat_map number_bytes) (rows v n) i 0 (omega (arith, length-rows))
      ∙ ap (λ k. number_bytes k ++ table_from (i + 1)) (rows_at i some h)

  pub table_end : (i : ℕ) → v * v ≤ i → table_from i ≡ []
  table_end i h = ap (flat_map number_bytes) (drop_all i (rows v n) (omega (arith, length-rows)))

  pub table_length : length (table_bytes v n) ≡ table_size v
  unfolding table_bytes
  table_length = ap suc (length_joined number_bytes number_size (rows v n) (two (rows v n)) ∙ ap (λ k. k * number_size) length-rows) ∙ omega arith
    where
      two : (ks : List ℕ) → AllByRecursion (λ k. length (number_bytes k) ≡ number_size) ks
      two [] = tt
      two (k ∷ ks) = (refl, two ks)

-- bytes one behind the other
option_or-assoc : (a b c : Option Refusal) → option_or (option_or a b) c ≡ option_or a (option_or b c)
option_or-assoc None b c = refl
option_or-assoc (Some e) b c = refl

pub bytes_refusal-append : (sheet : List ℕ) (p : ℕ) (bs cs : List ℕ) →
    bytes_refusal sheet p (bs ++ cs) ≡ option_or (bytes_refusal sheet p bs) (bytes_refusal sheet (p + length bs) cs)
bytes_refusal-append sheet p [] cs = rw add-zero
bytes_refusal-append sheet p (b ∷ bs) cs =
    let e : (p + 1) + length bs ≡ p + length (b ∷ bs) = omega arith in
    rw (bytes_refusal-append sheet (p + 1) bs cs, e) (simp option_or-assoc)

-- a table that is gone through, number by number
pub ruleset table_steps = (nat_tests, table_length, table_next, table_end, bytes_refusal-append)
