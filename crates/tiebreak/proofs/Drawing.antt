-- Reading the draw, number by number.
use Rattle.std.proofs.Common.{◌≡◌, ℕ, zero, suc, ◌+◌, ◌/◌, ◌%◌, ◌<◌, ◌≤◌, Bool, true, false, ◌||◌, eqb, leb, List, [], length, map, get_or, set, take, length-set, get_or-set_same, get_or-set_other, Some, None, sym, refl, ◌∙◌, inl, inr, arith}
use Rattle.std.proofs.Math.Bool.{or-true}
use Rattle.std.proofs.lemmas.Bool.{cases_eq, eq-eqb}
use Rattle.std.proofs.lemmas.Bool.Decides.{nat_tests}
use Rattle.std.proofs.lemmas.List.{get_or-map, length-map}
use Rattle.std.proofs.lemmas.List.Elements.{All-from_get_or}
use Rattle.std.proofs.lemmas.List.Folds.{list_any_more}
use Rattle.std.specs.Int.{w16, from_le_bytes}
use Rattle.std.specs.List.{All, find, list_any, range_with_len}
use Rattle.std.specs.Simd.{first_chunks}
use Rattle.ballots.specs.declared.refusal.Refusal.TheVariants.{Draw}
use Rattle.tiebreak.specs.declared.draw.TheConstants.{NUMBERS}
use Rattle.tiebreak.specs.Draws.{is_bad, draw_refusal}

-- the first number from a on that passes, or none
pub find_first :
    (p : ℕ → Bool) (m a i : ℕ) → a ≤ i → i < a + m → p i ≡ true → ((j : ℕ) → a ≤ j → j < i → p j ≡ false) →
    find p (range_with_len a m) ≡ Some i
find_first p zero a i l h t before = absurd (let z : ⊥ = omega arith in z)
find_first p (suc m) a i l h t before = elim (cases_eq a i) [
  | inl e ↦ rw (e, t)
  | inr e ↦
      let rest = find_first p m (a + 1) i (omega arith) (omega arith) t (λ j k. before j (omega arith)) in
      rw (before a (omega arith) (omega arith)) rest
]

pub find_none :
    (p : ℕ → Bool) (m a : ℕ) → ((i : ℕ) → a ≤ i → i < a + m → p i ≡ false) → find p (range_with_len a m) ≡ None
find_none p zero a h = refl
find_none p (suc m) a h =
    rw (h a (omega arith) (omega arith)) (find_none p m (a + 1) (λ i l k. h i (omega arith) (omega arith)))

-- the numbers that the bytes are
abbrev pub read : List (List ℕ) → List ℕ
read numbers = map (from_le_bytes w16) numbers

-- a number is marked exactly if it is among the first i
pub record Marked (ks : List ℕ) (i : ℕ) (drawn : List Bool) : Type 0 where
  pub long : length drawn ≡ NUMBERS
  pub marks : (k : ℕ) → k < NUMBERS → get_or drawn k false ≡ list_any (λ j. eqb j k) (take i ks)

-- one number more is marked
marked_more : (ks : List ℕ) (i k : ℕ) (drawn : List Bool) → i < length ks → get_or ks i 0 ≡ k → k < NUMBERS →
    Marked ks i drawn → Marked ks (i + 1) (set drawn k true)
marked_more ks i k drawn l at small m = record { long = rw length-set m.long; marks = marks }
  where
    marks : (h : ℕ) → h < NUMBERS → get_or (set drawn k true) h false ≡ list_any (λ z. eqb z h) (take (i + 1) ks)
    marks h low =
        let before : Bool = list_any (λ z. eqb z h) (take i ks) in
        rw (list_any_more (λ z. eqb z h) ks i 0 l, at) (elim (cases_eq h k) [
          | inl q ↦
              let t : get_or (set drawn k true) h false ≡ true = rw q (get_or-set_same drawn k true false (omega (arith, m.long))) in
              rw (t, eq-eqb k h (sym q)) (sym (or-true before))
          | inr q ↦ rw (get_or-set_other drawn k h true false q, m.marks h low) (grind (arith, nat_tests))
        ])

module _ (numbers : List (List ℕ)) (n : ℕ) where
  abbrev pub bad : ℕ → Bool
  bad = is_bad n (read numbers)

  long : length (read numbers) ≡ length numbers
  long = length-map numbers (from_le_bytes w16)

  number_at : (i k : ℕ) → i < length numbers → k ≡ from_le_bytes w16 (get_or numbers i []) → get_or (read numbers) i 0 ≡ k
  number_at i k l e = get_or-map (from_le_bytes w16) numbers i [] 0 l ∙ sym e

  -- the number k at place i, and what is marked before it
  pub record Reads (i k : ℕ) (drawn : List Bool) : Type 0 where
    pub there : i < length numbers
    pub is : k ≡ from_le_bytes w16 (get_or numbers i [])
    pub small : k < NUMBERS
    pub marked : Marked (read numbers) i drawn

  -- it is bad exactly if there is no such ballot, or it is marked
  pub bad_marked : {i k : ℕ} {drawn : List Bool} → Reads i k drawn → (j : ℕ) → j ≡ k → bad i ≡ (leb n k || get_or drawn j false)
  bad_marked {i} {k} r j same = rw (same, r.marked.marks k r.small, number_at i k r.there r.is)

  -- and then it is marked
  pub marks_one : {i k : ℕ} {drawn : List Bool} → Reads i k drawn → (j : ℕ) → j ≡ k → Marked (read numbers) (i + 1) (set drawn j true)
  marks_one {i} {k} {drawn} r j same =
      rw same (marked_more (read numbers) i k drawn (omega (arith, r.there, long)) (number_at i k r.there r.is) r.small r.marked)

  -- where none is bad, each is that of a ballot
  pub exist : ((i : ℕ) → i < length numbers → bad i ≡ false) → All (λ p. from_le_bytes w16 p < n) numbers
  exist good = All-from_get_or (λ p. from_le_bytes w16 p < n) numbers [] (λ i l.
      let at = number_at i (from_le_bytes w16 (get_or numbers i [])) l refl in
      let there : get_or (read numbers) i 0 < n = let g = good i l in grind (arith, nat_tests) in
      omega (arith, at))

  -- a draw of whole numbers
  pub record Whole (draw : List ℕ) : Type 0 where
    pub even : length draw % 2 ≡ 0
    pub are : numbers ≡ first_chunks 2 (length draw / 2) draw

  -- is refused at the first bad number, and accepted where there is none
  pub draw_refused :
      {draw : List ℕ} → Whole draw → (i : ℕ) → i < length numbers → ((j : ℕ) → j < i → bad j ≡ false) → bad i ≡ true →
      draw_refusal n draw ≡ Some (Draw i)
  draw_refused w i l before here =
      let e = find_first bad (length (read numbers)) 0 i (omega arith) (omega (arith, long)) here (λ j _. before j) in
      rw (w.even, ← w.are, e)

  pub draw_accepted : {draw : List ℕ} → Whole draw → ((i : ℕ) → i < length numbers → bad i ≡ false) → draw_refusal n draw ≡ None
  draw_accepted w good =
      let e = find_none bad (length (read numbers)) 0 (λ i _ l. good i (omega (arith, long))) in
      rw (w.even, ← w.are, e)
