-- Which draws are accepted, and where another is refused.
use Rattle.std.proofs.Common.{◌≡◌, ◌≢◌, ℕ, zero, suc, ◌+◌, ◌%◌, ◌<◌, ◌≤◌, Bool, true, false, eqb, List, length, get_or, take, Some, None, Option, sym, refl, ap, ◌∙◌, inl, inr, ◌⊎◌, below_more, arith}
use Rattle.std.proofs.Math.Seq.{take-length}
use Rattle.std.proofs.lemmas.Bool.{cases_Bool, cases_eq, lt-leb, eq-eqb, ne_eqb}
use Rattle.std.proofs.lemmas.Bool.Decides.{nat_tests}
use Rattle.std.proofs.lemmas.List.{length-take, get_or-take}
use Rattle.std.proofs.lemmas.Grind.{get_or_default_zero}
use Rattle.std.specs.Option.{option_map}
use Rattle.std.proofs.lemmas.List.Folds.{list_any-from_Any, list_any_none}
use Rattle.std.specs.List.{find, list_any, range_with_len}
use Rattle.ballots.specs.declared.refusal.Refusal.TheVariants.{Length, Draw}
use Rattle.tiebreak.specs.Draws.{numbers_in, is_bad, first_bad, draw_refusal, OfDifferentBallots, FirstBad, DrawsAccepted, DrawsRefused}
use Rattle.tiebreak.proofs.Drawing.{find_first, find_none}

-- what is found is the first that passes
found :
    (p : ℕ → Bool) (m a i : ℕ) → find p (range_with_len a m) ≡ Some i →
    (a ≤ i) × (i < a + m) × (p i ≡ true) × ((j : ℕ) → a ≤ j → j < i → p j ≡ false)
found p zero a i h = absurd (let z : ⊥ = cc in z)
found p (suc m) a i h = elim (cases_Bool (p a)) [
  | inl t ↦ let e : a ≡ i = let k = rw t at h in cc in (omega arith, omega arith, rw (← e) t, λ j l k. absurd (omega arith))
  | inr t ↦
      let (low, high, here, before) = found p m (a + 1) i (rw t at h) in
      (omega arith, omega arith, here, λ j l k. elim (cases_eq a j) [ inl e ↦ rw (← e) t | inr e ↦ before j (omega arith) k ])
]

none_found :
    (p : ℕ → Bool) (m a : ℕ) → find p (range_with_len a m) ≡ None → (i : ℕ) → a ≤ i → i < a + m → p i ≡ false
none_found p zero a h i l k = absurd (let z : ⊥ = omega arith in z)
none_found p (suc m) a h i l k = elim (cases_Bool (p a)) [
  | inl t ↦ let e = rw t at h in absurd (let z : ⊥ = cc in z)
  | inr t ↦ elim (cases_eq a i) [
    | inl e ↦ rw (← e) t
    | inr e ↦ none_found p m (a + 1) (rw t at h) i (omega arith) (omega arith)
  ]
]

module _ (n : ℕ) (ks : List ℕ) where
  -- each of the first m is good
  abbrev pub Good : ℕ → Type 0
  Good m = (i : ℕ) → i < m → is_bad n ks i ≡ false

  -- a good number is that of a ballot, and none before it is the same
  parts : (i : ℕ) → is_bad n ks i ≡ false → (get_or ks i 0 < n) × (list_any (λ k. eqb k (get_or ks i 0)) (take i ks) ≡ false)
  parts i good = (grind (arith, nat_tests), grind (arith, nat_tests))

  -- the numbers before place i are at their places
  front : (m j e : ℕ) → m ≤ length ks → j < m → get_or (take m ks) j e ≡ get_or ks j 0
  front m j e l h = get_or-take m ks j e h ∙ get_or_default_zero ks j e (omega arith)

  apart : (i j : ℕ) → is_bad n ks i ≡ false → j < i → i < length ks → get_or ks j 0 ≢ get_or ks i 0
  apart i j good l h e =
      let k : ℕ = get_or ks i 0 in
      let long : j < length (take i ks) = omega (arith, length-take i ks) in
      let there = list_any-from_Any (λ z. eqb z k) (take i ks) (j, k, long, front i j k (omega arith) l ∙ e, eq-eqb k k refl) in
      let none = (parts i good).1 in absurd (let z : ⊥ = cc in z)

  to_different : (m : ℕ) → m ≤ length ks → Good m → OfDifferentBallots n (take m ks)
  to_different m l good = record {
    exist = λ i d h. let h' : i < m = omega (arith, length-take m ks) in rw (front m i d l h') (parts i (good i h')).0;
    once = λ i j d h k.
        let k' : j < m = omega (arith, length-take m ks) in
        rw (front m i d l (omega arith), front m j d l k') (apart j i (good j k') h (omega arith));
  }

  from_different : (m : ℕ) → m ≤ length ks → OfDifferentBallots n (take m ks) → Good m
  from_different m l d i h =
      let k : ℕ = get_or ks i 0 in
      let long : i < length (take m ks) = omega (arith, length-take m ks) in
      let exist : k < n = rw (front m i 0 l h) at (d.exist i 0 long) in
      let none : list_any (λ z. eqb z k) (take i ks) ≡ false = list_any_none (λ z. eqb z k) (take i ks) (λ j e low.
      let j_low : j < i = omega (arith, length-take i ks) in
      let other = d.once j i 0 j_low long in
      rw (front i j e (omega arith) j_low)
      (ne_eqb (get_or ks j 0) k (λ z. other (front m j 0 l (omega arith) ∙ z ∙ sym (front m i 0 l h))))) in
      rw (lt-leb n k exist, none) refl

  -- no number is bad exactly if they are those of different ballots
  none_bad : first_bad n ks ≡ None → OfDifferentBallots n ks
  none_bad h =
      let good : Good (length ks) = λ i l. none_found (is_bad n ks) (length ks) 0 h i (omega arith) (omega arith) in
      rw take-length at (to_different (length ks) (omega arith) good)

  bad_none : OfDifferentBallots n ks → first_bad n ks ≡ None
  bad_none d =
      let good : Good (length ks) = from_different (length ks) (omega arith) (rw take-length d) in
      find_none (is_bad n ks) (length ks) 0 (λ i _ l. good i (omega arith))

  -- the first bad number is the first with which they are not
  some_bad : (i : ℕ) → first_bad n ks ≡ Some i → FirstBad n ks i
  some_bad i h =
      let (_, there, here, before) = found (is_bad n ks) (length ks) 0 i h in
      record {
        there = omega arith;
        before = to_different i (omega arith) (λ j l. before j (omega arith) l);
        here = λ d. let good = from_different (i + 1) (omega arith) d i (omega arith) in absurd (let z : ⊥ = cc in z);
      }

  bad_some : (i : ℕ) → FirstBad n ks i → first_bad n ks ≡ Some i
  bad_some i f =
      let there : i < length ks = f.there in
      let before : Good i = from_different i (omega arith) f.before in
      let here : is_bad n ks i ≡ true = elim (cases_Bool (is_bad n ks i)) [
        | inl t ↦ t
        | inr g ↦ absurd (f.here (to_different (i + 1) (omega arith) (below_more _ _ before g)))
      ] in
      find_first (is_bad n ks) (length ks) 0 i (omega arith) (omega arith) here (λ j _ l. before j l)

-- a refusal for a number
is_none : (o : Option ℕ) → option_map Draw o ≡ None → o ≡ None
is_none None h = refl
is_none (Some j) h = absurd (let z : ⊥ = cc in z)

is_some : (o : Option ℕ) (i : ℕ) → option_map Draw o ≡ Some (Draw i) → o ≡ Some i
is_some None i h = absurd (let z : ⊥ = cc in z)
is_some (Some j) i h = cc

module _ (n : ℕ) (draw : List ℕ) where
  -- half a number is refused as such
  odd : length draw % 2 ≡ 1 → draw_refusal n draw ≡ Some (Length (length draw))
  odd h = rw h refl

  even : length draw % 2 ≡ 0 → draw_refusal n draw ≡ option_map Draw (first_bad n (numbers_in draw))
  even h = rw h refl

  parity : (length draw % 2 ≡ 0) ⊎ (length draw % 2 ≡ 1)
  parity = elim (cases_eq (length draw % 2) 0) [ inl e ↦ inl e | inr e ↦ inr (omega arith) ]

pub draws_accepted : DrawsAccepted
draws_accepted n draw = elim (parity n draw) [
  | inl e ↦ (
    λ h. (e, none_bad n (numbers_in draw) (is_none (first_bad n (numbers_in draw)) (sym (even n draw e) ∙ h))),
    λ h. even n draw e ∙ ap (option_map Draw) (bad_none n (numbers_in draw) h.1),
  )
  | inr o ↦ (λ h. absurd (let r = odd n draw o in let z : ⊥ = cc in z), λ h. absurd (omega (arith, h.0)))
]

pub draws_refused : DrawsRefused
draws_refused n i draw = elim (parity n draw) [
  | inl e ↦ (
    λ h. (e, some_bad n (numbers_in draw) i (is_some (first_bad n (numbers_in draw)) i (sym (even n draw e) ∙ h))),
    λ h. even n draw e ∙ ap (option_map Draw) (bad_some n (numbers_in draw) i h.1),
  )
  | inr o ↦ (λ h. absurd (let r = odd n draw o in let z : ⊥ = cc in z), λ h. absurd (omega (arith, h.0)))
]
