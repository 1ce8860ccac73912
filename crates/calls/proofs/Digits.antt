-- Numbers in words.
use Rattle.std.proofs.Common.{◌≡◌, ℕ, ◌^◌, ◌<◌, true, false, nat_eq, nat_lt, List, [], ◌∷◌, length, get_or, Some, None, Ok, Err, Result, ◌≢◌, inl, inr, rules, arith, sym}
use Rattle.std.specs.List.{starts_with}
use Rattle.std.specs.Result.{OkIff, result_ok}
use Rattle.std.specs.Str.{all_ascii_digits}
use Rattle.std.specs.Str.Parse.{digits_value, ParsesUnsigned}
use Rattle.std.proofs.lemmas.Str.Parse.{IsNumeralModel, numerals_by_value, parse_plain}
use Rattle.std.proofs.lemmas.Bool.{cases_Bool}
use Rattle.std.proofs.lemmas.Bool.Decides.{nat_tests}
use Rattle.calls.specs.Numbers.{number_of}

own : IsNumeralModel (λ ds. all_ascii_digits ds ≡ true) (digits_value 10)
own = numerals_by_value (λ ds. all_ascii_digits ds ≡ true) (search rules)

number_some : (w : List ℕ) → all_ascii_digits w ≡ true → 0 < length w → digits_value 10 w < 65536 → number_of w ≡ Some (digits_value 10 w)
number_some w d l b =
    let e : nat_eq (length w) 0 ≡ false = grind (arith, nat_tests) in
    let f : nat_lt (digits_value 10 w) 65536 ≡ true = grind (arith, nat_tests) in
    rw (d, e, f)

number_none : (w : List ℕ) → ((all_ascii_digits w ≡ true) × (0 < length w) × (digits_value 10 w < 65536) → ⊥) → number_of w ≡ None
number_none w n = elim (cases_Bool (all_ascii_digits w)) [
  | inl d ↦ rw d (elim (cases_Bool (nat_eq (length w) 0)) [
    | inl e ↦ rw e
    | inr e ↦ rw e (elim (cases_Bool (nat_lt (digits_value 10 w) 65536)) [
      | inl f ↦ absurd (n (d, grind (arith, nat_tests), grind (arith, nat_tests)))
      | inr f ↦ rw f
    ])
  ])
  | inr d ↦ rw d
]

-- what `parse` gives for a word without a plus in front
pub number_is : {E : Type 0} (w : List ℕ) (r : Result ℕ E) → ParsesUnsigned 16 10 w r → get_or w 0 0 ≢ 43 → result_ok r ≡ number_of w
number_is w r h plus = at r (parse_plain own 16 w r h plus)
  where
    at : {E : Type 0} (r : Result ℕ E) → OkIff r ((all_ascii_digits w ≡ true) × (0 < length w) × (digits_value 10 w < 2 ^ 16)) (digits_value 10 w) → result_ok r ≡ number_of w
    at (Ok x) k = rw (k.1) (sym (number_some w k.0.0 k.0.1 (omega (arith, k.0.2))))
    at (Err e) k = sym (number_none w (λ p. k (p.0, p.1, omega (arith, p.2))))

pub no_plus : (w : List ℕ) → starts_with nat_eq w (43 ∷ []) ≡ false → get_or w 0 0 ≢ 43
no_plus [] h = λ e. omega arith
no_plus (c ∷ cs) h = λ e. let k : starts_with nat_eq (43 ∷ cs) (43 ∷ []) ≡ false = rw e at h in (cc)
