-- What is kept of a file of ballots decides as the whole file does.
use Rattle.std.proofs.Common.{◌≡◌, ℕ, ◌<◌, ◌≤◌, Bool, true, false, ◌||◌, nat_eq, nat_lt, if◌then◌else◌, List, length, take, slice_index, Some, None, Option, inl, inr, refl, sym, ap, ◌∙◌, arith}
use Rattle.std.proofs.lemmas.Bool.{cases_Bool, cases_lt}
use Rattle.std.proofs.lemmas.Bool.Decides.{nat_tests}
use Rattle.std.proofs.lemmas.List.{length-take-le, take_all, get_or-take}
use Rattle.std.proofs.lemmas.Nat.{mul-le}
use Rattle.ballots.specs.declared.refusal.Refusal.{Refusal}
use Rattle.ballots.specs.declared.refusal.Refusal.TheVariants.{Length, Candidates}
use Rattle.ballots.specs.Format.{most_candidates, candidates_in, ballots_in, whole_length}
use Rattle.ballots.specs.Refusals.{refusal}
use Rattle.program.specs.Fronts.{ballots_kept}

-- bytes of so many candidates, with a header of this length
abbrev wrong : ℕ → Bool
wrong v = nat_eq v 0 || nat_lt most_candidates v

abbrev long_refusal : ℕ → ℕ → Option Refusal
long_refusal v whole = if wrong v then Some Candidates else Some (Length whole)

-- why bytes are refused that are longer than any ballots
long_refused : (bs : List ℕ) → ballots_kept ≤ length bs → ballots_in bs < 65536 → refusal bs ≡ long_refusal (candidates_in bs) (whole_length bs)
long_refused bs long n =
    let some : nat_eq (length bs) 0 ≡ false = grind (arith, nat_tests) in
    elim (cases_Bool (wrong (candidates_in bs))) [
      | inl c ↦ rw (some, c) refl
      | inr c ↦
          let few : candidates_in bs ≤ most_candidates = grind (arith, nat_tests) in
          let fits = mul-le (ballots_in bs) (candidates_in bs) 65535 most_candidates (omega arith) few in
          let not_shorter : nat_lt (length bs) (whole_length bs) ≡ false = grind (arith, nat_tests) in
          let longer : nat_lt (whole_length bs) (length bs) ≡ true = grind (arith, nat_tests) in
          rw (some, c, not_shorter, longer) refl
    ]

some_refusal : (v whole : ℕ) → long_refusal v whole ≡ None → ⊥
some_refusal v whole none = elim (cases_Bool (wrong v)) [ inl c ↦ let e = rw c at none in cc | inr c ↦ let e = rw c at none in cc ]

-- the front of the ballots is refused as the whole file is, and is the whole file where that is accepted
pub kept_ballots :
    (bs : List ℕ) → ballots_in (take ballots_kept bs) < 65536 →
    (refusal (take ballots_kept bs) ≡ refusal bs) × (refusal bs ≡ None → take ballots_kept bs ≡ bs)
kept_ballots bs n = elim (cases_lt ballots_kept (length bs)) [
  | inr short ↦ let e = take_all ballots_kept bs short in (ap refusal e, λ _. e)
  | inl long ↦
      let v : candidates_in (take ballots_kept bs) ≡ candidates_in bs = get_or-take ballots_kept bs 0 0 (omega arith) in
      let low : slice_index (take ballots_kept bs) 1 ≡ slice_index bs 1 = get_or-take ballots_kept bs 1 0 (omega arith) in
      let high : slice_index (take ballots_kept bs) 2 ≡ slice_index bs 2 = get_or-take ballots_kept bs 2 0 (omega arith) in
      let kept = length-take-le ballots_kept bs (omega arith) in
      let front = long_refused (take ballots_kept bs) (omega (arith, kept)) n in
      let all = long_refused bs (omega arith) (omega arith) in
      (front ∙ rw (v, low, high) (sym all), λ none. absurd (some_refusal (candidates_in bs) (whole_length bs) (sym all ∙ none)))
]
