-- The last member of a set below a limit, as the highest bit of those below.
use Rattle.std.proofs.Common.{◌≡◌, ℕ, zero, suc, ◌+◌, ◌-◌, ◌*◌, ◌^◌, ◌<◌, ◌≤◌, true, false, eqb, min, Some, None, refl, sym, ap, ◌∙◌, inl, inr, arith, pow_mono}
use lib.Bits.{bit_and}
use Rattle.std.specs.Int.{bit_at}
use Rattle.std.specs.Int.Count.{count_leading_zeros}
use Rattle.std.proofs.lemmas.Nat.{and_le_l, and_le_r, leading_top}
use Rattle.std.proofs.lemmas.Nat.Bits.{bit_at_and, bit_at_cat_high, bit_at-lt, bit_at-zero}
use Rattle.std.proofs.lemmas.Bool.{cases_eq, cases_lt}
use Rattle.std.proofs.lemmas.Bool.Decides.{nat_tests}
use Rattle.ballots.specs.Sets.{holds, set_of, room}
use Rattle.ballots.proofs.Sets.{holds_is, holds_past, holds_set_of, set_of_lt, pow_more}
use Rattle.paths.specs.inner.Fields.{last_below}

-- whether nobody below the limit is in the set, or who is and nobody after it
last_none : (set limit : ℕ) → ((z : ℕ) → z < limit → holds set z ≡ false) → last_below set limit ≡ None
last_none set zero none = refl
last_none set (suc n) none = rw (none n (omega arith)) (last_none set n (λ z l. none z (omega arith)))

last_some : (set limit k : ℕ) → k < limit → holds set k ≡ true → ((z : ℕ) → k < z → z < limit → holds set z ≡ false) →
    last_below set limit ≡ Some k
last_some set zero k l is none = absurd (let f : ⊥ = omega arith in f)
last_some set (suc n) k l is none = elim (cases_eq k n) [
  | inl e ↦ let top : holds set n ≡ true = rw e at is in rw (top, e)
  | inr e ↦ rw (none n (omega arith) (omega arith)) (last_some set n k (omega arith) is (λ z a b. none z a (omega arith)))
]

-- the highest bit of a number that is not 0
top_bit : (n k : ℕ) → 2 ^ k ≤ n → n < 2 ^ suc k → bit_at n k ≡ 1
top_bit n k low high =
    let r : ℕ = n - 2 ^ k in
    let parts : n ≡ 1 * 2 ^ k + r = omega arith in
    let z : k - k ≡ 0 = omega arith in
    rw parts (bit_at_cat_high 1 k r k (omega (arith, pow_more k)) (omega arith) ∙ rw z)

-- the members below the limit by a mask: none, or the last
module _ (set limit : ℕ) (fits : set < 2 ^ room) where
  abbrev mask : ℕ
  mask = set_of (λ _. true) (min limit room)

  abbrev lower : ℕ
  lower = bit_and set mask

  lower_lt : lower < 2 ^ room
  lower_lt = omega (arith, and_le_l set mask)

  in_lower : (z : ℕ) → z < limit → holds lower z ≡ holds set z
  in_lower z l = elim (cases_lt z room) [
    | inl r ↦
        let all = sym (holds_is mask z) ∙ holds_set_of (λ _. true) (min limit room) z (omega arith) in
        let one : bit_at mask z ≡ 1 = grind (arith, nat_tests, all) in
        let same : min (bit_at set z) 1 ≡ bit_at set z = omega (arith, bit_at-lt set z) in
        rw (holds_is lower z, holds_is set z, bit_at_and, one, same)
    | inr r ↦ holds_past lower room z lower_lt r ∙ sym (holds_past set room z fits r)
  ]

  pub lower_none : lower ≡ 0 → None ≡ last_below set limit
  lower_none e =
      sym (last_none set limit (λ z l.
      sym (in_lower z l) ∙ (ap (λ s. holds s z) e ∙ (holds_is 0 z ∙ ap (λ b. eqb b 1) (bit_at-zero z)))))

  pub lower_some : 0 < lower → Some (31 - count_leading_zeros 32 lower) ≡ last_below set limit
  lower_some some =
      let t = leading_top room lower some lower_lt in
      let k : ℕ = t.0 in
      let place : 31 - count_leading_zeros 32 lower ≡ k = omega (arith, t.1) in
      let is : holds lower k ≡ true = holds_is lower k ∙ ap (λ b. eqb b 1) (top_bit lower k t.2 t.3) in
      let below : k < limit = elim (cases_lt k (min limit room)) [
        | inl h ↦ omega arith
        | inr h ↦
            let more = pow_mono {i = min limit room} {j = k} h in
            absurd (let f : ⊥ = omega (arith, t.2, and_le_r set mask, set_of_lt (λ _. true) (min limit room), more) in f)
      ] in
      let above : (z : ℕ) → k < z → z < limit → holds set z ≡ false =
      λ z a b. sym (in_lower z b) ∙ holds_past lower (suc k) z t.3 (omega arith) in
      rw place (sym (last_some set limit k below (sym (in_lower k below) ∙ is) above))
