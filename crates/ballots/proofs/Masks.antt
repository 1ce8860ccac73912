-- Sets of candidates by masks: one member more or less, all candidates below n, the smallest member.
use Rattle.std.proofs.Common.{◌≡◌, ℕ, zero, suc, ◌+◌, ◌-◌, ◌*◌, ◌%◌, ◌^◌, ◌<◌, Bool, true, false, not, ◌&&◌, ◌||◌, cond, eqb, ltb, min, max, ap, refl, ◌∙◌, inl, inr, arith}
use lib.Bits.{bit_and, bit_or}
use Rattle.std.specs.Int.{w32, Width, bit_not, trailing_zeros, bit_at}
use Rattle.std.proofs.Math.Pow.{pow-lt}
use mir.Val.{bits}
use Rattle.std.proofs.lemmas.Nat.{one_shl, and_le_l}
use Rattle.std.proofs.lemmas.Nat.Bits.{bit_at_or, bit_at_and, bit_at_not, bit_at-lt, bit_at-zero, bit_at-pow_same, bit_at-pow_other, bit_at-trailing_zeros}
use Rattle.std.proofs.lemmas.Bool.{cases_eq, cases_lt, lt-ltb}
use Rattle.std.proofs.lemmas.Bool.Decides.{nat_tests}
use Rattle.ballots.specs.Sets.{holds, set_of, room, FirstOf}
use Rattle.ballots.proofs.Sets.{holds_is, holds_past, pow_more}

-- the type of the number
abbrev pub width : Width
width = w32

-- the mask of a candidate: its bit, where there is room for it
abbrev pub mask : ℕ → ℕ
mask c = cond (ltb c room) (2 ^ c) 0

bit_at-mask : (c x : ℕ) → x < room → bit_at (mask c) x ≡ cond (eqb x c) 1 0
bit_at-mask c x l = elim (cases_eq x c) [
  | inl e ↦ let i : eqb c c ≡ true = grind (arith, nat_tests) in rw (e, i, lt-ltb c room (omega arith)) (bit_at-pow_same c)
  | inr e ↦ let i : eqb x c ≡ false = grind (arith, nat_tests) in rw i (there (ltb c room) e)
]
  where
    there : (b : Bool) → (x ≡ c → ⊥) → bit_at (cond b (2 ^ c) 0) x ≡ 0
    there true e = bit_at-pow_other c x e
    there false e = bit_at-zero x

pub mask_lt : (c : ℕ) → mask c < 2 ^ room
mask_lt c = elim (cases_lt c room) [
  | inl l ↦ rw (lt-ltb c room l) (pow-lt l)
  | inr l ↦ let t : ltb c room ≡ false = grind (arith, nat_tests) in rw t (omega arith)
]

bit_put_in : (t : Bool) (a : ℕ) → a < 2 → eqb (max a (cond t 1 0)) 1 ≡ (t || eqb a 1)
bit_put_in true a l = grind (arith, nat_tests)
bit_put_in false a l = grind (arith, nat_tests)

pub with_one : (set c x : ℕ) → x < room → holds (bit_or set (mask c)) x ≡ (eqb x c || holds set x)
with_one set c x l =
    rw (holds_is (bit_or set (mask c)) x, holds_is set x, bit_at_or, bit_at-mask c x l)
    (bit_put_in (eqb x c) (bit_at set x) (bit_at-lt set x))

bit_taken_out : (t : Bool) (a : ℕ) → a < 2 → eqb (min a (1 - cond t 1 0)) 1 ≡ (eqb a 1 && not t)
bit_taken_out true a l = grind (arith, nat_tests)
bit_taken_out false a l = grind (arith, nat_tests)

pub without_one : (set c : ℕ) → set < 2 ^ room → (x : ℕ) → holds (bit_and set (bit_not width (mask c))) x ≡ (holds set x && not (eqb x c))
without_one set c fits x = elim (cases_lt x room) [
  | inl l ↦
      let turned = bit_at_not width (mask c) x (mask_lt c) l in
      rw (holds_is (bit_and set (bit_not width (mask c))) x, holds_is set x, bit_at_and, turned, bit_at-mask c x l)
      (bit_taken_out (eqb x c) (bit_at set x) (bit_at-lt set x))
  | inr l ↦
      let past : holds set x ≡ false = holds_past set room x fits l in
      rw past (holds_past _ room x (omega (arith, and_le_l set (bit_not width (mask c)))) l)
]

pub everybody : (n : ℕ) → set_of (λ _. true) n + 1 ≡ 2 ^ n
everybody zero = refl
everybody (suc n) = omega (arith, everybody n, pow_more n)

pub below_mask : (n : ℕ) → n < room → 1 * 2 ^ n % 2 ^ bits width - 1 ≡ set_of (λ _. true) n
below_mask n h = omega (arith, one_shl n room h, everybody n)

pub smallest_bit : (set : ℕ) → 0 < set → set < 2 ^ bits width → FirstOf set (trailing_zeros width set)
smallest_bit set some fits =
    let t = bit_at-trailing_zeros width set some fits in
    record {
      low = t.0;
      member = holds_is set _ ∙ ap (λ b. eqb b 1) t.1;
      smallest = λ z l. holds_is set z ∙ ap (λ b. eqb b 1) (t.2 z l);
    }
