-- Sets of candidates as bits: whom a set holds, the set that a test makes, and one candidate more.
use Rattle.std.proofs.Common.{◌≡◌, ℕ, zero, suc, ◌+◌, ◌-◌, ◌*◌, ◌%◌, ◌^◌, ◌<◌, ◌≤◌, Bool, true, false, cond, ◌||◌, eqb, sym, ap, ◌∙◌, refl, inl, inr, add-zero, add-one, arith, pow_mono}
use lib.Bits.{bit_or}
use Rattle.std.specs.Int.{bit_at}
use Rattle.std.proofs.lemmas.Nat.{one_shl, or_shifted, or_comm, pow_pos, pow-add}
use Rattle.std.proofs.lemmas.Nat.Bits.{bit_at_above, bit_at_cat_low, bit_at_cat_high, bit_at-lt, same_from_bits_below}
use Rattle.std.proofs.lemmas.Bool.{cases_Bool, cases_eq, cases_lt}
use Rattle.std.proofs.lemmas.Bool.Decides.{nat_tests}
use Rattle.ballots.specs.Sets.{holds, set_of, room}

pub pow_more : (n : ℕ) → 2 ^ suc n ≡ 2 * 2 ^ n
pow_more n = let e : suc n ≡ n + 1 = omega arith in ap (λ (k : ℕ). 2 ^ k) e ∙ omega (arith, pow-add 2 n 1)

pub holds_is : (set x : ℕ) → holds set x ≡ eqb (bit_at set x) 1
unfolding holds
holds_is set x = refl

holds_bit : (s t x y : ℕ) → bit_at s x ≡ bit_at t y → holds s x ≡ holds t y
holds_bit s t x y e = holds_is s x ∙ ap (λ b. eqb b 1) e ∙ sym (holds_is t y)

-- a set below 2 ^ n has nobody from n on
pub holds_past : (set n x : ℕ) → set < 2 ^ n → n ≤ x → holds set x ≡ false
holds_past set n x h l = holds_is set x ∙ ap (λ b. eqb b 1) (bit_at_above set n x h l)

-- a set is known by whom it holds
pub same_set : (n s t : ℕ) → s < 2 ^ n → t < 2 ^ n → ((x : ℕ) → x < n → holds s x ≡ holds t x) → s ≡ t
same_set n s t hs ht e = same_from_bits_below n s t hs ht (λ x l.
    let same : eqb (bit_at s x) 1 ≡ eqb (bit_at t x) 1 = sym (holds_is s x) ∙ (e x l ∙ holds_is t x) in
    let s_bit = bit_at-lt s x in
    let t_bit = bit_at-lt t x in
    grind (arith, nat_tests))

-- with n put into a set, the lower candidates are in it as before, and n is
holds_more : (set n x : ℕ) → x < n → holds (set + 2 ^ n) x ≡ holds set x
holds_more set n x h = let e : set + 2 ^ n ≡ 1 * 2 ^ n + set = omega arith in rw e (holds_bit _ set x x (bit_at_cat_low 1 n set x h))

holds_top : (set n : ℕ) → set < 2 ^ n → holds (set + 2 ^ n) n ≡ true
holds_top set n h =
    let e : set + 2 ^ n ≡ 1 * 2 ^ n + set = omega arith in
    let z : n - n ≡ 0 = omega arith in
    rw e (holds_is _ n ∙ rw (bit_at_cat_high 1 n set n h (omega arith), z))

pub set_of_lt : (f : ℕ → Bool) (n : ℕ) → set_of f n < 2 ^ n
set_of_lt f zero = omega arith
set_of_lt f (suc n) =
    let h = set_of_lt f n in
    rw (pow_more n) (elim (cases_Bool (f n)) [ inl t ↦ rw t (omega arith) | inr t ↦ rw t (omega (arith, pow_pos n)) ])

-- a candidate below n is in the set exactly if it passes the test
pub holds_set_of : (f : ℕ → Bool) (n x : ℕ) → x < n → holds (set_of f n) x ≡ f x
holds_set_of f zero x h = absurd (let f : ⊥ = omega arith in f)
holds_set_of f (suc n) x h = elim (cases_eq x n) [
  | inl t ↦ rw t (top (f n))
  | inr t ↦ lower t (f n) ∙ holds_set_of f n x (omega arith)
]
  where
    top : (b : Bool) → holds (set_of f n + cond b (2 ^ n) 0) n ≡ b
    top true = holds_top (set_of f n) n (set_of_lt f n)
    top false = rw add-zero (holds_past (set_of f n) n n (set_of_lt f n) (omega arith))

    lower : (x ≡ n → ⊥) → (b : Bool) → holds (set_of f n + cond b (2 ^ n) 0) x ≡ holds (set_of f n) x
    lower t true = holds_more (set_of f n) n x (omega arith)
    lower t false = rw add-zero

-- one more candidate is tried: it fails and is left out, or passes and is put in, by its bit or by the set's method
pub left_out : (f : ℕ → Bool) (set x : ℕ) → set ≡ set_of f x → f x ≡ false → set ≡ set_of f (x + 1)
left_out f set x e b = rw (add-one, b, add-zero) e

pub or_top : (set x : ℕ) → x < room → set < 2 ^ x → bit_or set ((1 * 2 ^ x) % 2 ^ room) ≡ set + 2 ^ x
or_top set x l h =
    let e : 1 * 2 ^ x ≡ 2 ^ x = omega arith in
    let k = or_shifted 1 x set h in
    rw (one_shl x room l) (or_comm set (2 ^ x) ∙ omega (arith, rw e at k))

pub put_in_set : (f : ℕ → Bool) (set x new : ℕ) → x < room → set ≡ set_of f x → f x ≡ true → new < 2 ^ room →
    ((z : ℕ) → z < room → holds new z ≡ (eqb z x || holds set z)) → new ≡ set_of f (x + 1)
put_in_set f set x new h e b fits is =
    same_set room new (set_of f (x + 1)) fits (omega (arith, set_of_lt f (x + 1), pow_mono {i = x + 1} {j = room} (omega arith)))
    (λ z l. is z l ∙ elim (cases_lt z x) [
      | inl k ↦
          let i : eqb z x ≡ false = grind (arith, nat_tests) in
          rw (i, e) (holds_set_of f x z k ∙ sym (holds_set_of f (x + 1) z (omega arith)))
      | inr k ↦ elim (cases_eq z x) [
        | inl i ↦ rw i (let t : eqb x x ≡ true = grind (arith, nat_tests) in rw t (sym (holds_set_of f (x + 1) x (omega arith) ∙ b)))
        | inr i ↦
            let t : eqb z x ≡ false = grind (arith, nat_tests) in
            let past = holds_past (set_of f (x + 1)) (x + 1) z (set_of_lt f (x + 1)) (omega arith) in
            rw (t, e) (holds_past (set_of f x) x z (set_of_lt f x) k ∙ sym past)
      ]
    ])
