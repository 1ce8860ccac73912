-- Pairs of candidates and their strengths.
use Rattle.std.proofs.Common.{◌≡◌, ℕ, ◌<◌, true, false, inl, inr, arith}
use Rattle.std.proofs.lemmas.Bool.{cases_Bool}
use Rattle.std.proofs.lemmas.Bool.Decides.{nat_tests}
use Rattle.paths.specs.Paths.{below, IsPair, Strongest}
use Rattle.paths.specs.Middles.{via, pair, strength}
use Rattle.paths.proofs.Via.{via_strongest}

pub pair_two : (n x y : ℕ) → pair n x y ≡ true → IsPair n x y
pair_two n x y e =
    record { first = grind (arith, nat_tests); second = grind (arith, nat_tests); apart = grind (arith, nat_tests) }

pub two_pair : (n x y : ℕ) → x < n → y < n → (x ≡ y → ⊥) → pair n x y ≡ true
two_pair n x y xn yn ne = grind (arith, nat_tests)

pub pair_no : (n x y : ℕ) → ¬ IsPair n x y → pair n x y ≡ false
pair_no n x y apart = elim (cases_Bool (pair n x y)) [ inl e ↦ absurd (apart (pair_two n x y e)) | inr e ↦ e ]

module _ (w : ℕ → ℕ → ℕ) (n x y : ℕ) where
  -- the strength of a pair is that of the strongest path
  pub strength_is : pair n x y ≡ true → strength w n x y ≡ via w (below n) n x y
  strength_is e = rw e

  pub strength_strongest : pair n x y ≡ true → Strongest w n x y (strength w n x y)
  strength_strongest e = let p = pair_two n x y e in rw (strength_is e) (via_strongest w n x y p.first p.second).0

  -- only a pair has a strength above 0
  pub strength_pair : 0 < strength w n x y → pair n x y ≡ true
  strength_pair h = elim (cases_Bool (pair n x y)) [
    | inl e ↦ e
    | inr e ↦ absurd (let f : 0 < 0 = rw e at h in let g : ⊥ = omega arith in g)
  ]
