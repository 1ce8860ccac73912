-- The first in a tie-break order.
use Rattle.std.proofs.Common.{◌≡◌, ℕ, zero, suc, ◌+◌, ◌<◌, Bool, true, false, ◌≢◌, Some, None, Option, sym, refl, ap, ◌∙◌, inl, inr, arith}
use Rattle.std.proofs.lemmas.Bool.{cases_eq, cases_Bool, both_ways}
use Rattle.std.proofs.lemmas.Bool.Decides.{nat_tests}
use Rattle.std.specs.Prelude.{if◌then◌else◌}
use Rattle.std.specs.List.{fold}
use Rattle.std.proofs.lemmas.List.Sums.{fold_push}
use Rattle.ballots.specs.Sets.{members}
use Rattle.ballots.proofs.Numbering.{members-zero, members-in, members-out}
use Rattle.best.specs.TieBreak.{IsTieBreak, KeysMakeATieBreak}
use Rattle.best.specs.inner.NextPlace.{earlier}

-- whatever the keys are, they make a tie-break order
pub by_keys : KeysMakeATieBreak
by_keys keys =
    record {
      total = λ x y ne. grind (arith, nat_tests);
      one_way = λ x y p q. grind (arith, nat_tests);
      transitive = λ x y z p q. grind (arith, nat_tests);
    }

-- of the candidates below v that pass the test f, the first in the tie-break order
abbrev pub first_below : (ℕ → ℕ → Bool) → (ℕ → Bool) → ℕ → Option ℕ
first_below before f zero = None
first_below before f (suc v) =
    if f v then Some (earlier before (first_below before f v) v) else first_below before f v

-- x is below v, f holds of it, and it is before all others of whom f holds
pub record First (before : ℕ → ℕ → Bool) (f : ℕ → Bool) (v x : ℕ) : Type 0 where
  pub low : x < v
  pub passes : f x ≡ true
  pub first : (z : ℕ) → z < v → f z ≡ true → z ≢ x → before x z ≡ true

-- what was found is the first, or there is nobody
abbrev pub Found : (ℕ → ℕ → Bool) → (ℕ → Bool) → ℕ → Option ℕ → Type 0
Found before f v None = (z : ℕ) → z < v → f z ≡ true → ⊥
Found before f v (Some x) = First before f v x

module _ (before : ℕ → ℕ → Bool) (tie : IsTieBreak before) (f : ℕ → Bool) where
  -- one that passes is compared with what was found
  passes_more : (v : ℕ) (r : Option ℕ) → f v ≡ true → Found before f v r → First before f (suc v) (earlier before r v)
  passes_more v None fv h =
      record { low = omega arith; passes = fv; first = λ z l fz ne. absurd (h z (omega arith) fz) }
  passes_more v (Some y) fv h = elim (cases_Bool (before v y)) [
    | inl b ↦ rw b (record {
      low = omega arith;
      passes = fv;
      first = λ z l fz ne. elim (cases_eq z y) [
        | inl e ↦ rw e b
        | inr e ↦ tie.transitive v y z b (h.first z (omega arith) fz e)
      ];
    })
    | inr b ↦ rw b (record {
      low = omega (arith, h.low);
      passes = h.passes;
      first = λ z l fz ne. elim (cases_eq z v) [
        | inl e ↦ rw e (elim (tie.total y v (λ q. ne (e ∙ sym q))) [
          | inl t ↦ t
          | inr t ↦ absurd (let z : ⊥ = grind (arith, nat_tests) in z)
        ])
        | inr e ↦ h.first z (omega arith) fz ne
      ];
    })
  ]

  pub first_found : (v : ℕ) → Found before f v (first_below before f v)
  first_found zero = λ z l fz. omega arith
  first_found (suc v) = elim (cases_Bool (f v)) [
    | inl fv ↦ rw fv (passes_more v (first_below before f v) fv (first_found v))
    | inr fv ↦ rw fv (fails_more v (first_below before f v) fv (first_found v))
  ]
    where
      fails_more : (v : ℕ) (r : Option ℕ) → f v ≡ false → Found before f v r → Found before f (suc v) r
      fails_more v None fv h = λ z l fz. elim (cases_eq z v) [
        | inl e ↦ both_ways (f v) fv (rw e at fz)
        | inr e ↦ h z (omega arith) fz
      ]
      fails_more v (Some x) fv h =
          record {
            low = omega (arith, h.low);
            passes = h.passes;
            first = λ z l fz ne. elim (cases_eq z v) [
              | inl e ↦ absurd (both_ways (f v) fv (rw e at fz))
              | inr e ↦ h.first z (omega arith) fz ne
            ];
          }

-- found by going through those of whom f holds
pub first_folded : (before : ℕ → ℕ → Bool) (f : ℕ → Bool) (v : ℕ) →
    fold (λ found x. Some (earlier before found x)) None (members f v) ≡ first_below before f v
first_folded before f zero = rw (members-zero f) refl
first_folded before f (suc v) =
    let e : suc v ≡ v + 1 = omega arith in
    let pick : Option ℕ → ℕ → Option ℕ = λ found x. Some (earlier before found x) in
    elim (cases_Bool (f v)) [
      | inl h ↦ rw (h, e, members-in f v h)
          (fold_push pick None (members f v) v ∙ ap (λ found. pick found v) (first_folded before f v))
      | inr h ↦ rw (h, e, members-out f v h) (first_folded before f v)
    ]
