-- Of any candidates, one has none of them ahead of it: so somebody is among the best.
use Rattle.std.proofs.Common.{◌≡◌, ℕ, zero, suc, ◌<◌, ◌≤◌, Bool, true, inl, inr, arith}
use Rattle.std.proofs.lemmas.Bool.{cases_lt, cases_eq, cases_Bool}
use Rattle.paths.specs.Paths.{Within}
use Rattle.paths.specs.Middles.{via}
use Rattle.paths.proofs.Via.{strength_join}
use Rattle.best.specs.Laws.{SomeBest}
use Rattle.best.proofs.Compare.{strength_best}

module _ (w : ℕ → ℕ → ℕ) (here : ℕ → Bool) (v : ℕ) (bound : Within here v) where
  -- whoever is behind one that is behind a third is behind the third
  behind_trans :
      (x y z : ℕ) → here x ≡ true → here y ≡ true → here z ≡ true →
      via w here v x y < via w here v y x → via w here v y z < via w here v z y → via w here v x z < via w here v z x
  behind_trans x y z hx hy hz p q =
      let j = strength_join w here v bound in omega (arith, j z y x hz hy hx, j x z y hx hz hy, j y x z hy hx hz)

  -- of the candidates of k, one has none of those below j ahead of it
  pub maximal :
      (k : ℕ → Bool) → ((z : ℕ) → k z ≡ true → here z ≡ true) → (a : ℕ) → k a ≡ true → (j : ℕ) →
      (c : ℕ) × (k c ≡ true) × ((y : ℕ) → y < j → k y ≡ true → via w here v y c ≤ via w here v c y)
  maximal k i a ka zero = (a, ka, λ y h. absurd (omega arith))
  maximal k i a ka (suc j) =
      let (c, kc, f) = maximal k i a ka j in
      elim (cases_Bool (k j)) [
        | inl kj ↦ elim (cases_lt (via w here v c j) (via w here v j c)) [
          | inl lt ↦ (j, kj, λ y h ky. grind (arith, behind_trans c j y (i c kc) (i j kj) (i y ky), cases_eq y j, f y))
          | inr le ↦ (c, kc, λ y h ky. grind (arith, cases_eq y j, f y))
        ]
        | inr kj ↦ (c, kc, λ y h ky. grind (arith, cases_eq y j, f y))
      ]

pub some_best : SomeBest
some_best w here v a bound ha =
    let (c, hc, f) = maximal w here v bound here (λ z h. h) a ha v in
    (c, strength_best w here v bound c hc (λ y hy. f y (bound y hy) hy))
