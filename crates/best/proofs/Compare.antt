-- Ahead and best are what comparing strengths of strongest paths says, and best is that nobody is ahead.
use Rattle.std.proofs.Common.{◌≡◌, ℕ, ◌<◌, ◌≤◌, Bool, true, inl, inr, arith}
use Rattle.std.proofs.lemmas.Bool.{cases_lt}
use Rattle.paths.specs.Paths.{Within}
use Rattle.paths.specs.Middles.{via}
use Rattle.paths.proofs.Walks.{starts, ends}
use Rattle.paths.proofs.Via.{strength_path, path_strength}
use Rattle.best.specs.Best.{Ahead, Best}
use Rattle.best.specs.Laws.{AheadByVia, BestByVia, BestUnbeaten}

module _ (w : ℕ → ℕ → ℕ) (here : ℕ → Bool) (v : ℕ) (bound : Within here v) where
  -- ahead is: stronger than back
  pub ahead_strength : {x y : ℕ} → Ahead w here x y → via w here v y x < via w here v x y
  ahead_strength {x} {y} (m, pos, p, np) = elim (cases_lt (via w here v y x) m) [
    | inl h ↦ omega (arith, path_strength w here v bound p)
    | inr h ↦ absurd (np (strength_path w here m v y x (ends p) (starts p) h))
  ]

  pub strength_ahead : (x y : ℕ) → here x ≡ true → here y ≡ true → via w here v y x < via w here v x y → Ahead w here x y
  strength_ahead x y hx hy h = (
    via w here v x y,
    omega arith,
    strength_path w here _ v x y hx hy (omega arith),
    λ p. omega (arith, path_strength w here v bound p),
  )

  -- best is: to nobody weaker than back
  pub best_strength : (x y : ℕ) → here y ≡ true → Best w here x → via w here v y x ≤ via w here v x y
  best_strength x y hy (hx, b) = elim (cases_lt 0 (via w here v y x)) [
    | inl h ↦ path_strength w here v bound (b y _ h (strength_path w here _ v y x hy hx (omega arith)))
    | inr h ↦ omega arith
  ]

  pub strength_best :
      (x : ℕ) → here x ≡ true → ((y : ℕ) → here y ≡ true → via w here v y x ≤ via w here v x y) → Best w here x
  strength_best x hx f = (
    hx,
    λ y m pos p.
        strength_path w here m v x y hx (starts p) (omega (arith, path_strength w here v bound p, f y (starts p))),
  )

pub ahead_by_via : AheadByVia
ahead_by_via w here v x y bound hx hy = (ahead_strength w here v bound, strength_ahead w here v bound x y hx hy)

pub best_by_via : BestByVia
best_by_via w here v x bound hx =
    (λ b y hy. best_strength w here v bound x y hy b, strength_best w here v bound x hx)

pub best_unbeaten : BestUnbeaten
best_unbeaten w here v x bound hx = (
  (λ (_, b) y (m, pos, p, np). np (b y m pos p)),
  λ f. strength_best w here v bound x hx (λ y hy. elim (cases_lt (via w here v x y) (via w here v y x))
      [ inl lt ↦ absurd (f y (strength_ahead w here v bound y x hy hx lt)) | inr le ↦ le ]),
)
