-- Strengths: via is the strength of the strongest path, so paths can be decided and measured.
use Rattle.std.proofs.Common.{◌≡◌, ℕ, zero, suc, ◌<◌, ◌≤◌, min, Bool, true, ◌⊎◌, inl, inr, arith}
use Rattle.std.proofs.lemmas.Bool.{cases_lt, cases_eq}
use Rattle.paths.specs.Paths.{below, Within, Path, step, on, Strongest}
use Rattle.paths.specs.Middles.{via}
use Rattle.paths.proofs.Walks.{join, ends, in_below, below_in}

module _ (w : ℕ → ℕ → ℕ) (here : ℕ → Bool) where
  -- what a strength over the candidates up to k comes from
  via_cases :
      (m k x y : ℕ) → m ≤ via w here (suc k) x y →
      (m ≤ via w here k x y) ⊎ ((here k ≡ true) × (m ≤ via w here k x k) × (m ≤ via w here k k y))
  unfolding via
  via_cases m k x y h = grind arith

  -- to k and from k nothing changes, so a table of strengths may be updated in place
  pub via_to : (k x : ℕ) → via w here (suc k) x k ≡ via w here k x k
  unfolding via
  via_to k x = grind arith

  pub via_from : (k y : ℕ) → via w here (suc k) k y ≡ via w here k k y
  unfolding via
  via_from k y = grind arith

  -- a strength grows as candidates come into the middle
  pub via_more : (k x y : ℕ) → via w here k x y ≤ via w here (suc k) x y
  unfolding via
  via_more k x y = grind arith

  -- strengths to k and from k join through it
  pub via_through :
      (m k x y : ℕ) → here k ≡ true → m ≤ via w here k x k → m ≤ via w here k k y → m ≤ via w here (suc k) x y
  unfolding via
  via_through m k x y e p q = grind arith

  -- a win is a strength
  pub via_win : (m k x y : ℕ) → m ≤ w x y → m ≤ via w here k x y
  unfolding via
  via_win m zero x y h = h
  via_win m (suc k) x y h = let i = via_win m k x y h in grind arith

  -- strengths join at every candidate below k that stands
  pub via_join :
      (m k z x y : ℕ) → z < k → here z ≡ true → m ≤ via w here k x z → m ≤ via w here k z y → m ≤ via w here k x y
  unfolding via
  via_join m zero z x y lt e p q = omega arith
  via_join m (suc k) z x y lt e p q =
      let j : (u v : ℕ) → z < k → m ≤ via w here k u z → m ≤ via w here k z v → m ≤ via w here k u v =
      λ u v h. via_join m k z u v h e in
      grind (arith, cases_eq z k)

  -- a strength is a path
  pub strength_path : (m k x y : ℕ) → here x ≡ true → here y ≡ true → m ≤ via w here k x y → Path w here m x y
  unfolding via
  strength_path m zero x y hx hy h = step hx hy h
  strength_path m (suc k) x y hx hy h = elim (via_cases m k x y h) [
    | inl a ↦ strength_path m k x y hx hy a
    | inr b ↦ join (strength_path m k x k hx b.0 b.1) (strength_path m k k y b.0 hy b.2)
  ]

module _ (w : ℕ → ℕ → ℕ) (here : ℕ → Bool) (n : ℕ) (bound : Within here n) where
  -- a path is a strength
  pub path_strength : {m x y : ℕ} → Path w here m x y → m ≤ via w here n x y
  path_strength {m} (step {x = x} {y = y} hx hy h) = via_win w here m n x y h
  path_strength {m} (on {x = x} {y = y} {z = z} p hz h) =
      via_join w here m n y x z (bound y (ends p)) (ends p) (path_strength p) (via_win w here m n y z h)

  -- strengths join as paths do
  pub strength_join :
      (x y z : ℕ) → here x ≡ true → here y ≡ true → here z ≡ true →
      min (via w here n x y) (via w here n y z) ≤ via w here n x z
  strength_join x y z hx hy hz = path_strength
      (join (strength_path w here _ n x y hx hy (omega arith)) (strength_path w here _ n y z hy hz (omega arith)))

-- via is the strength of the strongest path, and nothing else is
pub via_strongest :
    (w : ℕ → ℕ → ℕ) (n x y : ℕ) → x < n → y < n →
    Strongest w n x y (via w (below n) n x y) × ((s : ℕ) → Strongest w n x y s → s ≡ via w (below n) n x y)
via_strongest w n x y xn yn =
    let t : ℕ = via w (below n) n x y in
    let path : Path w (below n) t x y =
    strength_path w (below n) t n x y (in_below n x xn) (in_below n y yn) (omega arith) in
    let top : (m : ℕ) → Path w (below n) m x y → m ≤ t = λ m p. path_strength w (below n) n (below_in n) p in (
      record { shown = λ _. path; greatest = top },
      λ s g. elim (cases_lt 0 s) [
        | inl pos ↦ omega (arith, top s (g.shown pos), g.greatest t path)
        | inr none ↦ omega (arith, g.greatest t path)
      ],
    )
