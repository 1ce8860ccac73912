-- Whoever is among the best stays so when it is raised.
use Rattle.std.proofs.Common.{◌≡◌, ℕ, Bool, ◌≢◌, ◌⊎◌, inl, inr, le_trans}
use Rattle.std.proofs.lemmas.Bool.{cases_eq}
use Rattle.paths.specs.Paths.{Path, step, on}
use Rattle.paths.proofs.Walks.{ends}
use Rattle.best.specs.Laws.{Raises, Monotonicity}

module _ (w u : ℕ → ℕ → ℕ) (here : ℕ → Bool) (x : ℕ) (raised : Raises w u here x) where
  -- a path after was one before, up to where it first comes to x
  reach : {m y z : ℕ} → y ≢ x → Path u here m y z → Path w here m y z ⊎ Path w here m y x
  reach ne (step {x = y} {y = z} hy hz h) = inl (step hy hz (le_trans h (raised.no_stronger y z hy hz ne)))
  reach ne (on {y = y} {z = z} p hz h) = elim (reach ne p) [
    | inl q ↦ elim (cases_eq y x)
        [ inl e ↦ inr (rw e at q) | inr ne ↦ inl (on q hz (le_trans h (raised.no_stronger y z (ends p) hz ne))) ]
    | inr q ↦ inr q
  ]

  -- a path before from x is one after, from where it last leaves x
  leave : {m z : ℕ} → Path w here m x z → Path u here m x z ⊎ (z ≡ x)
  leave (step {y = z} hx hz h) = elim (cases_eq z x)
      [ inl f ↦ inr f | inr ne ↦ inl (step hx hz (le_trans h (raised.no_weaker x z hx hz ne))) ]
  leave (on {y = y} {z = z} p hz h) = elim (cases_eq z x) [
    | inl f ↦ inr f
    | inr ne ↦
        let k = le_trans h (raised.no_weaker y z (ends p) hz ne) in
        elim (leave p) [ inl q ↦ inl (on q hz k) | inr f ↦ inl (step (rw f at (ends p)) hz (rw f at k)) ]
  ]

pub monotonicity : Monotonicity
monotonicity w u here x raised (hx, b) = (
  hx,
  λ y m pos p. elim (cases_eq y x) [
    | inl e ↦ rw e (rw e at p)
    | inr ne ↦
        let before : Path w here m y x = elim (reach w u here x raised ne p) [ inl q ↦ q | inr q ↦ q ] in
        elim (leave w u here x raised (b y m pos before)) [ inl q ↦ q | inr e ↦ absurd (ne e) ]
  ],
)
