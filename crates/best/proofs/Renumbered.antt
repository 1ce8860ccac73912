-- Candidates under other numbers: paths and the best go with them.
use Rattle.std.proofs.Common.{◌≡◌, ℕ, Bool, true, ◌↔◌, sym}
use Rattle.paths.specs.Paths.{Path, step, on}
use Rattle.paths.proofs.Walks.{starts, ends}
use Rattle.best.specs.Best.{Best}

-- f gives each candidate here its number there, g the number back, and the wins go with them
pub record Renumbers (w u : ℕ → ℕ → ℕ) (here there : ℕ → Bool) (f g : ℕ → ℕ) : Type 0 where
  pub into : (x : ℕ) → here x ≡ true → there (f x) ≡ true
  pub out : (z : ℕ) → there z ≡ true → here (g z) ≡ true
  pub back : (x : ℕ) → here x ≡ true → g (f x) ≡ x
  pub forth : (z : ℕ) → there z ≡ true → f (g z) ≡ z
  pub wins : (x y : ℕ) → here x ≡ true → here y ≡ true → u (f x) (f y) ≡ w x y

renumbers_back :
    (w u : ℕ → ℕ → ℕ) (here there : ℕ → Bool) (f g : ℕ → ℕ) → Renumbers w u here there f g → Renumbers u w there here g f
renumbers_back w u here there f g r = record {
  into = r.out;
  out = r.into;
  back = r.forth;
  forth = r.back;
  wins = λ y z hy hz. sym (rw (r.forth y hy, r.forth z hz) at (r.wins (g y) (g z) (r.out y hy) (r.out z hz)));
}

module _ (w u : ℕ → ℕ → ℕ) (here there : ℕ → Bool) (f g : ℕ → ℕ) (r : Renumbers w u here there f g) where
  path_renumbered : {m x y : ℕ} → Path w here m x y → Path u there m (f x) (f y)
  path_renumbered (step {x = x} {y = y} hx hy h) = step (r.into x hx) (r.into y hy) (rw (r.wins x y hx hy) h)
  path_renumbered (on {y = y} {z = z} p hz h) = on (path_renumbered p) (r.into z hz) (rw (r.wins y z (ends p) hz) h)

best_to : (w u : ℕ → ℕ → ℕ) (here there : ℕ → Bool) (f g : ℕ → ℕ) → Renumbers w u here there f g →
    (x : ℕ) → Best w here x → Best u there (f x)
best_to w u here there f g r x (hx, b) = (
  r.into x hx,
  λ y m pos p.
      let back : Path w here m (g y) x =
      rw (r.back x hx) at (path_renumbered u w there here g f (renumbers_back w u here there f g r) p) in
      rw (r.forth y (starts p)) at (path_renumbered w u here there f g r (b (g y) m pos back)),
)

pub best_renumbered : (w u : ℕ → ℕ → ℕ) (here there : ℕ → Bool) (f g : ℕ → ℕ) → Renumbers w u here there f g →
    (x : ℕ) → here x ≡ true → Best w here x ↔ Best u there (f x)
best_renumbered w u here there f g r x hx = (
  best_to w u here there f g r x,
  λ b. rw (r.back x hx) at (best_to u w there here g f (renumbers_back w u here there f g r) (f x) b),
)
