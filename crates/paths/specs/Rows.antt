-- Paths shown as rows of candidates, first to last. Assumes nothing.
use Rattle.std.specs.Prelude.{◌≡◌, ℕ, ◌<◌, ◌≤◌, min, Bool, true, List, [], ◌∷◌, length, nat_eq}
use Rattle.std.specs.List.{IsDistinct}
use Rattle.paths.specs.Paths.{Path}

-- from x over the candidates of the row to y, its last: they stand, and each wins against the next
abbrev pub Leads : (ℕ → ℕ → ℕ) → (ℕ → Bool) → ℕ → List ℕ → ℕ → Type 0
Leads w here x [] y = x ≡ y
Leads w here x (z ∷ zs) y = (here z ≡ true) × (0 < w x z) × Leads w here z zs y

-- the weakest of the wins from x on over the row, 0 where there is none
abbrev pub weakest : (ℕ → ℕ → ℕ) → ℕ → List ℕ → ℕ
weakest w x [] = 0
weakest w x (y ∷ []) = w x y
weakest w x (y ∷ (z ∷ zs)) = min (w x y) (weakest w y (z ∷ zs))

-- the row is a path from x to y: x first and y last, all stand, each wins against the next,
-- and the weakest of the wins, of which there is one at least, is s
pub record Shows (w : ℕ → ℕ → ℕ) (here : ℕ → Bool) (x y s : ℕ) (row : List ℕ) : Type 0 where
  pub rest : List ℕ
  pub first : row ≡ x ∷ rest
  pub stands : here x ≡ true
  pub leads : Leads w here x rest y
  pub weak : weakest w x rest ≡ s
  pub some : 0 < s

-- the row is a path from x to y of strength s with no candidate twice, so with at most n, and no path is stronger
pub record ShowsStrongest (w : ℕ → ℕ → ℕ) (here : ℕ → Bool) (n x y s : ℕ) (row : List ℕ) : Type 0 where
  pub shows : Shows w here x y s row
  pub apart : IsDistinct nat_eq row
  pub short : length row ≤ n
  pub greatest : (m : ℕ) → Path w here m x y → m ≤ s
