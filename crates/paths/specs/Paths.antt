-- Paths of wins by any w: w x y is the strength of the win of x against y, 0 where x does not win. Assumes nothing.
use Rattle.std.specs.Prelude.{◌≡◌, ℕ, ◌<◌, ◌≤◌, Bool, true, ◌≢◌, nat_lt}

-- the candidates below n
unfoldable pub below : ℕ → ℕ → Bool
below n x = nat_lt x n

-- all candidates that stand are below n
abbrev pub Within : (ℕ → Bool) → ℕ → Type 0
Within here n = (z : ℕ) → here z ≡ true → z < n

-- x and y are two different candidates below n
pub record IsPair (n x y : ℕ) : Type 0 where
  pub first : x < n
  pub second : y < n
  pub apart : x ≢ y

-- a path from x to y among the candidates that stand, each step a win of at least m
pub data Path (w : ℕ → ℕ → ℕ) (here : ℕ → Bool) (m : ℕ) : ℕ → ℕ → Type 0 where
  step : {x y : ℕ} → here x ≡ true → here y ≡ true → m ≤ w x y → Path w here m x y
  on : {x y z : ℕ} → Path w here m x y → here z ≡ true → m ≤ w y z → Path w here m x z

-- s is the strength of the strongest path from x to y among the candidates below n, 0 where there is none
pub record Strongest (w : ℕ → ℕ → ℕ) (n x y s : ℕ) : Type 0 where
  pub shown : 0 < s → Path w (below n) s x y
  pub greatest : (m : ℕ) → Path w (below n) m x y → m ≤ s
