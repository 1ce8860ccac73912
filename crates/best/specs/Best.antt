-- Who is ahead of whom and who is among the best, over any win function and any candidates that stand. Assumes nothing.
use Rattle.std.specs.Prelude.{◌≡◌, ℕ, ◌<◌, Bool, true}
use Rattle.paths.specs.Paths.{Path}

-- x is ahead of y: there is a path from x to y that is stronger than every path back
abbrev pub Ahead : (ℕ → ℕ → ℕ) → (ℕ → Bool) → ℕ → ℕ → Type 0
Ahead w here x y = (m : ℕ) × (0 < m) × Path w here m x y × (Path w here m y x → ⊥)

-- x is among the best: x stands, and for every path from anybody to x there is one back as strong
abbrev pub Best : (ℕ → ℕ → ℕ) → (ℕ → Bool) → ℕ → Type 0
Best w here x = (here x ≡ true) × ((y m : ℕ) → 0 < m → Path w here m y x → Path w here m x y)

-- x is among the best, and nobody else is
abbrev pub OnlyBest : (ℕ → ℕ → ℕ) → (ℕ → Bool) → ℕ → Type 0
OnlyBest w here x = Best w here x × ((y : ℕ) → Best w here y → y ≡ x)

-- some candidate of the set k is among the best
abbrev pub BestIn : (ℕ → ℕ → ℕ) → (ℕ → Bool) → (ℕ → Bool) → Type 0
BestIn w here k = (x : ℕ) × (k x ≡ true) × Best w here x
