-- The candidate that takes the next place of the full order. Assumes nothing.
use Rattle.std.specs.Prelude.{ℕ, Bool, true, ◌&&◌, ◌≢◌, Some, None, Option, if◌then◌else◌}
use Rattle.paths.specs.Paths.{below}
use Rattle.best.specs.Best.{Ahead}
use Rattle.best.specs.Order.{Next}

-- the candidates below v that are left
abbrev pub standing : ℕ → (ℕ → Bool) → ℕ → Bool
standing v left x = below v x && left x

-- by the wins w, of the candidates below v that are left this one comes next, or none of them is left
abbrev pub NextOf : (ℕ → ℕ → ℕ) → ℕ → (ℕ → ℕ → Bool) → (ℕ → Bool) → Option ℕ → Type 0
NextOf w v before left None = (x : ℕ) → standing v left x ≢ true
NextOf w v before left (Some x) = Next (Ahead w (below v)) before (standing v left) x

-- the earlier of x and the candidate found before, if there is one
abbrev pub earlier : (ℕ → ℕ → Bool) → Option ℕ → ℕ → ℕ
earlier before None x = x
earlier before (Some y) x = if before x y then x else y
