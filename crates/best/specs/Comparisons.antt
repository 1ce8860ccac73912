-- Ahead and best by comparing numbers, which are strengths or are claimed to be. Assumes nothing.
use Rattle.std.specs.Prelude.{ℕ, ◌^◌, ◌<◌, ◌↔◌, Bool, true, not, ◌&&◌, IsTrue, nat_lt}
use Rattle.ballots.specs.Sets.{holds, set_of, every}
use Rattle.paths.specs.Paths.{below}
use Rattle.best.specs.Best.{Best}

-- by the strengths s, x is ahead of y
abbrev pub ahead_by : (ℕ → ℕ → ℕ) → ℕ → ℕ → Bool
ahead_by s x y = nat_lt (s y x) (s x y)

-- by the strengths s, of the candidates below v that are left, none is ahead of x
abbrev pub unbeaten_by : (ℕ → ℕ → ℕ) → ℕ → (ℕ → Bool) → ℕ → Bool
unbeaten_by s v left x = every (λ y. not (left y && ahead_by s y x)) v

-- by the strengths s, the set of the candidates below v of whom nobody is ahead
abbrev pub best_by : (ℕ → ℕ → ℕ) → ℕ → ℕ
best_by s v = set_of (unbeaten_by s v (λ _. true)) v

-- the set has the candidates below v that are among the best, and nobody else
pub record BestSet (w : ℕ → ℕ → ℕ) (v set : ℕ) : Type 0 where
  pub within : set < 2 ^ v
  pub each : (x : ℕ) → x < v → IsTrue (holds set x) ↔ Best w (below v) x
