-- Cuts: sets of candidates that part two of them, and how strong the wins across are. Assumes nothing.
use Rattle.std.specs.Prelude.{◌≡◌, ℕ, ◌^◌, ◌<◌, ◌≤◌, Bool, true, false, ◌||◌, ◌==◌, nat_lt, if◌then◌else◌}
use Rattle.ballots.specs.Sets.{holds, set_of}
use Rattle.paths.specs.Middles.{pair, strength}

-- the set has x and not y, nobody but candidates below n, and none of it wins against one outside with more than s
pub record Cut (w : ℕ → ℕ → ℕ) (n x y s set : ℕ) : Type 0 where
  pub has : holds set x ≡ true
  pub lacks : holds set y ≡ false
  pub bounded : set < 2 ^ n
  pub across : (a b : ℕ) → a < n → b < n → holds set a ≡ true → holds set b ≡ false → w a b ≤ s

-- z is x, or x reaches z more strongly than y
abbrev pub nearer : (ℕ → ℕ → ℕ) → ℕ → ℕ → ℕ → ℕ → Bool
nearer w n x y z = z == x || nat_lt (strength w n x y) (strength w n x z)

-- the set of x and those nearer to x than y, empty where x and y are not two different candidates below n
abbrev pub cut : (ℕ → ℕ → ℕ) → ℕ → ℕ → ℕ → ℕ
cut w n x y = if pair n x y then set_of (nearer w n x y) n else 0
