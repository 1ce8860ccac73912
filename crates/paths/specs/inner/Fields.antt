-- What is kept of each pair of candidates: its strength, and the candidates that part its path. Assumes nothing.
use Rattle.std.specs.Prelude.{◌≡◌, ℕ, zero, suc, ◌<◌, List, Some, None, Option, if◌then◌else◌}
use Rattle.ballots.specs.Format.{most_candidates}
use Rattle.ballots.specs.Sets.{holds}
use Rattle.pairwise.specs.Grids.{cell}
use Rattle.paths.specs.Paths.{below}
use Rattle.paths.specs.Middles.{strength, bettered}

-- each cell has the strength of its pair, and 0 where there is no such pair
abbrev pub HasStrengths : (ℕ → ℕ → ℕ) → ℕ → List ℕ → Type 0
HasStrengths w n cs = (x y : ℕ) → x < most_candidates → y < most_candidates → cell cs x y ≡ strength w n x y

-- each cell has the set of the candidates that bettered its pair as the one in the middle
abbrev pub HasMiddles : (ℕ → ℕ → ℕ) → ℕ → List ℕ → Type 0
HasMiddles w n hs =
    (x y z : ℕ) → x < n → y < n → z < n → holds (cell hs x y) z ≡ bettered w (below n) x y z

-- the last candidate below n that is in the set
abbrev pub last_below : ℕ → ℕ → Option ℕ
last_below set zero = None
last_below set (suc n) = if holds set n then Some n else last_below set n
