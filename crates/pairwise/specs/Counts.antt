-- Ballots compared in pairs: how many put one candidate over another, and the wins that follow. Assumes nothing.
use Rattle.std.specs.Prelude.{ℕ, ◌+◌, if◌then◌else◌, List, [], ◌∷◌, nat_lt}
use Rattle.ballots.specs.Ballots.{over}

-- n(x, y): how many of the ballots put x over y
unfoldable pub count : ℕ → List (List ℕ) → ℕ → ℕ → ℕ
count last [] x y = 0
count last (p ∷ ps) x y = (if over last p x y then 1 else 0) + count last ps x y

-- the strength of the win of x against y: the ballots for it, 0 where x does not win. Equal counts are nobody's win
abbrev pub win_by : (ℕ → ℕ → ℕ) → ℕ → ℕ → ℕ
win_by n x y = if nat_lt (n y x) (n x y) then n x y else 0

-- the wins of the ballots
unfoldable pub win : ℕ → List (List ℕ) → ℕ → ℕ → ℕ
win last ps x y = win_by (count last ps) x y
