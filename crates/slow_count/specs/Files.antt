-- What a file of ballots says, byte by byte. Assumes nothing.
use Rattle.std.specs.Prelude.{ℕ, zero, suc, ◌+◌, ◌*◌, Bool, if◌then◌else◌, ◌&&◌, ◌||◌, List, ◌==◌, nat_lt, slice_index}

-- the number of candidates
abbrev pub candidates_in : List ℕ → ℕ
candidates_in bs = slice_index bs 0

-- the number of ballots, low byte first
abbrev pub ballots_in : List ℕ → ℕ
ballots_in bs = slice_index bs 1 + 256 * slice_index bs 2

-- the rank that ballot i gives to x, and 0 where x is no candidate
abbrev pub rank : List ℕ → ℕ → ℕ → ℕ
rank bs i x = if nat_lt x (candidates_in bs) then slice_index bs (3 + i * candidates_in bs + x) else 0

-- ballot i prefers x to y: both are candidates, x is ranked, and y is not or has the greater rank
abbrev pub prefers : List ℕ → ℕ → ℕ → ℕ → Bool
prefers bs i x y =
    nat_lt y (candidates_in bs) && nat_lt 0 (rank bs i x) && (rank bs i y == 0 || nat_lt (rank bs i x) (rank bs i y))

-- how many of the first n ballots prefer x to y
abbrev pub preferring : List ℕ → ℕ → ℕ → ℕ → ℕ
preferring bs x y zero = 0
preferring bs x y (suc n) = preferring bs x y n + (if prefers bs n x y then 1 else 0)

-- how many ballots prefer x to y
abbrev pub count : List ℕ → ℕ → ℕ → ℕ
count bs x y = preferring bs x y (ballots_in bs)
