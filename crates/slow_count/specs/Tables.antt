-- Numbers of pairs of candidates, and wins. Assumes nothing.
use Rattle.std.specs.Prelude.{◌≡◌, ℕ, ◌+◌, ◌*◌, ◌/◌, ◌%◌, ◌<◌, if◌then◌else◌, ◌&&◌, nat_lt, slice_index}
use Rattle.slow_count.specs.declared.table.TheConstants.{MOST, CELLS}
use Rattle.slow_count.specs.declared.table.Table.{Table}

-- the number that a table has for x and y, and 0 where there is no such pair
abbrev pub cell : Table → ℕ → ℕ → ℕ
cell t x y = if nat_lt x MOST && nat_lt y MOST then slice_index t.cells (x * MOST + y) else 0

-- the table has for each pair the number that f gives to it
abbrev pub NumbersOf : (ℕ → ℕ → ℕ) → Table → Type 0
NumbersOf f t = (k : ℕ) → k < CELLS → slice_index t.cells k ≡ f (k / MOST) (k % MOST)

-- the number of the ballots for x where more are for x than against it, and 0 elsewhere
abbrev pub win : Table → ℕ → ℕ → ℕ
win n x y = if nat_lt (cell n y x) (cell n x y) then cell n x y else 0
