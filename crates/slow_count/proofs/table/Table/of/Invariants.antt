use Rattle.std.proofs.Common.{◌≡◌, ℕ, ◌<◌, ◌/◌, ◌%◌, length}
use Rattle.std.specs.Prelude.{slice_index}
use Rattle.slow_count.specs.declared.table.TheConstants.{MOST, CELLS}
use Rattle.slow_count.proofs.table.Table.of.Given as goal

-- each cell before this one has its number
abbrev pub invariant-loop-cell : goal.invariant-loop-cell
invariant-loop-cell g l =
    (length l.cells ≡ CELLS)
    × ((k : ℕ) → k < l.cell → goal.F-post g l.number (k / MOST) (k % MOST) (slice_index l.cells k))
