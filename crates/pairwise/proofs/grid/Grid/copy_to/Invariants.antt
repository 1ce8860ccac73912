use Rattle.std.proofs.Common.{◌≡◌}
use Rattle.pairwise.specs.Grids.{number_for}
use Rattle.pairwise.proofs.Rows.{front_rows}
use Rattle.pairwise.proofs.grid.Grid.copy_to.Given as goal

abbrev pub invariant-loop-x : goal.invariant-loop-x
invariant-loop-x l = l.out ≡ front_rows l.v (number_for l.self) l.x l.initial.out
