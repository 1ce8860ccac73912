use Rattle.paths.specs.inner.Phases.{Cleared}
use Rattle.paths.proofs.search.clear_diagonal.Given as goal

abbrev pub invariant-loop-x : goal.invariant-loop-x
invariant-loop-x l = Cleared l.x l.initial.cells l.cells
