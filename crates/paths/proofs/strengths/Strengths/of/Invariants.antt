use Rattle.pairwise.specs.Grids.{number_for}
use Rattle.paths.proofs.Phases.{Phase}
use Rattle.paths.proofs.strengths.Strengths.of.Given as goal

abbrev pub invariant-loop-middle : goal.invariant-loop-middle
invariant-loop-middle l = Phase (number_for l.wins) l.candidates l.middle 0 0 l.cells l.middles

abbrev pub invariant-loop-x : goal.invariant-loop-x
invariant-loop-x l = Phase (number_for l.wins) l.candidates l.middle l.x 0 l.cells l.middles

abbrev pub invariant-loop-y : goal.invariant-loop-y
invariant-loop-y l = Phase (number_for l.wins) l.candidates l.middle l.x l.y l.cells l.middles
