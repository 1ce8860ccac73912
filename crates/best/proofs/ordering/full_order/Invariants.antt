use Rattle.ballots.specs.Sets.{holds, number}
use Rattle.pairwise.specs.Grids.{number_for}
use Rattle.best.specs.TieBreak.{before_by}
use Rattle.best.proofs.Making.{Made}
use Rattle.best.proofs.ordering.full_order.Given as goal

abbrev pub invariant-loop-x : goal.invariant-loop-x
invariant-loop-x l =
    let g = l.strengths.wins in Made (number_for g) g.candidates (before_by l.tie_break.keys) l.left l.row.items

abbrev pub decreases-loop-x : goal.decreases-loop-x
decreases-loop-x l = number (holds l.left) l.strengths.wins.candidates
