use Rattle.pairwise.specs.inner.Recent.{row_length}
use Rattle.pairwise.specs.Pairwise.{preference}
use Rattle.pairwise.proofs.AddedRows.{RowsAdded, RowAdded, above}
use Rattle.pairwise.proofs.additions.add_ballot.Given as goal

abbrev pub invariant-loop-x : goal.invariant-loop-x
invariant-loop-x l = RowsAdded row_length (preference l.ballot.ranks.now) l.x l.initial.recent l.recent

abbrev pub invariant-loop-y : goal.invariant-loop-y
invariant-loop-y l = RowAdded row_length (above l.key l.other-items) l.x l.y l.initial.recent l.recent
