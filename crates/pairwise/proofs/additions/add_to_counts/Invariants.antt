use Rattle.ballots.specs.Format.{most_candidates}
use Rattle.pairwise.specs.Pairwise.{preference}
use Rattle.pairwise.proofs.AddedRows.{RowsAdded, RowAdded, above}
use Rattle.pairwise.proofs.additions.add_to_counts.Given as goal

abbrev pub invariant-loop-x : goal.invariant-loop-x
invariant-loop-x l = RowsAdded most_candidates (preference l.ballot.ranks.now) l.x l.initial.counts l.counts

abbrev pub invariant-loop-y : goal.invariant-loop-y
invariant-loop-y l = RowAdded most_candidates (above l.key l.other-items) l.x l.y l.initial.counts l.counts
