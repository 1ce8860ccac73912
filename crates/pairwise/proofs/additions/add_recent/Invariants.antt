use Rattle.ballots.specs.Format.{most_candidates}
use Rattle.pairwise.specs.inner.Recent.{byte}
use Rattle.pairwise.proofs.AddedRows.{RowsAdded, RowAdded}
use Rattle.pairwise.proofs.additions.add_recent.Given as goal

abbrev pub invariant-loop-x : goal.invariant-loop-x
invariant-loop-x l = RowsAdded most_candidates (byte l.recent) l.x l.initial.counts l.counts

abbrev pub invariant-loop-y : goal.invariant-loop-y
invariant-loop-y l = RowAdded most_candidates (byte l.recent l.x) l.x l.y l.initial.counts l.counts
