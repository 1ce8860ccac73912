use Rattle.std.proofs.Common.{refl, arith}
use Rattle.ballots.specs.Format.{most_candidates}
use Rattle.pairwise.proofs.AddedRows.{row_more}
use Rattle.pairwise.proofs.additions.add_recent.Goals as goal

pub loop-x-preserved : goal.loop-x-preserved
loop-x-preserved c =
    row_more most_candidates c.loop-x.x c.loop-y.y _ _ _ _ _ (λ b h. refl) c.loop-x.invariant (omega arith) c.loop-y.invariant
