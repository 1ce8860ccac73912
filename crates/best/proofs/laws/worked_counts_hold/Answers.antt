use Rattle.best.proofs.Worked.{worked_counts}
use Rattle.best.proofs.laws.worked_counts_hold.Goals as goal

pub returns : goal.returns
returns c = worked_counts
