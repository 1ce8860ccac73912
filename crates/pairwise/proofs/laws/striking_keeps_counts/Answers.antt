use Rattle.pairwise.proofs.StruckCounts.{struck_counts}
use Rattle.pairwise.proofs.laws.striking_keeps_counts.Goals as goal

pub returns : goal.returns
returns c = struck_counts
