use Rattle.ballots.proofs.StruckFiles.{strike_keeps_ranks}
use Rattle.ballots.proofs.laws.striking_keeps_ranks.Goals as goal

pub returns : goal.returns
returns c = strike_keeps_ranks
