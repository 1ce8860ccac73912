use Rattle.best.proofs.Clones.{clone_independence}
use Rattle.best.proofs.Elections.{clone_independence_by_ballots}
use Rattle.best.proofs.laws.clone_independence_holds.Goals as goal

pub returns : goal.returns
returns c = record { any = clone_independence; ballots = clone_independence_by_ballots }
