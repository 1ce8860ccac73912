use Rattle.best.proofs.Clones.{clone_exchange}
use Rattle.best.proofs.Elections.{clone_exchange_by_ballots}
use Rattle.best.proofs.laws.clone_exchange_holds.Goals as goal

pub returns : goal.returns
returns c = record { any = clone_exchange; ballots = clone_exchange_by_ballots }
