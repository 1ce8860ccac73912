use Rattle.best.proofs.Elections.{some_best_by_ballots}
use Rattle.best.proofs.Maximal.{some_best}
use Rattle.best.proofs.laws.some_best_holds.Goals as goal

pub returns : goal.returns
returns c = record { any = some_best; ballots = some_best_by_ballots }
