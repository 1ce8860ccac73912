use Rattle.best.proofs.Elections.{ahead_is_an_order_by_ballots}
use Rattle.best.proofs.Strict.{ahead_is_an_order}
use Rattle.best.proofs.laws.ahead_is_an_order_holds.Goals as goal

pub returns : goal.returns
returns c = record { any = ahead_is_an_order; ballots = ahead_is_an_order_by_ballots }
