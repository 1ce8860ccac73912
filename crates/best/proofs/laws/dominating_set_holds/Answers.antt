use Rattle.best.proofs.Dominating.{dominating_set}
use Rattle.best.proofs.Elections.{dominating_set_by_ballots}
use Rattle.best.proofs.laws.dominating_set_holds.Goals as goal

pub returns : goal.returns
returns c = record { any = dominating_set; ballots = dominating_set_by_ballots }
