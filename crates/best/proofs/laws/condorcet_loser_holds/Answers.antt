use Rattle.best.proofs.Dominating.{condorcet_loser}
use Rattle.best.proofs.Elections.{condorcet_loser_by_ballots}
use Rattle.best.proofs.laws.condorcet_loser_holds.Goals as goal

pub returns : goal.returns
returns c = record { any = condorcet_loser; ballots = condorcet_loser_by_ballots }
