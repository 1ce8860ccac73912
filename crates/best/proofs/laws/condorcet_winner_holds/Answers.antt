use Rattle.best.proofs.Dominating.{condorcet_winner}
use Rattle.best.proofs.Elections.{condorcet_winner_by_ballots}
use Rattle.best.proofs.laws.condorcet_winner_holds.Goals as goal

pub returns : goal.returns
returns c = record { any = condorcet_winner; ballots = condorcet_winner_by_ballots }
