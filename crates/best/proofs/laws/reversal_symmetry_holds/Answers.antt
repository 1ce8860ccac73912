use Rattle.best.proofs.Elections.{reversal_symmetry_by_ballots}
use Rattle.best.proofs.Strict.{reversal_symmetry}
use Rattle.best.proofs.laws.reversal_symmetry_holds.Goals as goal

pub returns : goal.returns
returns c = record { any = reversal_symmetry; ballots = reversal_symmetry_by_ballots }
