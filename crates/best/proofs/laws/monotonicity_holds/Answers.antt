use Rattle.best.proofs.Elections.{monotonicity_by_one_ballot, monotonicity_by_ballots}
use Rattle.best.proofs.Monotone.{monotonicity}
use Rattle.best.proofs.laws.monotonicity_holds.Goals as goal

pub returns : goal.returns
returns c = record { any = monotonicity; one = monotonicity_by_one_ballot; many = monotonicity_by_ballots }
