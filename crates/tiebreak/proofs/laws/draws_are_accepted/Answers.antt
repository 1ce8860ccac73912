use Rattle.tiebreak.proofs.Draws.{draws_accepted, draws_refused}
use Rattle.tiebreak.proofs.laws.draws_are_accepted.Goals as goal

pub returns : goal.returns
returns c = record { accepted = draws_accepted; refused = draws_refused }
