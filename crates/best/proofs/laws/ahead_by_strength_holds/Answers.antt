use Rattle.best.proofs.Compare.{ahead_by_via}
use Rattle.best.proofs.Meanings.{ahead_by_strength}
use Rattle.best.proofs.laws.ahead_by_strength_holds.Goals as goal

pub returns : goal.returns
returns c = record { strengths = ahead_by_strength; among = ahead_by_via }
