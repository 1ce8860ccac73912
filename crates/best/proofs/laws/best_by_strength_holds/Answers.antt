use Rattle.best.proofs.Compare.{best_by_via, best_unbeaten}
use Rattle.best.proofs.Meanings.{best_by_strength}
use Rattle.best.proofs.laws.best_by_strength_holds.Goals as goal

pub returns : goal.returns
returns c = record { strengths = best_by_strength; among = best_by_via; unbeaten = best_unbeaten }
