use Rattle.best.proofs.Striking.{answers_independent, both_agree}
use Rattle.best.proofs.laws.answers_are_clone_independent.Goals as goal

pub returns : goal.returns
returns c = record { independent = answers_independent; both = both_agree }
