use Rattle.best.proofs.Striking.{one_answer}
use Rattle.best.proofs.laws.one_answer_holds.Goals as goal

pub returns : goal.returns
returns c = one_answer
