use Rattle.best.proofs.Pareto.{pareto}
use Rattle.best.proofs.laws.pareto_holds.Goals as goal

pub returns : goal.returns
returns c = pareto
