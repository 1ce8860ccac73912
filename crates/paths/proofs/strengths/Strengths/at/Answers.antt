use Rattle.paths.proofs.Grids.{number_strength}
use Rattle.paths.proofs.strengths.Strengths.at.Goals as goal

pub returns : goal.returns
returns c =
    let me = c.args.self.now in
    rw c.at.ensures (number_strength _ _ me.strengths me.same me.has_strengths c.args.x c.args.y)
