use Rattle.paths.proofs.Grids.{grid_of}
use Rattle.paths.proofs.strengths.Strengths.grid.Goals as goal

pub returns : goal.returns
returns c =
    let me = c.args.self.now in
    grid_of _ _ me.strengths me.same me.has_strengths
