use Rattle.paths.proofs.Grids.{table_is}
use Rattle.paths.proofs.strengths.Strengths.copy_to.Goals as goal

pub returns : goal.returns
returns c =
    let me = c.args.self.now in
    rw (table_is _ _ me.strengths me.same me.has_strengths) at c.copy_to.ensures
