use Rattle.std.proofs.lemmas.Bool.{ne_eqb}
use Rattle.paths.proofs.Grids.{is_strength}
use Rattle.paths.proofs.strengths.Strengths.is_nearer.Goals as goal

pub returns-else-z-x : goal.returns-else-z-x
returns-else-z-x c =
    rw (ne_eqb c.args.z c.args.x c.if-z-x.false, is_strength _ _ c.at-else-z-x.ensures, is_strength _ _ c.at.ensures)
