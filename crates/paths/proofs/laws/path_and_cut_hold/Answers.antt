use Rattle.paths.proofs.Crossings.{path_and_cut}
use Rattle.paths.proofs.laws.path_and_cut_hold.Goals as goal

pub returns : goal.returns
returns c = path_and_cut
