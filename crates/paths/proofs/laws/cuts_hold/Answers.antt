use Rattle.paths.proofs.Crossings.{cut_bounds}
use Rattle.paths.proofs.laws.cuts_hold.Goals as goal

pub returns : goal.returns
returns c = cut_bounds
