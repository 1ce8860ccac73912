use Rattle.paths.proofs.Grids.{strength_of, is_strength}
use Rattle.paths.proofs.Via.{via_strongest}
use Rattle.paths.proofs.laws.strengths_hold.Goals as goal

pub returns : goal.returns
returns c = record { one = λ w n x y. (strength_of w n x y, λ s. is_strength w n); strongest = via_strongest }
