use Rattle.std.proofs.Common.{◌≡◌}
use Rattle.ballots.specs.Sets.{set_of}
use Rattle.pairwise.specs.Grids.{number_for}
use Rattle.paths.specs.Cuts.{nearer}
use Rattle.paths.proofs.strengths.Strengths.cut.Given as goal

-- those before z who are nearer are in
abbrev pub invariant-loop-z : goal.invariant-loop-z
invariant-loop-z l = l.cut ≡ set_of (nearer (number_for l.self.wins) l.self.wins.candidates l.x l.y) l.z
