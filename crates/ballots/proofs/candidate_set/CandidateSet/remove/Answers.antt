use Rattle.std.proofs.Common.{arith}
use Rattle.ballots.proofs.Masks.{without_one}
use Rattle.ballots.proofs.candidate_set.CandidateSet.remove.Goals as goal

pub returns-clause-members : goal.returns-clause-members
returns-clause-members c = rw (← c.self.view_is, c.bit_of.ensures) (without_one c.self.inside.bits c.args.candidate (omega arith))
