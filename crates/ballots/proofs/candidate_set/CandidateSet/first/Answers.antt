use Rattle.std.proofs.Common.{arith}
use Rattle.ballots.proofs.Masks.{smallest_bit}
use Rattle.ballots.proofs.candidate_set.CandidateSet.first.Goals as goal

pub returns-else-self-eq0 : goal.returns-else-self-eq0
returns-else-self-eq0 c = rw (← c.self.view_is) (smallest_bit c.self.inside.bits (omega arith) (omega arith))
