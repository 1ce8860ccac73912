use Rattle.std.proofs.Common.{arith}
use Rattle.std.proofs.lemmas.Nat.{or_lt}
use Rattle.ballots.specs.Sets.{room}
use Rattle.ballots.proofs.Masks.{mask_lt, with_one}
use Rattle.ballots.proofs.candidate_set.CandidateSet.insert.Goals as goal

pub returns-clause-members : goal.returns-clause-members
returns-clause-members c = rw (← c.self.view_is, c.bit_of.ensures) (with_one c.self.inside.bits c.args.candidate)

pub returns-clause-within : goal.returns-clause-within
returns-clause-within c = rw c.bit_of.ensures (or_lt room c.self.inside.bits _ (omega arith) (mask_lt c.args.candidate))
