use Rattle.std.proofs.Common.{◌≡◌, min, arith}
use Rattle.ballots.specs.Sets.{room}
use Rattle.ballots.proofs.Masks.{below_mask, everybody}
use Rattle.ballots.proofs.candidate_set.CandidateSet.all_below.Goals as goal

pub returns-then-n-lt-ROOM : goal.returns-then-n-lt-ROOM
returns-then-n-lt-ROOM c = let m : min c.args.n room ≡ c.args.n = omega arith in rw m (below_mask c.args.n c.if-n-lt-ROOM.true)

pub returns-else-n-lt-ROOM : goal.returns-else-n-lt-ROOM
returns-else-n-lt-ROOM c = let m : min c.args.n room ≡ room = omega arith in rw m (omega (arith, everybody room))
