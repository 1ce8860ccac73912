use Rattle.std.proofs.Common.{◌≡◌}
use Rattle.ballots.specs.Sets.{holds, members}
use Rattle.ballots.proofs.striking.staying.Given as goal

abbrev pub invariant-loop-x : goal.invariant-loop-x
invariant-loop-x l = l.staying.items ≡ members (holds l.keep) l.x
