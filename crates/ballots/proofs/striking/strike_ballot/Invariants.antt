use Rattle.std.proofs.Common.{◌≡◌, take}
use Rattle.ballots.specs.Strikes.{ranks_at}
use Rattle.ballots.proofs.striking.strike_ballot.Given as goal

abbrev pub invariant-loop-place : goal.invariant-loop-place
invariant-loop-place l = take l.place l.out ≡ take l.place (ranks_at l.staying l.ballot.ranks.now)
