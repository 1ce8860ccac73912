use Rattle.std.proofs.Common.{◌≡◌, length}
use Rattle.slow_count.specs.Draws.{draws}
use Rattle.slow_count.proofs.draw.draws.Given as goal

-- the ballot is none of those so far
abbrev pub invariant-loop-rest : goal.invariant-loop-rest
invariant-loop-rest l = draws l.ballot l.rest ≡ draws l.ballot l.numbers

abbrev pub decreases-loop-rest : goal.decreases-loop-rest
decreases-loop-rest l = length l.rest
