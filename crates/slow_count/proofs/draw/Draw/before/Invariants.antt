use Rattle.std.proofs.Common.{◌≡◌, length}
use Rattle.slow_count.specs.Draws.{drawn_before}
use Rattle.slow_count.proofs.draw.Draw.before.Given as goal

-- those so far decide nothing
abbrev pub invariant-loop-rest : goal.invariant-loop-rest
invariant-loop-rest l =
    let before = drawn_before l.file.bytes.now l.x l.y in before l.rest ≡ before l.self.numbers.now

abbrev pub decreases-loop-rest : goal.decreases-loop-rest
decreases-loop-rest l = length l.rest
