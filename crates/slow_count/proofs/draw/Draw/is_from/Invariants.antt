use Rattle.std.proofs.Common.{◌≡◌, length}
use Rattle.slow_count.specs.Files.{ballots_in}
use Rattle.slow_count.specs.Draws.{is_draw}
use Rattle.slow_count.proofs.draw.Draw.is_from.Given as goal

-- those so far are drawn once
abbrev pub invariant-loop-rest : goal.invariant-loop-rest
invariant-loop-rest l =
    is_draw (ballots_in l.file.bytes.now) l.rest ≡ is_draw (ballots_in l.file.bytes.now) l.self.numbers.now

abbrev pub decreases-loop-rest : goal.decreases-loop-rest
decreases-loop-rest l = length l.rest
