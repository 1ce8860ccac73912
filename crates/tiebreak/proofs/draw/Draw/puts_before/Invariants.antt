use Rattle.std.proofs.Common.{◌≡◌, drop}
use Rattle.ballots.specs.Ballots.{unranked}
use Rattle.tiebreak.specs.Draws.{ballots_at, before_by_ballots}
use Rattle.tiebreak.specs.inner.Drawing.{numbers_of, before_of}
use Rattle.tiebreak.proofs.draw.Draw.puts_before.Given as goal

abbrev pub invariant-loop-number : goal.invariant-loop-number
invariant-loop-number l =
    let left = drop l.number-index (ballots_at l.self.file.bytes.now (numbers_of l.self)) in
    before_by_ballots unranked left l.x l.y ≡ before_of l.self l.x l.y
