use Rattle.std.proofs.Common.{List, ℕ, ◌++◌, arith, length-append}
use Rattle.ballots.specs.Sets.{holds, room}
use Rattle.ballots.specs.Sets.{members}
use Rattle.ballots.specs.Members.{members_left}
use Rattle.tiebreak.specs.Reports.{number_text, numbers_text, best_line}
use Rattle.tiebreak.proofs.Room.{front_fits}
use Rattle.tiebreak.proofs.report.push_best.Goals as goal

pub push_number-requires-in-loop-x : goal.push_number-requires-in-loop-x
push_number-requires-in-loop-x c =
    let whole : List ℕ = best_line c.args.ballots (members (holds c.args.best) room) in
    let e = rw c.in-Some.ensures.steps at c.loop-x.invariant in
    omega (
      arith,
      front_fits c.loop-x.text.bytes (number_text c.in-Some.x) (numbers_text (members_left c.next.new.self)) (c.args.text.now.bytes ++ whole) e,
      length-append c.args.text.now.bytes whole,
      c.requires,
    )
