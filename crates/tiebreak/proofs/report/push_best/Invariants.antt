use Rattle.std.proofs.Common.{◌≡◌, ◌++◌}
use Rattle.ballots.specs.Sets.{holds, room}
use Rattle.ballots.specs.Sets.{members}
use Rattle.ballots.specs.Members.{members_left}
use Rattle.tiebreak.specs.Reports.{numbers_text, best_line}
use Rattle.tiebreak.proofs.report.push_best.Given as goal

abbrev pub invariant-loop-x : goal.invariant-loop-x
invariant-loop-x l =
    l.text.bytes ++ numbers_text (members_left l.x-iterator) ≡ l.fn.text.bytes ++ best_line l.fn.ballots (members (holds l.fn.best) room)
