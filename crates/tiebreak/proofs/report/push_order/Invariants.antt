use Rattle.std.proofs.Common.{◌≡◌, ◌++◌, drop}
use Rattle.tiebreak.specs.Reports.{numbers_text, order_line}
use Rattle.tiebreak.proofs.report.push_order.Given as goal

abbrev pub invariant-loop-candidate : goal.invariant-loop-candidate
invariant-loop-candidate l =
    l.text.bytes ++ numbers_text (drop l.candidate-index l.places) ≡ l.fn.text.bytes ++ order_line l.places
