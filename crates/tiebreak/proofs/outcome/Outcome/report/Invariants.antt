use Rattle.best.specs.Order.{row_of}
use Rattle.std.proofs.Common.{◌≡◌, ◌+◌, ◌-◌, ◌*◌, ◌<◌, ◌≤◌, [], ◌∷◌, ◌++◌, length}
use Rattle.std.specs.List.{AllByRecursion, flat_map}
use Rattle.ballots.specs.Format.{most_candidates}
use Rattle.pairwise.specs.Grids.{number_for}
use Rattle.pairwise.specs.Pairs.{to_come}
use Rattle.tiebreak.specs.declared.report.TheConstants.{BEST_ROOM, AHEAD_ROOM}
use Rattle.tiebreak.specs.Reports.{text_of_lines, ahead_lines, order_line, report_of}
use Rattle.tiebreak.proofs.outcome.Outcome.report.Given as goal

abbrev pub invariant-loop-x : goal.invariant-loop-x
invariant-loop-x l = record {
  text : l.text.bytes
      ++ text_of_lines (flat_map (ahead_lines (number_for l.self.strengths)) (to_come l.x-iterator) ++ order_line (row_of l.self.order) ∷ [])
      ≡ report_of l.self;
  room : length l.text.bytes + AHEAD_ROOM * length (to_come l.x-iterator)
      ≤ BEST_ROOM + AHEAD_ROOM * (most_candidates * (most_candidates - 1));
  pairs : AllByRecursion (λ p. (p.0 < most_candidates) × (p.1 < most_candidates)) (to_come l.x-iterator);
}
