use Rattle.std.proofs.Common.{◌≡◌}
use Rattle.slow_count.specs.Rows.{weakest}
use Rattle.slow_count.proofs.count.SlowCount.weakest.Given as goal

abbrev pub invariant-loop-step : goal.invariant-loop-step
invariant-loop-step l = l.weakest ≡ weakest l.self l.row l.step
