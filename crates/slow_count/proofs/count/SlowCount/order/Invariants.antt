use Rattle.std.proofs.Common.{◌≡◌, ◌≤◌, ◌++◌, ◌-◌, length}
use Rattle.slow_count.specs.declared.table.TheConstants.{MOST}
use Rattle.slow_count.specs.Counts.{everybody}
use Rattle.slow_count.specs.Orders.{order_of}
use Rattle.slow_count.proofs.count.SlowCount.order.Given as goal

-- behind those who have their place come those who are left
abbrev pub invariant-loop-place : goal.invariant-loop-place
invariant-loop-place l =
    (length l.order.items ≤ l._place)
    × (l.order.items ++ order_of l.self l.tie l.left (MOST - l._place) ≡ order_of l.self l.tie (everybody l.self) MOST)
