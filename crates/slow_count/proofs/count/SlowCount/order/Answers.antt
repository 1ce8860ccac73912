use Rattle.std.proofs.Common.{◌≡◌, ℕ, ◌+◌, ◌-◌, suc, sym, ◌∙◌, arith, rules, append-nil}
use Rattle.slow_count.specs.declared.table.TheConstants.{MOST}
use Rattle.slow_count.specs.Counts.{everybody}
use Rattle.slow_count.specs.Orders.{order_of}
use Rattle.slow_count.proofs.Places.{next_below, placed, all_placed}
use Rattle.slow_count.proofs.count.SlowCount.order.Goals as goal
use Rattle.slow_count.proofs.count.SlowCount.order.Goals.{in-Some, in_default}

pub bounds-left-x : goal.bounds-left-x
bounds-left-x c = next_below c.args.self.now c.args.tie c.loop-place.left c.in-Some.x (sym c.in-Some.ensures)

pub loop-place-preserved : goal.loop-place-preserved
loop-place-preserved c =
    let count = c.args.self.now in
    let tie = c.args.tie in
    let left = c.loop-place.left in
    let n : ℕ = MOST - (c.loop-place._place + 1) in
    let more : MOST - c.loop-place._place ≡ suc n = omega arith in
    let order = c.loop-place.order.items in
    let all = order_of count tie (everybody count) MOST in
    let so_far = c.loop-place.invariant in
    elim c.match-next.branch [
      | in-Some w ↦ rw (w.order-is, w.left-is, w.push.ensures.items) (
        search (arith, rules, so_far.0),
        placed count tie left w.in-Some.x n order all (sym w.in-Some.ensures) (rw more at so_far.1),
      )
      | in_default w ↦ rw (w.order-is, w.left-is)
          (omega arith, all_placed count tie left _ n order all (sym w.in_default.ensures) so_far.1)
    ]

pub returns : goal.returns
unfolding order_of
returns c =
    let none : MOST - c.loop-place._place ≡ 0 = omega arith in
    sym (append-nil c.loop-place.order.items) ∙ (rw none at c.loop-place.invariant.1)
