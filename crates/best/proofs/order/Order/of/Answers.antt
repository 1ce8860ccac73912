use Rattle.std.proofs.Common.{◌≡◌, ◌≤◌, ℕ, length, ap, arith}
use Rattle.ballots.specs.Format.{most_candidates}
use Rattle.best.proofs.Places.{zero_behind}
use Rattle.best.proofs.order.Order.of.Goals as goal

pub returns-clause-behind : goal.returns-clause-behind
returns-clause-behind c = λ i l.
    let copied = ap length c.copy_from_slice.ensures.after in
    let same = ap length c.as_slice.ensures.value in
    zero_behind c.copy_from_slice.new.self c.len-candidates.result most_candidates i
    (omega (arith, l, copied, same, c.len-candidates.ensures.value))
