use Rattle.best.proofs.Firsts.{by_keys}
use Rattle.best.proofs.Places.{one_order, each_stands_once, first_is_best, ahead_stands_before}
use Rattle.best.proofs.laws.full_order_holds.Goals as goal

pub returns : goal.returns
returns c = record {
  keys = by_keys;
  one = one_order;
  once = each_stands_once;
  first = first_is_best;
  ahead = ahead_stands_before;
}
