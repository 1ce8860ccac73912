use Rattle.pairwise.proofs.Order.{count_order_free, table_order_free}
use Rattle.pairwise.proofs.laws.order_of_ballots_is_free.Goals as goal

pub returns : goal.returns
returns c = record { counts = count_order_free; tables = table_order_free }
