use Rattle.std.proofs.Common.{ap, ◌∙◌}
use Rattle.pairwise.specs.Pairs.{to_come}
use Rattle.certificate.proofs.Writing.{left_all, left_second}
use Rattle.certificate.proofs.writer.write_entries.Goals as goal

pub loop-x-init : goal.loop-x-init
loop-x-init c = rw (ap to_come c.into_iter-x-iterator.ensures.into_iter_gives ∙ c.of-x-items.ensures) (left_all c.requires)

pub loop-x-preserved : goal.loop-x-preserved
loop-x-preserved c = left_second (rw c.in-Some.ensures.steps at c.loop-x.invariant) c.write_entry.ensures
