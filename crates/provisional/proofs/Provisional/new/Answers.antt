use Rattle.provisional.proofs.Taking.{none_taken}
use Rattle.provisional.proofs.Provisional.new.Goals as goal

pub returns-clause-none : goal.returns-clause-none
returns-clause-none c =
    none_taken c.args.candidates record { pairwise = c.in_ok-empty.field-0 } c.in_ok-empty.ensures.counts
