use Rattle.std.proofs.Common.{sym, inl, inr}
use Rattle.std.proofs.lemmas.Bool.{cases_lt, lt-ltb, le-ltb}
use Rattle.pairwise.proofs.OrderedPairs.{from_first, from_end}
use Rattle.pairwise.proofs.pairs.Pairs.of.Goals as goal

pub returns : goal.returns
returns c = elim (cases_lt 0 c.args.candidates) [
  | inl l ↦ rw (lt-ltb 0 c.args.candidates l) (sym (from_first c.args.candidates 0 l))
  | inr l ↦ rw (le-ltb 0 c.args.candidates l) (sym (from_end c.args.candidates 0 l))
]
