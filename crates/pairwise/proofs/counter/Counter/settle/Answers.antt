use Rattle.std.proofs.Common.{◌+◌, ◌*◌, arith}
use Rattle.ballots.specs.Format.{most_candidates}
use Rattle.pairwise.specs.inner.Recent.{row_length}
use Rattle.pairwise.proofs.Cells.{zeros}
use Rattle.pairwise.proofs.counter.Counter.settle.Goals as goal

pub invariant_of-self : goal.invariant_of-self
invariant_of-self c = record {
  few = λ x y h. omega (arith, zeros (most_candidates * row_length) (x * row_length + y));
  fits = λ x y h. omega (
    arith,
    c.args.self.now.fits x y h,
    c.add_recent.ensures x y h.0 h.1,
    zeros (most_candidates * row_length) (x * row_length + y),
  );
}

pub returns-clause-recent : goal.returns-clause-recent
returns-clause-recent c = λ x y. zeros (most_candidates * row_length) (x * row_length + y)
