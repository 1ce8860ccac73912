use Rattle.std.proofs.Common.{◌+◌, ◌*◌, arith}
use Rattle.ballots.specs.Format.{most_candidates}
use Rattle.pairwise.specs.Grids.{cells}
use Rattle.pairwise.specs.inner.Recent.{row_length}
use Rattle.pairwise.proofs.Cells.{zeros}
use Rattle.pairwise.proofs.counter.Counter.new.Goals as goal

pub invariant_of-result : goal.invariant_of-result
invariant_of-result c = record {
  few = λ x y h. omega (arith, zeros (most_candidates * row_length) (x * row_length + y));
  fits = λ x y h. omega (arith, zeros cells (x * most_candidates + y), zeros (most_candidates * row_length) (x * row_length + y));
}

pub returns : goal.returns
returns c = λ x y. omega (arith, zeros cells (x * most_candidates + y), zeros (most_candidates * row_length) (x * row_length + y))
