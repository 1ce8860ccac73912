use Rattle.std.proofs.Common.{◌+◌, ◌*◌, refl, arith}
use Rattle.ballots.specs.Format.{most_candidates}
use Rattle.pairwise.specs.Grids.{cells}
use Rattle.pairwise.proofs.Cells.{zeros}
use Rattle.pairwise.proofs.pairwise.Pairwise.empty.Goals as goal

pub invariant_of-result-2 : goal.invariant_of-result-2
invariant_of-result-2 c = record { bounded = λ x y h. omega (arith, zeros cells (x * most_candidates + y)) }

pub returns-clause-counts : goal.returns-clause-counts
returns-clause-counts c = record { ballots = refl; candidates = refl; counts = λ x y h k. zeros cells (x * most_candidates + y) }
