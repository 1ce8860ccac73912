use Rattle.std.proofs.Common.{refl, arith}
use Rattle.pairwise.specs.inner.Recent.{row_length}
use Rattle.pairwise.proofs.Cells.{zeros}
use Rattle.pairwise.proofs.additions.keys_of.Goals as goal

pub loop-i-init : goal.loop-i-init
loop-i-init c = (refl, (λ k h. omega arith), λ k h. zeros row_length k)
