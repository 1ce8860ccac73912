use Rattle.std.proofs.Common.{arith}
use Rattle.std.proofs.lemmas.Bool.Decides.{nat_tests}
use Rattle.certificate.specs.Judge.{is_cut}
use Rattle.certificate.proofs.Support.{within_all}
use Rattle.certificate.proofs.claims.is_cut.Goals as goal
use Rattle.certificate.proofs.claims.is_cut.Goals.{then-bits, else-bits, then-contains, else-contains}

pub returns-then-not-contains : goal.returns-then-not-contains
unfolding is_cut
returns-then-not-contains c =
    let small = within_all c.args.set c.args.pairwise.now.counts.candidates c.args.pairwise.now.counts.few in
    elim c.if-contains.branch [
      | then-contains w ↦ elim c.if-bits.branch [ then-bits u ↦ grind (arith, nat_tests) | else-bits u ↦ grind (arith, nat_tests) ]
      | else-contains w ↦ grind (arith, nat_tests)
    ]
