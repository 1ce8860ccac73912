use Rattle.std.proofs.Common.{length}
use Rattle.certificate.proofs.claims.+weakest_to.Given as goal

abbrev pub decreases-weakest_to : goal.decreases-weakest_to
decreases-weakest_to l = length l.row.now
