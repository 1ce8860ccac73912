use Rattle.std.proofs.Common.{◌^◌, ◌<◌, arith}
use lib.Bits.{bit_and}
use Rattle.ballots.specs.Sets.{room}
use Rattle.paths.proofs.Lasts.{lower_none, lower_some}
use Rattle.paths.proofs.strengths.last_below.Goals as goal

pub returns-then-lower-eq0 : goal.returns-then-lower-eq0
returns-then-lower-eq0 c =
    let fits : c.args.set < 2 ^ room = omega (arith, c.bits.ensures) in
    lower_none c.args.set c.args.limit fits (rw (c.bits.ensures, c.bits-2.ensures, c.all_below.ensures) at c.if-lower-eq0.true)

pub returns-else-lower-eq0 : goal.returns-else-lower-eq0
returns-else-lower-eq0 c =
    let fits : c.args.set < 2 ^ room = omega (arith, c.bits.ensures) in
    let some : 0 < bit_and c.bits.result c.bits-2.result = omega arith in
    let some = rw (c.bits.ensures, c.bits-2.ensures, c.all_below.ensures) at some in
    rw (c.bits.ensures, c.bits-2.ensures, c.all_below.ensures) (lower_some c.args.set c.args.limit fits some)
