use Rattle.std.proofs.Common.{ℕ, List, length, ap, ◌∙◌, arith, rules, append_assoc, length-append}
use Rattle.pairwise.specs.Grids.{number_for}
use Rattle.paths.specs.Paths.{below}
use Rattle.paths.specs.Middles.{path}
use Rattle.paths.proofs.Parts.{alone, parted}
use Rattle.paths.proofs.strengths.Strengths.+push_after.Goals as goal

pub push-requires : goal.push-requires
push-requires t c =
    let me = c.args.self.now in
    let e = alone (number_for me.wins) me.wins.candidates me.middles me.has_middles c.args.x c.args.y _
    (omega arith) (omega arith) (search rules) c.args.limit (omega arith) c.in-None.ensures in
    (omega arith, omega (arith, ap length e))

pub push_after-requires : goal.push_after-requires
push_after-requires t c =
    let me = c.args.self.now in
    let p = parted (number_for me.wins) me.wins.candidates me.middles me.has_middles c.args.x c.args.y _
    (omega arith) (omega arith) (search rules) c.args.limit c.in-Some.middle (omega arith) c.in-Some.ensures in
    (omega (arith, c.decreases, p.low), ((omega arith, omega (arith, p.low), omega (arith, p.low)), omega (arith, p.long)))

pub push_after-requires-in-Some : goal.push_after-requires-in-Some
push_after-requires-in-Some t c =
    let me = c.args.self.now in
    let p = parted (number_for me.wins) me.wins.candidates me.middles me.has_middles c.args.x c.args.y _
    (omega arith) (omega arith) (search rules) c.args.limit c.in-Some.middle (omega arith) c.in-Some.ensures in
    let first = ap length c.push_after.ensures ∙ length-append c.args.row.now.items
    (path (number_for me.wins) (below me.wins.candidates) c.in-Some.middle c.args.x c.in-Some.middle) in
    (omega (arith, c.decreases, p.low), ((omega (arith, p.low), omega arith, omega (arith, p.low)), omega (arith, p.long, first)))

pub returns-in-None : goal.returns-in-None
returns-in-None t c =
    let me = c.args.self.now in
    let e = alone (number_for me.wins) me.wins.candidates me.middles me.has_middles c.args.x c.args.y _
    (omega arith) (omega arith) (search rules) c.args.limit (omega arith) c.in-None.ensures in
    rw e c.push.ensures.items

pub returns-in-Some : goal.returns-in-Some
returns-in-Some t c =
    let me = c.args.self.now in
    let p = parted (number_for me.wins) me.wins.candidates me.middles me.has_middles c.args.x c.args.y _
    (omega arith) (omega arith) (search rules) c.args.limit c.in-Some.middle (omega arith) c.in-Some.ensures in
    let first : List ℕ = path (number_for me.wins) (below me.wins.candidates) c.in-Some.middle c.args.x c.in-Some.middle in
    c.push_after-in-Some.ensures ∙ rw (c.push_after.ensures, p.row) (append_assoc c.args.row.now.items first _)
