use Rattle.std.proofs.Common.{◌≡◌, ◌∙◌, rules, arith}
use Rattle.slow_count.specs.declared.table.TheConstants.{MOST}
use Rattle.slow_count.proofs.Search.{strongest_here, strongest_end, strongest_onward}
use Rattle.slow_count.proofs.strengths.+strongest.Goals as goal

pub returns-then-x-y : goal.returns-then-x-y
returns-then-x-y t c = strongest_here _ _ c.args.left _ _ c.if-x-y.true

pub returns-in_default : goal.returns-in_default
returns-in_default t c = strongest_end _ _ c.args.left _ _ c.if-x-y.false (omega (arith, c.in_default.ensures))

pub returns : goal.returns
returns t c =
    let end : c.loop-z.z ≡ MOST = omega arith in
    (rw end at c.loop-z.invariant)
    ∙ strongest_onward _ _ c.args.left c.in-Some.left _ _ c.if-x-y.false
    (omega (arith, c.in-Some.ensures.0, c.in-Some.ensures.1))
