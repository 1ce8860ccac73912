use Rattle.std.proofs.Common.{◌≡◌, refl, arith, rules}
use Rattle.paths.proofs.Phases.{first_phase, next_pair, next_row, next_phase, all_strengths, all_middles}
use Rattle.paths.proofs.strengths.Strengths.of.Goals as goal

pub loop-middle-init : goal.loop-middle-init
loop-middle-init c = first_phase c.args.wins.now c.wins_of-cells.result _ c.wins_of-cells.ensures (search rules)

pub loop-y-preserved : goal.loop-y-preserved
loop-y-preserved c =
    let few = c.args.wins.now.few in
    next_pair c.loop-y.invariant few (omega arith) (omega arith) (omega arith) c.better.ensures

pub loop-x-preserved : goal.loop-x-preserved
loop-x-preserved c = next_row c.loop-y.invariant (omega arith)

pub loop-middle-preserved : goal.loop-middle-preserved
loop-middle-preserved c = next_phase c.loop-x.invariant (omega arith) refl

pub invariant_of-result-2 : goal.invariant_of-result-2
invariant_of-result-2 c =
    let done : c.loop-middle.middle ≡ c.args.wins.now.candidates = omega arith in
    let few = c.args.wins.now.few in
    record {
      same = refl;
      has_strengths = all_strengths c.loop-middle.invariant done few _ c.clear_diagonal.ensures;
      has_middles = all_middles c.loop-middle.invariant done few;
    }
