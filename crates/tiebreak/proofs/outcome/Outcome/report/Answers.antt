use Rattle.std.proofs.Common.{List, ◌≡◌, ℕ, ◌-◌, ◌<◌, ◌≤◌, length, ap, ◌∙◌, arith}
use Rattle.std.proofs.lemmas.Grind.{common_steps}
use Rattle.std.proofs.lemmas.Nat.{mul-le}
use Rattle.ballots.specs.Format.{most_candidates}
use Rattle.ballots.specs.Sets.{holds, room}
use Rattle.ballots.specs.Sets.{members}
use Rattle.pairwise.specs.Pairs.{pairs, to_come}
use Rattle.pairwise.proofs.OrderedPairs.{pairs_each, length_pairs}
use Rattle.tiebreak.specs.Reports.{best_line}
use Rattle.tiebreak.proofs.Room.{line_long, best_short}
use Rattle.tiebreak.proofs.outcome.Outcome.report.Goals as goal

pub push_best-requires : goal.push_best-requires
push_best-requires c =
    let o = c.args.self.now in
    omega (arith, best_short o.ballots (holds o.best) (omega arith), ap length c.new-text.ensures)

pub loop-x-init : goal.loop-x-init
loop-x-init c =
    let o = c.args.self.now in
    let v : ℕ = o.strengths.candidates in
    let few : v ≤ most_candidates = o.strengths.few in
    let left : to_come c.into_iter-x-iterator.result ≡ pairs v =
    ap to_come c.into_iter-x-iterator.ensures.into_iter_gives ∙ c.of-x-items.ensures in
    let line : List ℕ = best_line o.ballots (members (holds o.best) room) in
    record {
      text = rw left (grind (arith, common_steps));
      room = rw left (omega (
        arith,
        best_short o.ballots (holds o.best) (omega arith),
        line_long c.new-text.result.bytes line c.push_best.new.text.bytes c.push_best.ensures,
        ap length c.new-text.ensures,
        length_pairs v,
        mul-le v (v - 1) most_candidates (most_candidates - 1) few (omega arith),
      ));
      pairs =
          rw left
          (pairs_each (λ p. (p.0 < most_candidates) × (p.1 < most_candidates)) v (λ x y xv yv _. (omega arith, omega arith)));
    }
