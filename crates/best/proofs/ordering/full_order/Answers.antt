use Rattle.std.proofs.Common.{◌≡◌, ℕ, ◌≤◌, Bool, min, List, Option, None, ◌∙◌, arith, subst}
use Rattle.ballots.specs.Format.{most_candidates}
use Rattle.ballots.specs.Sets.{holds, room}
use Rattle.pairwise.specs.Grids.{number_for}
use Rattle.best.specs.TieBreak.{before_by}
use Rattle.best.specs.inner.NextPlace.{NextOf}
use Rattle.best.proofs.Making.{made_none, made_more, made_all, some_left, fewer_left}
use Rattle.best.proofs.Places.{each_once}
use Rattle.best.proofs.ordering.full_order.Goals as goal

pub loop-x-init : goal.loop-x-init
loop-x-init c =
    let g = c.args.strengths.now.wins in
    let few : min g.candidates room ≡ g.candidates = omega (arith, g.few) in
    let before : ℕ → ℕ → Bool = before_by c.args.tie_break.now.keys in
    rw (c.new-row.ensures, c.all_below-left.ensures, few) (made_none (number_for g) g.candidates before)

pub push-requires : goal.push-requires
push-requires c =
    let g = c.args.strengths.now.wins in
    let few : g.candidates ≤ most_candidates = g.few in
    let before : ℕ → ℕ → Bool = before_by c.args.tie_break.now.keys in
    let some = some_left (number_for g) g.candidates before c.loop-x.left c.in-Some.x c.in-Some.ensures in
    (omega arith, omega (arith, c.loop-x.invariant.candidates))

pub loop-x-smaller : goal.loop-x-smaller
loop-x-smaller c =
    let g = c.args.strengths.now.wins in
    let before : ℕ → ℕ → Bool = before_by c.args.tie_break.now.keys in
    let fewer = fewer_left (number_for g) g.candidates before c.loop-x.left c.remove.new.self in
    omega (arith, fewer c.in-Some.x c.remove.ensures.members c.in-Some.ensures)

pub loop-x-preserved : goal.loop-x-preserved
loop-x-preserved c =
    let g = c.args.strengths.now.wins in
    let before : ℕ → ℕ → Bool = before_by c.args.tie_break.now.keys in
    let more = made_more (number_for g) g.candidates before c.loop-x.left c.remove.new.self in
    rw c.push.ensures.items
    (more c.in-Some.x c.loop-x.row.items c.remove.ensures.members c.in-Some.ensures c.loop-x.invariant)

pub returns : goal.returns
returns c =
    let g = c.args.strengths.now.wins in
    let before : ℕ → ℕ → Bool = before_by c.args.tie_break.now.keys in
    let next : Option ℕ → Type 0 = NextOf (number_for g) g.candidates before (holds c.loop-x.left) in
    let nobody : next None = subst next c.in_default.is c.next.ensures in
    let made = made_all (number_for g) g.candidates before c.loop-x.left in
    let (candidates, row) = made c.loop-x.row.items nobody c.loop-x.invariant in
    let items : List ℕ = c.loop-x.row.items in
    record {
      candidates = c.of.ensures.candidates ∙ candidates;
      once = rw c.of.ensures.row (each_once _ before _ items row);
      row = rw c.of.ensures.row row;
      behind = c.of.ensures.behind;
    }
