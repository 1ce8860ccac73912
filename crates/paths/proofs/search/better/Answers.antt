use Rattle.std.proofs.Common.{ℕ, ◌+◌, ◌*◌, ◌<◌, ap, ◌∙◌, arith, get_or-set_other, get_or-set_same}
use Rattle.std.proofs.lemmas.Bool.{lt-ltb}
use Rattle.std.proofs.lemmas.Grind.{get_or_default_zero}
use Rattle.ballots.specs.Format.{most_candidates}
use Rattle.ballots.specs.Sets.{holds}
use Rattle.pairwise.specs.Grids.{cell}
use Rattle.paths.specs.inner.Phases.{strength_over}
use Rattle.paths.proofs.search.better.Goals as goal

pub returns-then-cells-at : goal.returns-then-cells-at
returns-then-cells-at c =
    let cs = c.args.cells.now in
    let hs = c.args.middles.now in
    let k = c.args.middle in
    let x = c.args.x in
    let y = c.args.y in
    let at : ℕ = x * most_candidates + y in
    let lt : cell cs x y < strength_over cs k x y = omega arith in
    record {
      strength = get_or-set_same cs at _ 0 (omega arith) ∙ omega arith;
      middles = λ z zm.
          let old = get_or_default_zero hs at c.index-middles-at.result (omega arith) in
          ap (λ s. holds s z) (get_or-set_same hs at _ 0 (omega arith))
          ∙ (c.insert.ensures.members z (omega arith) ∙ rw (lt-ltb (cell cs x y) (strength_over cs k x y) lt, old));
      others = λ a b bm n. (
        get_or-set_other cs at (a * most_candidates + b) _ 0 (λ q. n (omega arith) (omega arith)),
        get_or-set_other hs at (a * most_candidates + b) _ 0 (λ q. n (omega arith) (omega arith)),
      );
    }
