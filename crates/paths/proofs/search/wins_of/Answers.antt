use Rattle.std.proofs.Common.{◌≡◌, ℕ, ◌+◌, ◌*◌, ◌/◌, ◌%◌, arith, rules, tests}
use Rattle.ballots.specs.Format.{most_candidates}
use Rattle.ballots.proofs.FromFn.{from_fn-at}
use Rattle.pairwise.specs.Grids.{cells, number_for}
use Rattle.paths.proofs.search.wins_of.Goals as goal

pub returns : goal.returns
returns c = λ x y xl yl.
    let t = c.args.wins.now in
    let win : ℕ → ℕ = λ at. number_for t (at / most_candidates) (at % most_candidates) in
    let row : (x * most_candidates + y) / most_candidates ≡ x = omega arith in
    let column : (x * most_candidates + y) % most_candidates ≡ y = omega arith in
    let each = from_fn-at c.from_fn.result win cells (x * most_candidates + y) 0 c.from_fn.ensures.items in
    rw (row, column) at (each (λ i r q k. search (rules, tests)) (omega arith))
