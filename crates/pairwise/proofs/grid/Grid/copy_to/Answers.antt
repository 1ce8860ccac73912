use Rattle.std.proofs.Common.{ℕ, ◌+◌, ◌-◌, ◌*◌, take, drop, ap, ◌∙◌, arith}
use Rattle.ballots.specs.Format.{most_candidates}
use Rattle.pairwise.specs.Grids.{number_for}
use Rattle.pairwise.proofs.Rows.{row_more, row_cells, copied_short}
use Rattle.pairwise.proofs.grid.Grid.copy_to.Goals as goal

pub returns-then-out-v : goal.returns-then-out-v
returns-then-out-v c = copied_short c.args.lent c.args.self.now.candidates (number_for c.args.self.now) c.args.out.now c.if-out-v.true

pub loop-x-preserved : goal.loop-x-preserved
loop-x-preserved c =
    let v : ℕ = c.args.self.now.candidates in
    let x : ℕ = c.loop-x.x in
    row_more v x ((x * v + v) - x * v) (number_for c.args.self.now) c.args.out.now c.loop-x.out c.copy_from_slice.new.self
    (omega arith)
    (c.copy_from_slice.ensures.after ∙ (ap (λ n. take n (drop (x * most_candidates) c.args.self.now.cells)) (omega arith)
    ∙ row_cells v x c.args.self.now.cells c.args.self.now.few (omega arith) (omega arith)))
    c.loop-x.invariant
