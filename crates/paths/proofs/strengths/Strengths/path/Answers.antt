use Rattle.std.proofs.Common.{◌≡◌, ℕ, ◌<◌, length, ap, sym, ◌∙◌, arith}
use Rattle.pairwise.specs.Grids.{number_for}
use Rattle.paths.specs.Middles.{strength}
use Rattle.paths.proofs.Grids.{is_strength}
use Rattle.paths.proofs.Parts.{row_shows, row_is, row_path}
use Rattle.paths.proofs.strengths.Strengths.path.Goals as goal

pub push_after-requires-clause-room : goal.push_after-requires-clause-room
push_after-requires-clause-room c =
    let t = c.args.self.now.wins in
    let x : ℕ = c.args.x in
    let y : ℕ = c.args.y in
    let some : 0 < strength (number_for t) t.candidates x y = omega (arith, is_strength _ _ c.at.ensures, c.if-at-gt0.true) in
    omega (
      arith,
      c.push.ensures.len,
      ap length c.new-path.ensures,
      t.few,
      ap length (row_is (number_for t) t.candidates x y some),
      (row_shows (number_for t) t.candidates x y some).short,
    )

pub returns-then-at-gt0 : goal.returns-then-at-gt0
returns-then-at-gt0 c =
    let t = c.args.self.now.wins in
    let some : 0 < strength (number_for t) t.candidates c.args.x c.args.y = omega (arith, is_strength _ _ c.at.ensures, c.if-at-gt0.true) in
    row_path _ _ _ _ _ (c.push_after.ensures ∙ rw (c.push.ensures.items, c.new-path.ensures) (sym (row_is _ _ _ _ some)))

pub returns-else-at-gt0 : goal.returns-else-at-gt0
returns-else-at-gt0 c =
    let t = c.args.self.now.wins in
    let none : strength (number_for t) t.candidates c.args.x c.args.y ≡ 0 = omega (arith, is_strength _ _ c.at.ensures, c.if-at-gt0.false) in
    row_path _ _ _ _ _ (c.new-path.ensures ∙ rw none)
