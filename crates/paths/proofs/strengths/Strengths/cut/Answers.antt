use Rattle.std.proofs.Common.{◌≡◌, ℕ, Bool, false, sym, ◌∙◌, arith}
use Rattle.std.proofs.lemmas.Bool.Decides.{nat_tests}
use Rattle.ballots.specs.Sets.{set_of}
use Rattle.ballots.proofs.Sets.{left_out, put_in_set}
use Rattle.pairwise.specs.Grids.{number_for}
use Rattle.paths.specs.Middles.{pair}
use Rattle.paths.specs.Cuts.{nearer}
use Rattle.paths.proofs.Pairs.{two_pair}
use Rattle.paths.proofs.Crossings.{set_cut}
use Rattle.paths.proofs.strengths.Strengths.cut.Goals as goal
use Rattle.paths.proofs.strengths.Strengths.cut.Goals.{then-is_nearer, else-is_nearer}

pub loop-z-preserved : goal.loop-z-preserved
loop-z-preserved c =
    let t = c.args.self.now.wins in
    let near : ℕ → Bool = nearer (number_for t) t.candidates c.args.x c.args.y in
    let z : ℕ = c.loop-z.z in
    elim c.if-is_nearer.branch [
      | then-is_nearer w ↦
          let is = sym c.is_nearer.ensures ∙ w.if-is_nearer.true in
          let put = w.insert.ensures in
          w.cut-is ∙ put_in_set near c.loop-z.cut z _ (omega (arith, t.few)) c.loop-z.invariant is put.within put.members
      | else-is_nearer w ↦
          let is = sym c.is_nearer.ensures ∙ w.if-is_nearer.false in
          w.cut-is ∙ left_out near c.loop-z.cut z c.loop-z.invariant is
    ]

pub returns : goal.returns
returns c =
    let t = c.args.self.now.wins in
    let v : ℕ = t.candidates in
    let two = two_pair v c.args.x c.args.y c.if-x-candidates.false c.if-y-candidates.false c.if-x-y.false in
    let end : c.loop-z.z ≡ v = omega arith in
    let is : c.loop-z.cut ≡ set_of (nearer (number_for t) v c.args.x c.args.y) v = rw end at c.loop-z.invariant in
    set_cut (number_for t) v c.args.x c.args.y _ (rw two is)

pub returns-then-x-candidates : goal.returns-then-x-candidates
returns-then-x-candidates c =
    let none : pair c.args.self.now.wins.candidates c.args.x c.args.y ≡ false =
    grind (arith, nat_tests, c.then-x-candidates.either) in
    set_cut _ _ _ _ _ (c.empty-cut.ensures ∙ rw none)
