use Rattle.std.proofs.Common.{◌≡◌, ℕ, Bool, true, min, sym, ◌∙◌, arith}
use Rattle.ballots.specs.Sets.{holds, set_of, room}
use Rattle.ballots.proofs.Sets.{holds_set_of, left_out, put_in_set}
use Rattle.pairwise.specs.declared.grid.Grid.{Grid}
use Rattle.pairwise.specs.Grids.{number_for}
use Rattle.best.specs.Comparisons.{unbeaten_by}
use Rattle.best.proofs.Meanings.{unbeaten_all}
use Rattle.best.proofs.comparisons.best_by.Goals as goal
use Rattle.best.proofs.comparisons.best_by.Goals.{then-unbeaten, else-unbeaten}

-- what `unbeaten` answers of the set of everybody
among_all : (g : Grid) (everybody x : ℕ) (b : Bool) → everybody ≡ set_of (λ _. true) (min g.candidates room) →
    b ≡ unbeaten_by (number_for g) g.candidates (holds everybody) x →
    b ≡ unbeaten_by (number_for g) g.candidates (λ _. true) x
among_all g everybody x b is e =
    let few : min g.candidates room ≡ g.candidates = omega (arith, g.few) in
    e ∙ unbeaten_all (number_for g) g.candidates x (holds everybody)
    (λ y l. rw (is, few) (holds_set_of (λ _. true) g.candidates y l))

pub loop-x-preserved : goal.loop-x-preserved
loop-x-preserved c =
    let g = c.args.strengths.now in
    let f : ℕ → Bool = unbeaten_by (number_for g) g.candidates (λ _. true) in
    let x : ℕ = c.loop-x.x in
    let is = among_all g c.all_below-everybody.result x c.unbeaten.result c.all_below-everybody.ensures c.unbeaten.ensures in
    elim c.if-unbeaten.branch [
      | then-unbeaten w ↦
          let put = put_in_set f c.loop-x.best x _ (omega (arith, g.few)) c.loop-x.invariant (sym is ∙ w.if-unbeaten.true) in
          w.best-is ∙ put w.insert.ensures.within w.insert.ensures.members
      | else-unbeaten w ↦ w.best-is ∙ left_out f c.loop-x.best x c.loop-x.invariant (sym is ∙ w.if-unbeaten.false)
    ]
