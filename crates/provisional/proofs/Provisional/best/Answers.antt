use Rattle.std.proofs.Common.{ℕ, subst}
use Rattle.pairwise.specs.declared.grid.Grid.{Grid}
use Rattle.pairwise.specs.Grids.{number_for}
use Rattle.pairwise.specs.Pairwise.{win_in}
use Rattle.best.specs.Comparisons.{BestSet}
use Rattle.provisional.specs.Running.{BestOfCounts, BestOfTaken}
use Rattle.provisional.proofs.Taking.{best_taken, as_counted}
use Rattle.provisional.proofs.Provisional.best.Goals as goal

pub returns : goal.returns
returns c =
    let me = c.args.self.now in
    let s : ℕ = c.best.result in
    let found = subst (λ (g : Grid). BestSet (number_for g) g.candidates s) c.of.ensures c.best.ensures in
    let by_wins = subst (λ (w : ℕ → ℕ → ℕ). BestSet w c.wins.result.candidates s) c.wins.ensures.pairs found in
    let counts : BestOfCounts me s = subst (λ (v : ℕ). BestSet (win_in me.pairwise) v s) c.wins.ensures.candidates by_wins in
    let taken : BestOfTaken me s = λ v ps qs t h. best_taken me v ps qs t h s counts in
    record { counts = counts; taken = taken; counted = as_counted me s taken }
