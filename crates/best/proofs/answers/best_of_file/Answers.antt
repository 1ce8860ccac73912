use Rattle.std.proofs.Common.{◌≡◌, ℕ, List, ap, ◌∙◌, subst}
use Rattle.ballots.specs.Format.{candidates_in}
use Rattle.pairwise.specs.declared.grid.Grid.{Grid}
use Rattle.pairwise.specs.Counts.{win_by}
use Rattle.pairwise.specs.Grids.{number_for}
use Rattle.pairwise.specs.Pairwise.{counts_of}
use Rattle.best.specs.Comparisons.{BestSet}
use Rattle.best.proofs.FileWins.{best_of_wins}
use Rattle.best.proofs.answers.best_of_file.Goals as goal

pub returns : goal.returns
returns c =
    let bs : List ℕ = c.args.file.bytes.now in
    let s : ℕ = c.best.result in
    let counted = c.of-pairwise.ensures in
    let candidates : c.wins.result.candidates ≡ candidates_in bs = c.wins.ensures.candidates ∙ counted.candidates in
    let wins : number_for c.wins.result ≡ win_by (counts_of bs) = c.wins.ensures.pairs ∙ ap win_by counted.counts in
    let found = subst (λ (g : Grid). BestSet (number_for g) g.candidates s) c.of.ensures c.best.ensures in
    best_of_wins bs counted.accepted
    (subst (λ (v : ℕ). BestSet (win_by (counts_of bs)) v s) candidates
    (subst (λ (w : ℕ → ℕ → ℕ). BestSet w c.wins.result.candidates s) wins found))
