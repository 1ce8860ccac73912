use Rattle.std.proofs.Common.{◌≡◌, ℕ, ap, ◌∙◌}
use Rattle.pairwise.specs.Grids.{number_for}
use Rattle.paths.specs.Middles.{strength}
use Rattle.paths.proofs.Grids.{numbers_are}
use Rattle.best.specs.Comparisons.{best_by}
use Rattle.best.proofs.Meanings.{best_meaning}
use Rattle.best.proofs.comparisons.best.Goals as goal

pub returns : goal.returns
returns c =
    let g = c.args.strengths.now.wins in
    let e : c.best_by.result ≡ best_by (strength (number_for g) g.candidates) g.candidates =
    c.best_by.ensures ∙ ap (λ s. best_by s c.grid.result.now.candidates) (numbers_are (number_for g) g.candidates c.grid.ensures)
    ∙ ap {B = ℕ} (λ v. best_by (strength (number_for g) g.candidates) v) c.grid.ensures.candidates in
    rw e (best_meaning (number_for g) g.candidates)
