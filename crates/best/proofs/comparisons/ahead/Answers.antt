use Rattle.std.proofs.Common.{◌≡◌, ap, ◌∙◌}
use Rattle.pairwise.specs.Grids.{number_for}
use Rattle.paths.specs.Middles.{strength}
use Rattle.paths.proofs.Grids.{numbers_are}
use Rattle.best.specs.Comparisons.{ahead_by}
use Rattle.best.proofs.Meanings.{ahead_meaning}
use Rattle.best.proofs.comparisons.ahead.Goals as goal

pub returns : goal.returns
returns c =
    let g = c.args.strengths.now.wins in
    let e : c.ahead_by.result ≡ ahead_by (strength (number_for g) g.candidates) c.args.x c.args.y =
    c.ahead_by.ensures ∙ ap (λ s. ahead_by s c.args.x c.args.y) (numbers_are (number_for g) g.candidates c.grid.ensures) in
    rw e (ahead_meaning (number_for g) g.candidates c.args.x c.args.y)
