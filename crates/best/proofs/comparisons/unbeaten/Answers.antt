use Rattle.std.proofs.Common.{not, ◌&&◌, rules, tests}
use Rattle.ballots.specs.Sets.{holds}
use Rattle.ballots.proofs.Everybody.{every_from_all}
use Rattle.pairwise.specs.Grids.{number_for}
use Rattle.best.specs.Comparisons.{ahead_by}
use Rattle.best.proofs.comparisons.unbeaten.Goals as goal

pub returns : goal.returns
returns c =
    every_from_all (λ y. not (holds c.args.left y && ahead_by (number_for c.args.strengths.now) y c.args.x)) _ c.all.ensures.ran
    (λ y b q k. search (rules, tests))
