use Rattle.std.proofs.Common.{◌≡◌, true}
use Rattle.ballots.specs.Sets.{set_of}
use Rattle.pairwise.specs.Grids.{number_for}
use Rattle.best.specs.Comparisons.{unbeaten_by}
use Rattle.best.proofs.comparisons.best_by.Given as goal

-- those before x who are unbeaten are in
abbrev pub invariant-loop-x : goal.invariant-loop-x
invariant-loop-x l = l.best ≡ set_of (unbeaten_by (number_for l.strengths) l.strengths.candidates (λ _. true)) l.x
