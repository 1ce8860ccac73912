use Rattle.std.proofs.Common.{◌≡◌, ℕ, true}
use Rattle.std.specs.Prelude.{slice_set}
use Rattle.slow_count.specs.Strengths.{most_below, onward, strongest}
use Rattle.slow_count.proofs.strengths.+strongest.Given as goal

abbrev pub decreases-strongest : goal.decreases-strongest
decreases-strongest l = l.left

-- the strongest of the paths that go on to those before z
abbrev pub invariant-loop-z : goal.invariant-loop-z
invariant-loop-z l =
    let rest : ℕ → ℕ = λ z. strongest l.wins l.y l.left (slice_set l.visited z true) z in
    l.best ≡ most_below (onward l.wins rest l.visited l.x) l.z
