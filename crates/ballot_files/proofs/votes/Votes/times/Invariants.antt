use Rattle.std.proofs.Common.{◌≡◌, ◌++◌}
use Rattle.std.specs.Prelude.{replicate}
use Rattle.std.specs.List.{flat_map}
use Rattle.ballot_files.proofs.votes.Votes.times.Given as goal

abbrev pub invariant-loop : goal.invariant-loop
invariant-loop l =
    l.all.items ≡ l.initial.all.items ++ flat_map (λ r. r) (replicate l.counter l.ranks)
