use Rattle.std.proofs.Common.{ℕ, List}
use Rattle.std.specs.Io.KnownBytes.{Consumes}
use Rattle.program.specs.Fronts.{IsFront}
use Rattle.program.proofs.front.read_counted.Given as goal

abbrev pub invariant-loop : goal.invariant-loop
invariant-loop g l =
    (seen : List ℕ) × IsFront l.most seen l.front × Consumes (g.R.Read.remaining l.fn.reader) (g.R.Read.remaining l.reader) seen
