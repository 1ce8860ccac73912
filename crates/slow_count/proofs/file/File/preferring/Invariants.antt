use Rattle.std.proofs.Common.{◌≡◌, ◌≤◌}
use Rattle.slow_count.specs.Files.{preferring}
use Rattle.slow_count.proofs.file.File.preferring.Given as goal

abbrev pub invariant-loop-ballot : goal.invariant-loop-ballot
invariant-loop-ballot l =
    (l.preferring ≡ preferring l.self.bytes.now l.x l.y l.ballot) × (l.preferring ≤ l.ballot)
