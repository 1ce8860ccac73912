use Rattle.std.proofs.Common.{◌≡◌, ◌+◌, map, length}
use Rattle.std.specs.List.{flat_map}
use Rattle.pairwise.specs.Grids.{number_for}
use Rattle.pairwise.specs.Pairs.{to_come}
use Rattle.certificate.specs.Layout.{entry_bytes}
use Rattle.certificate.specs.Certified.{entry_of}
use Rattle.certificate.specs.inner.Parts.{all_entries}
use Rattle.certificate.proofs.counted.entries_length.Given as goal

-- with the entries of the pairs to come, it is the length of all
abbrev pub invariant-loop-x : goal.invariant-loop-x
invariant-loop-x l =
    let g = l.strengths.wins in
    let left = flat_map entry_bytes (map (λ xy. entry_of (number_for g) g.candidates xy.0 xy.1) (to_come l.x-iterator)) in
    l.length + length left ≡ length (all_entries l.strengths)
