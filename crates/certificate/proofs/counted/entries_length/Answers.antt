use Rattle.std.proofs.Common.{ℕ, map, arith, length-append}
use Rattle.std.specs.List.{flat_map}
use Rattle.pairwise.specs.Grids.{number_for}
use Rattle.pairwise.specs.Pairs.{to_come}
use Rattle.certificate.specs.Layout.{entry_bytes}
use Rattle.certificate.specs.Certified.{entry_of}
use Rattle.certificate.proofs.Certificates.{entries_short}
use Rattle.certificate.proofs.counted.entries_length.Goals as goal

pub overflow_add-length : goal.overflow_add-length
overflow_add-length c =
    let g = c.args.strengths.now.wins in
    let entry = λ (xy : ℕ × ℕ). entry_of (number_for g) g.candidates xy.0 xy.1 in
    let left = rw c.in-Some.ensures.steps at c.loop-x.invariant in
    let here = length-append (entry_bytes (entry (c.in-Some.x, c.in-Some.y))) (flat_map entry_bytes (map entry (to_come c.next.new.self))) in
    omega (arith, left, here, c.entry_length-length.ensures, entries_short (number_for g) g.candidates g.few)
