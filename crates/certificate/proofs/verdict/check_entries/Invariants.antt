use Rattle.std.proofs.Common.{◌≡◌, length}
use Rattle.std.specs.List.{AllByRecursion}
use Rattle.pairwise.specs.Grids.{cells}
use Rattle.pairwise.specs.Pairs.{pairs, to_come}
use Rattle.pairwise.specs.Pairwise.{win_in}
use Rattle.paths.specs.Paths.{IsPair}
use Rattle.certificate.specs.Reading.{entries_end}
use Rattle.certificate.specs.Judge.{entries_refusal}
use Rattle.certificate.proofs.Keeping.{Kept}
use Rattle.certificate.proofs.verdict.check_entries.Given as goal

-- the entries before the next one are as they should be, and their strengths are kept
abbrev pub invariant-loop-x : goal.invariant-loop-x
invariant-loop-x l =
    let w = win_in l.pairwise in
    let v = l.pairwise.counts.candidates in
    let old = l.fn.reader in
    let rest = to_come l.x-iterator in
    record {
      each : AllByRecursion (λ xy. IsPair v xy.0 xy.1) rest;
      left : entries_refusal w v l.reader.sheet.now l.reader.at rest ≡ entries_refusal w v old.sheet.now old.at (pairs v);
      place : entries_end l.reader.sheet.now l.reader.at rest ≡ entries_end old.sheet.now old.at (pairs v);
      same : l.reader.sheet.now ≡ old.sheet.now;
      size : length l.cells ≡ cells;
      kept : Kept w v rest l.cells;
    }
