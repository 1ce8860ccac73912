use Rattle.std.proofs.Common.{◌≡◌, ◌+◌, length}
use Rattle.pairwise.specs.Grids.{number_for}
use Rattle.certificate.specs.Judge.{bytes_refusal}
use Rattle.certificate.specs.inner.Parts.{table_of}
use Rattle.certificate.proofs.Tables.{table_from}
use Rattle.certificate.proofs.verdict.check_table.Given as goal

-- the numbers before the next one stand where they should
abbrev pub invariant-loop-i : goal.invariant-loop-i
invariant-loop-i l =
    let old = l.fn.reader in
    let all = table_of l.pairwise in
    let rest = table_from l.pairwise.counts.candidates (number_for l.pairwise.counts) l.i in
    record {
      left : bytes_refusal l.reader.sheet.now l.reader.at rest ≡ bytes_refusal old.sheet.now old.at all;
      place : l.reader.at + length rest ≡ old.at + length all;
      same : l.reader.sheet.now ≡ old.sheet.now;
    }
