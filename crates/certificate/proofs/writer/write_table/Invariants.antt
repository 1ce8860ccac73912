use Rattle.pairwise.specs.Grids.{number_for}
use Rattle.certificate.specs.Layout.{table_bytes}
use Rattle.certificate.proofs.Tables.{table_from}
use Rattle.certificate.proofs.Writing.{Left}
use Rattle.certificate.proofs.writer.write_table.Given as goal

-- the numbers from the next one on are left
abbrev pub invariant-loop-i : goal.invariant-loop-i
invariant-loop-i l =
    let v = l.pairwise.counts.candidates in
    let n = number_for l.pairwise.counts in
    Left (table_from v n l.i) (table_bytes v n) l.fn.writer l.writer
