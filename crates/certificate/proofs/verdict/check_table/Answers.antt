use Rattle.std.proofs.Common.{◌+◌, arith}
use Rattle.pairwise.specs.Grids.{number_for}
use Rattle.certificate.proofs.Tables.{table_from, table_next, bytes_refusal-append}
use Rattle.certificate.proofs.verdict.check_table.Goals as goal

pub loop-i-preserved : goal.loop-i-preserved
loop-i-preserved c =
    let g = c.args.pairwise.now.counts in
    let reader = c.loop-i.reader in
    let next = table_next g.candidates (number_for g) c.loop-i.i g.some c.loop-i-test.true in
    let rest = table_from g.candidates (number_for g) (c.loop-i.i + 1) in
    let parts = bytes_refusal-append reader.sheet.now reader.at c.to_le_bytes.result rest in
    grind arith
