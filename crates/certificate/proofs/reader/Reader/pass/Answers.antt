use Rattle.std.proofs.Common.{arith}
use Rattle.std.proofs.lemmas.Bool.Decides.{nat_tests}
use Rattle.std.proofs.lemmas.List.{at_drop_more}
use Rattle.certificate.specs.Judge.{bytes_refusal}
use Rattle.certificate.proofs.reader.Reader.pass.Goals as goal

pub returns-in_err-byte : goal.returns-in_err-byte
returns-in_err-byte c =
    let me = c.loop-byte.self in
    let next = at_drop_more (bytes_refusal me.sheet.now me.at) c.args.bytes.now c.loop-byte.byte-index 0 c.loop-byte-test.true in
    grind (arith, nat_tests)
