use Rattle.std.proofs.Common.{◌≡◌, ◌+◌, drop}
use Rattle.certificate.specs.Judge.{bytes_refusal}
use Rattle.certificate.proofs.reader.Reader.pass.Given as goal

-- the bytes before the next one stand where they should
abbrev pub invariant-loop-byte : goal.invariant-loop-byte
invariant-loop-byte l =
    record {
      left : bytes_refusal l.self.sheet.now l.self.at (drop l.byte-index l.bytes) ≡ bytes_refusal l.fn.self.sheet.now l.fn.self.at l.bytes;
      place : l.self.at ≡ l.fn.self.at + l.byte-index;
      same : l.self.sheet.now ≡ l.fn.self.sheet.now;
    }
