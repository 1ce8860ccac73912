use Rattle.std.proofs.Common.{◌≡◌, ◌+◌, ◌*◌, ◌≤◌, ◌++◌, drop}
use Rattle.ballots.specs.Format.{header_length, ballots_in}
use Rattle.ballots.specs.Files.{ballots_from, ballots_left}
use Rattle.ballots.specs.Sets.{holds}
use Rattle.ballots.proofs.StruckFiles.{first_struck}
use Rattle.ballots.proofs.striking.strike.Given as goal

-- i ballots are written behind the header
abbrev pub invariant-loop-i : goal.invariant-loop-i
invariant-loop-i l = record {
  counted : l.i ≤ ballots_in l.file.bytes.now;
  left : ballots_left l.ballot-iterator ≡ ballots_from l.file.bytes.now l.i;
  written : l.out ≡ first_struck (holds l.fn.keep) l.file.bytes.now l.i ++ drop (header_length + l.i * l.stay) l.initial.out;
}
