use Rattle.std.proofs.Common.{◌≡◌, ◌≤◌, length}
use Rattle.ballots.specs.Format.{ballots_in}
use Rattle.ballots.specs.Files.{ballots_from, ballots_left}
use Rattle.pairwise.specs.inner.Counters.{count_in}
use Rattle.pairwise.proofs.Preferences.{CountedFirst}
use Rattle.pairwise.proofs.pairwise.Pairwise.of.Given as goal

-- the ballots that came are counted
abbrev pub invariant-loop-ballot : goal.invariant-loop-ballot
invariant-loop-ballot l = record {
  few : length l.yielded ≤ ballots_in l.file.bytes.now;
  left : ballots_left l.ballot-iterator ≡ ballots_from l.file.bytes.now (length l.yielded);
  counts : CountedFirst l.file.bytes.now (length l.yielded) (count_in l.counter);
}
