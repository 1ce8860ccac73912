use Rattle.std.proofs.Common.{◌≡◌, ℕ, ◌<◌, false}
use Rattle.tiebreak.proofs.Drawing.{read, bad, Marked}
use Rattle.tiebreak.proofs.draw.Draw.read.Given as goal

abbrev pub invariant-loop-place : goal.invariant-loop-place
invariant-loop-place l = record {
  good : (i : ℕ) → i < l.place → bad l.numbers l.file.ballots i ≡ false;
  marked : Marked (read l.numbers) l.place l.drawn;
}
