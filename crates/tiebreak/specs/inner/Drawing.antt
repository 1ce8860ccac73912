-- What a draw that is read says. Assumes nothing.
use Rattle.std.specs.Prelude.{◌≡◌, ℕ, ◌<◌, ◌≤◌, Bool, List, map, Some, None, Ok, Err, Result, slice_index}
use Rattle.std.specs.Int.{w16, from_le_bytes}
use Rattle.ballots.specs.declared.file.BallotFile.{BallotFile}
use Rattle.ballots.specs.declared.refusal.Refusal.{Refusal}
use Rattle.ballots.specs.Ballots.{unranked}
use Rattle.ballots.specs.Sets.{number}
use Rattle.best.specs.declared.tie_break.TieBreak.{TieBreak}
use Rattle.best.specs.TieBreak.{before_by}
use Rattle.tiebreak.specs.declared.draw.Draw.{Draw}
use Rattle.tiebreak.specs.Draws.{numbers_in, draw_refusal, ballots_at, before_by_ballots}

-- the numbers of a draw
abbrev pub numbers_of : Draw → List ℕ
numbers_of d = map (from_le_bytes w16) d.numbers.now

-- by the draw, x is before y
abbrev pub before_of : Draw → ℕ → ℕ → Bool
before_of d = before_by_ballots unranked (ballots_at d.file.bytes.now (numbers_of d))

-- r is the draw of these bytes from the ballots of the file, or why it is refused
abbrev pub DrawnFrom : BallotFile → List ℕ → Result Draw Refusal → Type 0
DrawnFrom file bytes (Ok d) =
    (draw_refusal file.ballots bytes ≡ None) × (d.file ≡ file) × (numbers_of d ≡ numbers_in bytes)
DrawnFrom file bytes (Err e) = draw_refusal file.ballots bytes ≡ Some e

-- the tie-break order is that of the draw: the key of a candidate is the number of those before it
pub record TieBreakOf (d : Draw) (t : TieBreak) : Type 0 where
  pub keys : (x : ℕ) → x < d.file.candidates → slice_index t.keys x ≡ number (λ y. before_of d y x) d.file.candidates
  pub behind : (x : ℕ) → d.file.candidates ≤ x → slice_index t.keys x ≡ 0
  pub order : (x y : ℕ) → x < d.file.candidates → y < d.file.candidates → before_by t.keys x y ≡ before_of d x y
