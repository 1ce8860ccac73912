-- Files of which no more is kept than can matter. Assumes nothing.
use Rattle.std.specs.Prelude.{◌≡◌, ℕ, List, length, take}
use Rattle.std.specs.Io.Iter.{u64_saturate}
use Rattle.program.specs.declared.front.Front.{Front}

-- the front of all the bytes, and how many they are
pub record IsFront (most : ℕ) (all : List ℕ) (front : Front) : Type 0 where
  pub bytes : front.bytes.items ≡ take most all
  pub length_is : front.length ≡ u64_saturate (length all)

-- how much of a file of ballots is kept: one byte more than the longest that can be accepted
abbrev pub ballots_kept : ℕ
ballots_kept = 1966054

-- the same of a sheet, whose paths have up to 255 candidates
abbrev pub sheet_kept : ℕ
sheet_kept = 229746

-- how much of a draw is kept: 65536 numbers
abbrev pub draw_kept : ℕ
draw_kept = 131072
