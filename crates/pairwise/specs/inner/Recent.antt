-- Counts in bytes, in rows that fill whole registers. Assumes nothing.
use Rattle.std.specs.Prelude.{ℕ, ◌+◌, ◌*◌, ◌<◌, ◌≤◌, List, slice_index}
use Rattle.ballots.specs.Format.{most_candidates}
use Rattle.pairwise.specs.declared.additions.TheConstants.{ROW}
use Rattle.pairwise.specs.Grids.{cell}

-- how many bytes a row has
abbrev pub row_length : ℕ
row_length = ROW

-- what stands in the byte of the pair x, y
abbrev pub byte : List ℕ → ℕ → ℕ → ℕ
byte bs x y = slice_index bs (x * row_length + y)

-- no byte has more than n
abbrev pub BytesBounded : ℕ → List ℕ → Type 0
BytesBounded n bs = (x y : ℕ) → (x < most_candidates) × (y < row_length) → byte bs x y ≤ n

-- no cell and byte of a pair have more than n together
abbrev pub BothBounded : ℕ → List ℕ → List ℕ → Type 0
BothBounded n cs bs = (x y : ℕ) → (x < most_candidates) × (y < most_candidates) → cell cs x y + byte bs x y ≤ n
