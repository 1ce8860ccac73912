-- The layout of a certificate: what stands where in its bytes. Assumes nothing.
use Rattle.std.specs.Prelude.{ℕ, ◌+◌, ◌-◌, ◌*◌, List, ◌∷◌, ◌++◌, length}
use Rattle.std.specs.Int.{Width, w16, w32, byte_len, to_le_bytes}
use Rattle.std.specs.List.{flat_map}
use Rattle.pairwise.specs.Grids.{rows}

-- how wide a number is, which is a count or a strength, and how wide a set of candidates, by its bits
abbrev pub number_width : Width
number_width = w16

abbrev pub set_width : Width
set_width = w32

-- their bytes, the low byte first, and how many these are
abbrev pub number_bytes : ℕ → List ℕ
number_bytes = to_le_bytes number_width

abbrev pub set_bytes : ℕ → List ℕ
set_bytes = to_le_bytes set_width

abbrev pub number_size : ℕ
number_size = byte_len number_width

abbrev pub set_size : ℕ
set_size = byte_len set_width

-- what is claimed of a pair of candidates: the strength, a path that shows it, and a cut that bounds it
pub record Entry : Type 0 where
  pub strength : ℕ
  pub path : List ℕ
  pub cut : ℕ

-- the strength, how many candidates the path has, and the candidates first to last
unfoldable pub path_bytes : ℕ → List ℕ → List ℕ
path_bytes s row = number_bytes s ++ (length row ∷ row)

-- and behind them the cut
unfoldable pub entry_bytes : Entry → List ℕ
entry_bytes e = path_bytes e.strength e.path ++ set_bytes e.cut

-- the number of candidates and the table: n x y of each pair, row by row
unfoldable pub table_bytes : ℕ → (ℕ → ℕ → ℕ) → List ℕ
table_bytes v n = v ∷ flat_map number_bytes (rows v n)

-- how many bytes these are
abbrev pub table_size : ℕ → ℕ
table_size v = 1 + v * v * number_size

-- the certificate: the number of candidates and the table, the entries of all pairs, and the set of the best
unfoldable pub certificate_of : ℕ → (ℕ → ℕ → ℕ) → List Entry → ℕ → List ℕ
certificate_of v n entries best = table_bytes v n ++ (flat_map entry_bytes entries ++ set_bytes best)

-- how long a certificate of v candidates would be with all of them on the path of each pair
abbrev pub longest : ℕ → ℕ
longest v = table_size v + v * (v - 1) * (number_size + 1 + v + set_size) + set_size
