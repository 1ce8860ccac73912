-- Numbers for pairs of candidates: as the cells of a grid, and as a table without gaps. Assumes nothing.
use Rattle.std.specs.Prelude.{◌≡◌, ℕ, ◌+◌, ◌*◌, ◌<◌, ◌≤◌, if◌then◌else◌, ◌&&◌, List, map, Result, nat_lt, slice_index}
use Rattle.std.specs.List.{range_with_len, flat_map}
use Rattle.ballots.specs.declared.refusal.Lent.{Lent}
use Rattle.ballots.specs.declared.refusal.Refusal.{Refusal}
use Rattle.ballots.specs.Format.{most_candidates}
use Rattle.ballots.specs.Loans.{no_room, Fills}
use Rattle.pairwise.specs.declared.grid.Grid.{Grid}

-- how many cells a grid has
abbrev pub cells : ℕ
cells = most_candidates * most_candidates

-- what stands in the cell of the pair x, y
abbrev pub cell : List ℕ → ℕ → ℕ → ℕ
cell cs x y = slice_index cs (x * most_candidates + y)

-- no cell has more than n
abbrev pub Bounded : ℕ → List ℕ → Type 0
Bounded n cs = (x y : ℕ) → (x < most_candidates) × (y < most_candidates) → cell cs x y ≤ n

-- f of each pair of candidates below v, and 0 where there is no such pair
abbrev pub within : ℕ → (ℕ → ℕ → ℕ) → ℕ → ℕ → ℕ
within v f x y = if nat_lt x v && nat_lt y v then f x y else 0

-- the number that a grid has for the pair x, y, 0 where there is no such pair
abbrev pub number_for : Grid → ℕ → ℕ → ℕ
number_for g = within g.candidates (cell g.cells)

-- f of each pair of candidates below v, row by row
abbrev pub rows : ℕ → (ℕ → ℕ → ℕ) → List ℕ
rows v f = flat_map (λ x. map (f x) (range_with_len 0 v)) (range_with_len 0 v)

-- the numbers of a grid, row by row
abbrev pub table : Grid → List ℕ
table g = rows g.candidates (number_for g)

-- the cells of pairs that have no number hold 0
abbrev pub IsZeroOutside : Grid → Type 0
IsZeroOutside g = (x y : ℕ) → x < most_candidates → y < most_candidates → cell g.cells x y ≡ number_for g x y

-- the numbers stand in front of what was lent; or there is no room, and nothing is changed
abbrev pub Copied : Lent → List ℕ → List ℕ → List ℕ → Result (Unit {0}) Refusal → Type 0
Copied lent numbers old new r = Fills (no_room lent numbers old) numbers tt old new r
