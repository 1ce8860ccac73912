-- Rows of candidates, and which of them are paths. Assumes nothing.
use Rattle.std.specs.Prelude.{ℕ, zero, suc, ◌+◌, ◌-◌, ◌^◌, Bool, ◌&&◌, if◌then◌else◌}
use Rattle.std.specs.Prelude.{List, length, take, min, ◌==◌, nat_lt, slice_index}
use Rattle.std.specs.List.{list_any, enumerate_from}
use Rattle.slow_count.specs.declared.count.SlowCount.{SlowCount}
use Rattle.slow_count.specs.Tables.{cell}

-- some candidate stands in the row twice
abbrev pub passes_twice : List ℕ → Bool
passes_twice row = list_any (λ p. list_any (λ z. z == p.1) (take p.0 row)) (enumerate_from 0 row)

-- the weakest of the first n wins from each of a row to the next one; above every win where there is none
abbrev pub weakest : SlowCount → List ℕ → ℕ → ℕ
weakest c row zero = 2 ^ 32 - 1
weakest c row (suc n) = min (weakest c row n) (cell c.wins (slice_index row n) (slice_index row (n + 1)))

-- the row leads from x to y, over one step at least
abbrev pub leads : ℕ → ℕ → List ℕ → Bool
leads x y row = nat_lt 1 (length row) && slice_index row 0 == x && slice_index row (length row - 1) == y

-- the row is a path from x to y whose weakest win is the strength; a row of nobody, where there is none
abbrev pub is_path : SlowCount → ℕ → ℕ → List ℕ → Bool
is_path c x y row =
    let strength = cell c.strengths x y in
    if length row == 0 then strength == 0
    else leads x y row && nat_lt 0 strength && weakest c row (length row - 1) == strength
