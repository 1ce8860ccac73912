-- Cuts. Assumes nothing.
use Rattle.std.specs.Prelude.{ℕ, Bool, not, ◌&&◌, ◌||◌, nat_le}
use Rattle.std.specs.List.{range_with_len, list_all}
use Rattle.slow_count.specs.declared.set.TheConstants.{ROOM}
use Rattle.slow_count.specs.declared.table.TheConstants.{MOST}
use Rattle.slow_count.specs.declared.count.SlowCount.{SlowCount}
use Rattle.slow_count.specs.Counts.{candidate}
use Rattle.slow_count.specs.Sets.{has}
use Rattle.slow_count.specs.Tables.{cell}

-- no win from z to anybody outside the set is above the strength
unfoldable pub bounded : SlowCount → ℕ → ℕ → ℕ → Bool
bounded c set strength z =
    list_all (λ outside. has set outside || nat_le (cell c.wins z outside) strength) (range_with_len 0 MOST)

-- the set has only candidates, and no win out of it is above the strength
unfoldable pub bounds : SlowCount → ℕ → ℕ → Bool
bounds c set strength =
    list_all (λ z. not (has set z) || (candidate c z && bounded c set strength z)) (range_with_len 0 ROOM)

-- the set has x and not y, only candidates, and no win across above the strength from x to y
abbrev pub is_cut : SlowCount → ℕ → ℕ → ℕ → Bool
is_cut c x y set = has set x && not (has set y) && bounds c set (cell c.strengths x y)
