-- The strengths of strongest paths, as a search through all paths finds them. Assumes nothing.
use Rattle.std.specs.Prelude.{ℕ, zero, suc, ◌-◌, ◌^◌, Bool, true, false, if◌then◌else◌}
use Rattle.std.specs.Prelude.{List, max, min, replicate, ◌==◌, slice_set, slice_index_or}
use Rattle.slow_count.specs.declared.table.TheConstants.{MOST}
use Rattle.slow_count.specs.declared.table.Table.{Table}
use Rattle.slow_count.specs.Tables.{cell}

-- the greatest of the numbers that f gives to those below n
abbrev pub most_below : (ℕ → ℕ) → ℕ → ℕ
most_below f zero = 0
most_below f (suc n) = max (most_below f n) (f n)

-- the strength of the strongest path that goes on from x to z, where z was not visited, and from there as `rest` says
abbrev pub onward : Table → (ℕ → ℕ) → List Bool → ℕ → ℕ → ℕ
onward w rest visited x z = if slice_index_or visited z false then 0 else min (cell w x z) (rest z)

-- the strength of the strongest path from x to y over as many candidates as are left, none of them visited
unfoldable pub strongest : Table → ℕ → ℕ → List Bool → ℕ → ℕ
strongest w y zero visited x = if x == y then 2 ^ 32 - 1 else 0
strongest w y (suc left) visited x =
    if x == y then 2 ^ 32 - 1
    else most_below (onward w (λ z. strongest w y left (slice_set visited z true) z) visited x) MOST

-- the strength of the strongest path from x to y, and 0 where there is none
abbrev pub strength : Table → ℕ → ℕ → ℕ
strength w x y = if x == y then 0 else strongest w y MOST (slice_set (replicate MOST false) x true) x
