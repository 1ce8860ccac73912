-- Sets of candidates as the bits of a number: candidate x is bit x. Assumes nothing.
use Rattle.std.specs.Prelude.{ℕ, ◌/◌, ◌^◌, Bool, ◌&&◌, ◌==◌, bit_and, nat_lt}
use Rattle.slow_count.specs.declared.set.TheConstants.{ROOM}

-- x is in the set
abbrev pub has : ℕ → ℕ → Bool
has set x = nat_lt x ROOM && bit_and (set / 2 ^ x) 1 == 1
