-- Tests of all candidates, and sets of them as the bits of a number: candidate i is bit i. Assumes nothing.
use Rattle.std.specs.Prelude.{◌≡◌, ℕ, zero, suc, ◌+◌, ◌^◌, ◌<◌, Bool, true, false, if◌then◌else◌, ◌&&◌, List, filter, ◌==◌}
use Rattle.std.specs.List.{range_with_len}
use Rattle.std.specs.Int.{bit_at}

-- the candidate i is in the set
unfoldable pub holds : ℕ → ℕ → Bool
holds set i = bit_at set i == 1

-- the set of the candidates below n that pass the test f
abbrev pub set_of : (ℕ → Bool) → ℕ → ℕ
set_of f zero = 0
set_of f (suc n) = set_of f n + (if f n then 2 ^ n else 0)

-- every candidate below n passes the test f
abbrev pub every : (ℕ → Bool) → ℕ → Bool
every f zero = true
every f (suc n) = f n && every f n

-- how many candidates below n pass the test f
abbrev pub number : (ℕ → Bool) → ℕ → ℕ
number f zero = 0
number f (suc n) = (if f n then 1 else 0) + number f n

-- the candidates below n that pass the test f, in order
unfoldable pub members : (ℕ → Bool) → ℕ → List ℕ
members f n = filter f (range_with_len 0 n)

-- how many candidates a set has room for
abbrev pub room : ℕ
room = 32

-- x is the smallest member of the set
pub record FirstOf (set x : ℕ) : Type 0 where
  pub low : x < room
  pub member : holds set x ≡ true
  pub smallest : (z : ℕ) → z < x → holds set z ≡ false
