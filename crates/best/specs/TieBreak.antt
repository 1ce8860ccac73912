-- Tie-break orders: a candidate before each other one. Assumes nothing.
use Rattle.std.specs.Prelude.{◌≡◌, ℕ, Bool, true, ◌&&◌, ◌||◌, ◌≢◌, ◌⊎◌, List, ◌==◌, nat_lt, slice_index}

-- before is a strict total order: of two candidates one is before the other, and never both
pub record IsTieBreak (before : ℕ → ℕ → Bool) : Type 0 where
  pub total : (x y : ℕ) → x ≢ y → (before x y ≡ true) ⊎ (before y x ≡ true)
  pub one_way : (x y : ℕ) → before x y ≡ true → before y x ≢ true
  pub transitive : (x y z : ℕ) → before x y ≡ true → before y z ≡ true → before x z ≡ true

-- by keys, x is before y: the smaller key first, and equal keys by number
abbrev pub before_by : List ℕ → ℕ → ℕ → Bool
before_by keys x y =
    nat_lt (slice_index keys x) (slice_index keys y)
    || (slice_index keys x == slice_index keys y && nat_lt x y)

-- whatever the keys are, they make a tie-break order
abbrev pub KeysMakeATieBreak : Type 0
KeysMakeATieBreak = (keys : List ℕ) → IsTieBreak (before_by keys)
