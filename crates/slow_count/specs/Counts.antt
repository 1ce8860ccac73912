-- The count of a file, and who is among the best. Assumes nothing.
use Rattle.std.specs.Prelude.{◌≡◌, ℕ, Bool, false, not, ◌&&◌, if◌then◌else◌, List, map, nat_lt, slice_index_or}
use Rattle.std.specs.List.{range_with_len, list_all, list_any, zip}
use Rattle.slow_count.specs.declared.set.TheConstants.{ROOM}
use Rattle.slow_count.specs.declared.table.TheConstants.{MOST}
use Rattle.slow_count.specs.declared.count.SlowCount.{SlowCount}
use Rattle.slow_count.specs.Files.{candidates_in, count}
use Rattle.slow_count.specs.Tables.{NumbersOf, cell, win}
use Rattle.slow_count.specs.Strengths.{strength}
use Rattle.slow_count.specs.Sets.{has}

-- c is the count of the file with these bytes
pub record SlowCountOf (bs : List ℕ) (c : SlowCount) : Type 0 where
  pub bytes : c.file.bytes.now ≡ bs
  pub counts : NumbersOf (count bs) c.counts
  pub wins : NumbersOf (win c.counts) c.wins
  pub strengths : NumbersOf (strength c.wins) c.strengths

-- some strongest path goes over others though there is no win, or a weaker one
abbrev pub goes_over_others : SlowCount → Bool
goes_over_others c = list_any (λ pair. nat_lt pair.0 pair.1) (zip c.wins.cells c.strengths.cells)

-- x is a candidate
abbrev pub candidate : SlowCount → ℕ → Bool
candidate c x = nat_lt x (candidates_in c.file.bytes.now)

-- x is ahead of y
abbrev pub ahead : SlowCount → ℕ → ℕ → Bool
ahead c x y = nat_lt (cell c.strengths y x) (cell c.strengths x y)

-- the candidates
unfoldable pub everybody : SlowCount → List Bool
everybody c = map (candidate c) (range_with_len 0 MOST)

-- of those that are left, nobody is ahead of x
unfoldable pub unbeaten : SlowCount → List Bool → ℕ → Bool
unbeaten c left x = list_all (λ y. not (slice_index_or left y false && ahead c y x)) (range_with_len 0 MOST)

-- x is among the best: a candidate of whom nobody is ahead
abbrev pub among_best : SlowCount → ℕ → Bool
among_best c x = candidate c x && unbeaten c (everybody c) x

-- the set is that of the best
unfoldable pub is_best_set : SlowCount → ℕ → Bool
is_best_set c set = list_all (λ x. if among_best c x then has set x else not (has set x)) (range_with_len 0 ROOM)
