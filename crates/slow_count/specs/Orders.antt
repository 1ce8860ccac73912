-- The full order. Assumes nothing.
use Rattle.std.specs.Prelude.{ℕ, zero, suc, Bool, false, not, ◌&&◌}
use Rattle.std.specs.Prelude.{List, [], ◌∷◌, Option, find, ◌==◌, slice_index_or, slice_set}
use Rattle.std.specs.List.{range_with_len, list_any}
use Rattle.std.specs.Option.{option_map_or}
use Rattle.slow_count.specs.declared.table.TheConstants.{MOST}
use Rattle.slow_count.specs.declared.count.SlowCount.{SlowCount}
use Rattle.slow_count.specs.declared.tie.Tie.{Tie}
use Rattle.slow_count.specs.Counts.{unbeaten}
use Rattle.slow_count.specs.Ties.{before}

-- z is an unbeaten one of those that are left, another one than x and before it
abbrev pub comes_before : SlowCount → Tie → List Bool → ℕ → ℕ → Bool
comes_before c tie left x z =
    not (z == x) && slice_index_or left z false && unbeaten c left z && before tie c.file.bytes.now z x

-- somebody is
unfoldable pub comes_later : SlowCount → Tie → List Bool → ℕ → Bool
comes_later c tie left x = list_any (comes_before c tie left x) (range_with_len 0 MOST)

-- x comes next in the full order: of those that are left, it is unbeaten and before every other one that is
abbrev pub comes_next : SlowCount → Tie → List Bool → ℕ → Bool
comes_next c tie left x = slice_index_or left x false && unbeaten c left x && not (comes_later c tie left x)

-- who comes next, if anybody is left
unfoldable pub next : SlowCount → Tie → List Bool → Option ℕ
next c tie left = find (comes_next c tie left) (range_with_len 0 MOST)

-- the full order of those that are left, at most n of them
unfoldable pub order_of : SlowCount → Tie → List Bool → ℕ → List ℕ
order_of c tie left zero = []
order_of c tie left (suc n) =
    option_map_or (λ x. x ∷ order_of c tie (slice_set left x false) n) (next c tie left) []
