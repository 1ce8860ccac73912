-- The pairs of different candidates, in order. Assumes nothing.
use Rattle.std.specs.Prelude.{ℕ, ◌+◌, ◌-◌, not, if◌then◌else◌, List, [], ◌++◌, map, filter, ◌==◌, nat_lt}
use Rattle.std.specs.List.{range_with_len, flat_map}
use Rattle.pairwise.specs.declared.pairs.Pairs.{Pairs}

-- the candidates below v from y on, without x
unfoldable pub others : ℕ → ℕ → ℕ → List ℕ
others v x y = filter (λ z. not (z == x)) (range_with_len y (v - y))

-- the pairs of those below v from x on, each with every other
unfoldable pub pairs_from : ℕ → ℕ → List (ℕ × ℕ)
pairs_from v x = flat_map (λ a. map (λ b. (a, b)) (others v a 0)) (range_with_len x (v - x))

-- the pairs of different candidates below v, in order of the first, then of the second
abbrev pub pairs : ℕ → List (ℕ × ℕ)
pairs v = pairs_from v 0

-- the pairs that are still to come
abbrev pub to_come : Pairs → List (ℕ × ℕ)
to_come p =
    if nat_lt p.x p.candidates
    then map (λ b. (p.x, b)) (others p.candidates p.x p.y) ++ pairs_from p.candidates (p.x + 1)
    else []
