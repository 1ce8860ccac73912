-- Drawn ballots: their numbers in two bytes each, low byte first. Assumes nothing.
use Rattle.std.specs.Prelude.{ℕ, ◌+◌, ◌*◌, Bool, true, false, not, ◌&&◌, ◌||◌, List, [], ◌∷◌, ◌==◌, nat_lt}
use Rattle.slow_count.specs.Files.{prefers}

-- the number of a drawn ballot
abbrev pub number : ℕ → ℕ → ℕ
number low high = low + 256 * high

-- ballot i is drawn
abbrev pub draws : ℕ → List ℕ → Bool
draws i (low ∷ high ∷ rest) = number low high == i || draws i rest
draws i rest = false

-- the ballot i is one of n, and is not among the others that are drawn
unfoldable pub is_drawn_once : ℕ → ℕ → List ℕ → Bool
is_drawn_once i n others = nat_lt i n && not (draws i others)

-- each drawn ballot is one of n, and none is drawn again
abbrev pub is_draw : ℕ → List ℕ → Bool
is_draw n [] = true
is_draw n (low ∷ []) = false
is_draw n (low ∷ high ∷ rest) = is_drawn_once (number low high) n rest && is_draw n rest

-- the first drawn ballot that does not put x and y equal prefers x, or none does and x has the smaller number
abbrev pub drawn_before : List ℕ → ℕ → ℕ → List ℕ → Bool
drawn_before bs x y (low ∷ high ∷ rest) =
    let i = number low high in prefers bs i x y || (not (prefers bs i y x) && drawn_before bs x y rest)
drawn_before bs x y rest = nat_lt x y
