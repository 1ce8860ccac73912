-- A draw as numbers in a word. Assumes nothing.
use Rattle.std.specs.Prelude.{ℕ, Bool, List, [], ◌∷◌, ◌++◌, is_some, ◌==◌, codes, decimal}
use Rattle.std.specs.Int.{w16, to_le_bytes}
use Rattle.std.specs.List.{slice_split, flat_map, filter_map, list_all}
use Rattle.calls.specs.Numbers.{number_of}

-- the test for the sign between two numbers
abbrev pub is_comma : ℕ → Bool
is_comma b = b == 44

-- the word is numbers with commas between
abbrev pub is_draw : List ℕ → Bool
is_draw w = list_all (λ piece. is_some (number_of piece)) (slice_split is_comma w)

-- the numbers, first to last
abbrev pub numbers_in : List ℕ → List ℕ
numbers_in w = filter_map number_of (slice_split is_comma w)

-- the bytes of a draw: two for each number, low byte first
abbrev pub draw_bytes : List ℕ → List ℕ
draw_bytes ns = flat_map (to_le_bytes w16) ns

-- the line that says the draw
abbrev pub drawn_line : List ℕ → List ℕ
drawn_line ns = codes "drawn" ++ (flat_map (λ n. codes " " ++ decimal n) ns ++ (10 ∷ []))
