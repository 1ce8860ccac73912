-- Reading a certificate: the entries one behind the other, and what each claims. Assumes nothing.
use Rattle.std.specs.Prelude.{ℕ, ◌+◌, List, [], ◌∷◌, take, drop, slice_index}
use Rattle.std.specs.Int.{from_le_bytes}
use Rattle.pairwise.specs.Pairs.{pairs}
use Rattle.certificate.specs.Layout.{number_width, set_width, number_size, set_size, Entry, table_size}

-- the number, and the set, whose bytes stand from p on
unfoldable pub number_at : List ℕ → ℕ → ℕ
number_at bs p = from_le_bytes number_width (take number_size (drop p bs))

unfoldable pub set_at : List ℕ → ℕ → ℕ
set_at bs p = from_le_bytes set_width (take set_size (drop p bs))

-- of an entry that starts at p: where its path starts, how many candidates that has, where the cut starts,
-- where the entry ends
abbrev pub path_place : ℕ → ℕ
path_place p = p + number_size + 1

abbrev pub path_length : List ℕ → ℕ → ℕ
path_length bs p = slice_index bs (p + number_size)

abbrev pub cut_place : List ℕ → ℕ → ℕ
cut_place bs p = path_place p + path_length bs p

abbrev pub entry_end : List ℕ → ℕ → ℕ
entry_end bs p = cut_place bs p + set_size

-- the entry that starts at p
abbrev pub entry_at : List ℕ → ℕ → Entry
entry_at bs p =
    record {
      strength = number_at bs p;
      path = take (path_length bs p) (drop (path_place p) bs);
      cut = set_at bs (cut_place bs p);
    }

-- an entry for each of the pairs, one behind the other from p on, and where the last of them ends
abbrev pub entries_from : List ℕ → ℕ → List (ℕ × ℕ) → List Entry
entries_from bs p [] = []
entries_from bs p (xy ∷ pairs) = entry_at bs p ∷ entries_from bs (entry_end bs p) pairs

abbrev pub entries_end : List ℕ → ℕ → List (ℕ × ℕ) → ℕ
entries_end bs p [] = p
entries_end bs p (xy ∷ pairs) = entries_end bs (entry_end bs p) pairs

-- the entries of a certificate of v candidates
abbrev pub entries_in : ℕ → List ℕ → List Entry
entries_in v bs = entries_from bs (table_size v) (pairs v)
