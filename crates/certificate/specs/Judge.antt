-- The judge of a certificate: the first refusal in it, front to back. Assumes nothing.
use Rattle.std.specs.Prelude.{ℕ, ◌+◌, ◌^◌, min, Bool, not, ◌&&◌, if◌then◌else◌, List, [], ◌∷◌, length, Some, None, Option, ◌==◌, nat_le, nat_lt, slice_index}
use Rattle.std.specs.List.{list_all}
use Rattle.std.specs.Option.{option_or}
use Rattle.ballots.specs.declared.refusal.Refusal.{Refusal}
use Rattle.ballots.specs.declared.refusal.Refusal.TheVariants.{Length, Table, Path, Cut, Best}
use Rattle.ballots.specs.Format.{candidates_in}
use Rattle.ballots.specs.Refusals.{refusal}
use Rattle.ballots.specs.Sets.{holds}
use Rattle.pairwise.specs.Counts.{win_by}
use Rattle.pairwise.specs.Pairs.{pairs}
use Rattle.pairwise.specs.Pairwise.{counts_of}
use Rattle.paths.specs.Middles.{strength}
use Rattle.best.specs.Comparisons.{best_by}
use Rattle.certificate.specs.Layout.{set_size, Entry, table_bytes, table_size}
use Rattle.certificate.specs.Reading.{set_at, path_place, cut_place, entry_end, entry_at, entries_end}

-- no refusal where the demand is met
abbrev pub unless : Bool → Refusal → Option Refusal
unless met e = if met then None else Some e

-- the certificate ends before the place p
abbrev pub ends_before : List ℕ → ℕ → Option Refusal
ends_before sheet p = unless (nat_le p (length sheet)) (Length (length sheet))

-- why these bytes do not stand in the certificate from p on
abbrev pub bytes_refusal : List ℕ → ℕ → List ℕ → Option Refusal
bytes_refusal sheet p [] = None
bytes_refusal sheet p (b ∷ bs) =
    option_or (ends_before sheet (p + 1))
    (option_or (unless (slice_index sheet p == b) (Table p)) (bytes_refusal sheet (p + 1) bs))

-- the weakest of the wins from x over the candidates of the row to y, its last; 0 where the row does not end in y
abbrev pub weakest_to : (ℕ → ℕ → ℕ) → ℕ → ℕ → List ℕ → ℕ
weakest_to w y x [] = 0
weakest_to w y x (z ∷ []) = if z == y then w x z else 0
weakest_to w y x (z ∷ (a ∷ zs)) = min (w x z) (weakest_to w y z (a ∷ zs))

-- the row is a path from x to y, of which the weakest win is s; a row of nobody stands for the strength 0
unfoldable pub is_path : (ℕ → ℕ → ℕ) → ℕ → ℕ → ℕ → List ℕ → Bool
is_path w x y s [] = s == 0
is_path w x y s (z ∷ zs) = z == x && (weakest_to w y x zs == s && nat_lt 0 s)

-- a is in the set, b is not, and a wins against b with more than s
abbrev pub crosses : (ℕ → ℕ → ℕ) → ℕ → ℕ → ℕ → ℕ → Bool
crosses w s set a b = holds set a && (not (holds set b) && nat_lt s (w a b))

-- the set has x and not y, nobody but candidates below v, and none of it wins against one outside with more than s
unfoldable pub is_cut : (ℕ → ℕ → ℕ) → ℕ → ℕ → ℕ → ℕ → ℕ → Bool
is_cut w v x y s set =
    nat_lt set (2 ^ v) && (holds set x && (not (holds set y)
    && list_all (λ ab. not (crosses w s set ab.0 ab.1)) (pairs v)))

-- why the entry of the pair x, y that starts at p is refused
unfoldable pub entry_refusal : (ℕ → ℕ → ℕ) → ℕ → List ℕ → ℕ → ℕ → ℕ → Option Refusal
entry_refusal w v sheet p x y =
    let e : Entry = entry_at sheet p in
    option_or (ends_before sheet (path_place p))
    (option_or (ends_before sheet (cut_place sheet p))
    (option_or (unless (is_path w x y e.strength e.path) (Path x y))
    (option_or (ends_before sheet (entry_end sheet p))
    (unless (is_cut w v x y e.strength e.cut) (Cut x y)))))

-- why the entries of the pairs from p on are
abbrev pub entries_refusal : (ℕ → ℕ → ℕ) → ℕ → List ℕ → ℕ → List (ℕ × ℕ) → Option Refusal
entries_refusal w v sheet p [] = None
entries_refusal w v sheet p (xy ∷ pairs) =
    option_or (entry_refusal w v sheet p xy.0 xy.1) (entries_refusal w v sheet (entry_end sheet p) pairs)

-- why the end of the certificate from p on is: it has this set of the best, and no byte behind it
abbrev pub end_refusal : ℕ → List ℕ → ℕ → Option Refusal
end_refusal best sheet p =
    option_or (ends_before sheet (p + set_size))
    (option_or (unless (set_at sheet p == best) Best)
    (unless (nat_le (length sheet) (p + set_size)) (Length (p + set_size))))

-- why a certificate of v candidates with the counts n is refused
unfoldable pub sheet_refusal : ℕ → (ℕ → ℕ → ℕ) → List ℕ → Option Refusal
sheet_refusal v n sheet =
    option_or (bytes_refusal sheet 0 (table_bytes v n))
    (option_or (entries_refusal (win_by n) v sheet (table_size v) (pairs v))
    (end_refusal (best_by (strength (win_by n) v) v) sheet (entries_end sheet (table_size v) (pairs v))))

-- why the ballots are refused, or else why the certificate is, if one of them is
abbrev pub judge : List ℕ → List ℕ → Option Refusal
judge bytes sheet = option_or (refusal bytes) (sheet_refusal (candidates_in bytes) (counts_of bytes) sheet)
