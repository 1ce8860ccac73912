-- The format of ballots: what stands where in the bytes, and the ballots that they hold. Assumes nothing.
use Rattle.std.specs.Prelude.{ℕ, ◌+◌, ◌*◌, List, [], ◌∷◌, ◌++◌, map, length, take, drop, slice_index}
use Rattle.std.specs.Int.{w16, to_le_bytes, from_le_bytes}
use Rattle.std.specs.List.{range_with_len, flat_map}
use Rattle.ballots.specs.Ballots.{ranks_of}

-- the greatest number of candidates
abbrev pub most_candidates : ℕ
most_candidates = 30

-- the greatest number of ballots
abbrev pub most_ballots : ℕ
most_ballots = 65535

-- how many bytes stand before the ballots
abbrev pub header_length : ℕ
header_length = 3

-- the number of candidates
abbrev pub candidates_in : List ℕ → ℕ
candidates_in bs = slice_index bs 0

-- the number of ballots, low byte first
abbrev pub ballots_in : List ℕ → ℕ
ballots_in bs = from_le_bytes w16 (slice_index bs 1 ∷ slice_index bs 2 ∷ [])

-- how many bytes the header and the ballots take
abbrev pub whole_length : List ℕ → ℕ
whole_length bs = header_length + ballots_in bs * candidates_in bs

-- the bytes of ballot i of v candidates
abbrev pub ballot_bytes : ℕ → List ℕ → ℕ → List ℕ
ballot_bytes v bs i = take v (drop (header_length + i * v) bs)

-- the ballots that the bytes hold, first to last
abbrev pub ballots_of : List ℕ → List (List ℕ)
ballots_of bs = map (λ i. ranks_of (ballot_bytes (candidates_in bs) bs i)) (range_with_len 0 (ballots_in bs))

-- the file of ballots of v candidates, each given by its bytes
abbrev pub file_of : ℕ → List (List ℕ) → List ℕ
file_of v ps = v ∷ (to_le_bytes w16 (length ps) ++ flat_map (λ p. p) ps)
