-- What one ballot says: a rank for each candidate, and who is over whom. Assumes nothing.
use Rattle.std.specs.Prelude.{ℕ, Bool, if◌then◌else◌, List, map, ◌==◌, nat_lt, slice_index_or}

-- what an unranked candidate is read as: below every rank
abbrev pub unranked : ℕ
unranked = 256

-- a rank as it is read
abbrev pub rank_of : ℕ → ℕ
rank_of b = if b == 0 then unranked else b

-- a ballot as its candidates' ranks
abbrev pub ranks_of : List ℕ → List ℕ
ranks_of p = map rank_of p

-- the ballot p puts x over y: x has the smaller rank. A candidate that p does not list has the rank last
unfoldable pub over : ℕ → List ℕ → ℕ → ℕ → Bool
over last p x y = nat_lt (slice_index_or p x last) (slice_index_or p y last)
