-- Votes and the file that they make. Assumes nothing.
use Rattle.std.specs.Prelude.{◌≡◌, ℕ, ◌+◌, List, [], ◌∷◌, ◌++◌, min, replicate}
use Rattle.std.specs.List.{flat_map}
use Rattle.std.specs.Int.{w16, to_le_bytes}
use Rattle.ballot_files.specs.declared.votes.Votes.{Votes}

-- the greatest number of ballots that a file can say
abbrev pub most_ballots : ℕ
most_ballots = 65535

-- the file: the number of candidates, the number of ballots, low byte first, and the ranks of all ballots
abbrev pub file_of : Votes → List ℕ
file_of votes = votes.candidates ∷ to_le_bytes w16 votes.ballots ++ votes.ranks.items

-- there are so many candidates and no ballots
pub record HasNoBallots (v : ℕ) (votes : Votes) : Type 0 where
  pub candidates : votes.candidates ≡ v
  pub ballots : votes.ballots ≡ 0
  pub ranks : votes.ranks.items ≡ []

-- behind the old ballots stand so many more, each with these ranks
pub record AddsBallots (old : Votes) (times : ℕ) (bs : List ℕ) (new : Votes) : Type 0 where
  pub candidates : new.candidates ≡ old.candidates
  pub ballots : new.ballots ≡ min most_ballots (old.ballots + times)
  pub ranks : new.ranks.items ≡ old.ranks.items ++ flat_map (λ r. r) (replicate times bs)
