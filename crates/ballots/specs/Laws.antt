-- Which files are accepted, and what a struck file keeps: statements, types whose proofs are owed. Assumes nothing.
use Rattle.std.specs.Prelude.{◌≡◌, ℕ, ◌<◌, ◌≤◌, Bool, true, List, [], map, length, None, slice_index_or}
use Rattle.std.specs.List.{AllByRecursion}
use Rattle.ballots.specs.Format.{most_candidates, most_ballots, candidates_in, ballots_in, ballots_of, file_of}
use Rattle.ballots.specs.Ballots.{ranks_of, unranked}
use Rattle.ballots.specs.Refusals.{refusal}
use Rattle.ballots.specs.Strikes.{new_number, struck_file}

-- the ballots of a vote among v candidates: a byte for each candidate, and no more ballots than two bytes can count
pub record Vote (v : ℕ) (ps : List (List ℕ)) : Type 0 where
  pub some : 1 ≤ v
  pub few : v ≤ most_candidates
  pub counted : length ps ≤ most_ballots
  pub each : AllByRecursion (λ p. length p ≡ v) ps

-- the file of a vote is accepted, and its ballots are those of the vote
abbrev pub VotesAccepted : Type 0
VotesAccepted =
    (v : ℕ) (ps : List (List ℕ)) → Vote v ps →
    (refusal (file_of v ps) ≡ None) × (ballots_of (file_of v ps) ≡ map ranks_of ps)

-- and nothing else is: bytes that are accepted are the file of a vote
abbrev pub OnlyVotesAccepted : Type 0
OnlyVotesAccepted =
    (bs : List ℕ) → AllByRecursion (λ b. b < 256) bs → refusal bs ≡ None →
    (ps : List (List ℕ)) × Vote (candidates_in bs) ps × (bs ≡ file_of (candidates_in bs) ps)

-- the rank of the candidate x on ballot i of a file
abbrev pub rank_on : List ℕ → ℕ → ℕ → ℕ
rank_on bs i x = slice_index_or (slice_index_or (ballots_of bs) i []) x unranked

-- the struck file is accepted, has as many candidates as stay, and has as many ballots as the file itself;
-- on each of them, each candidate that stays has under its number there the rank that it has in the file itself
pub record KeepsRanks (keep : ℕ → Bool) (bs : List ℕ) : Type 0 where
  pub accepted : refusal (struck_file keep bs) ≡ None
  pub candidates : candidates_in (struck_file keep bs) ≡ new_number keep (candidates_in bs)
  pub ballots : ballots_in (struck_file keep bs) ≡ ballots_in bs
  pub ranks : (i x : ℕ) → i < ballots_in bs → x < candidates_in bs → keep x ≡ true →
      rank_on (struck_file keep bs) i (new_number keep x) ≡ rank_on bs i x

-- where a file is accepted and one of its candidates stays, the struck file is accepted and keeps the ranks
abbrev pub StrikeKeepsRanks : Type 0
StrikeKeepsRanks =
    (keep : ℕ → Bool) (bs : List ℕ) (a : ℕ) → refusal bs ≡ None → a < candidates_in bs → keep a ≡ true →
    KeepsRanks keep bs
