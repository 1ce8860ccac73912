-- The ballots of a file, one by one. Assumes nothing.
use Rattle.std.specs.Prelude.{◌≡◌, ℕ, ◌-◌, ◌<◌, List, map, length}
use Rattle.std.specs.List.{range_with_len}
use Rattle.ballots.specs.declared.file.Ballots.{Ballots}
use Rattle.ballots.specs.Format.{candidates_in, ballots_in, ballot_bytes}

-- p is ballot i of the bytes
pub record BallotAt (bs : List ℕ) (i : ℕ) (p : List ℕ) : Type 0 where
  pub there : i < ballots_in bs
  pub bytes : p ≡ ballot_bytes (candidates_in bs) bs i
  pub long : length p ≡ candidates_in bs

-- the ballots from i on, each as its bytes
abbrev pub ballots_from : List ℕ → ℕ → List (List ℕ)
ballots_from bs i = map (ballot_bytes (candidates_in bs) bs) (range_with_len i (ballots_in bs - i))

-- the ballots that are still to come
abbrev pub ballots_left : Ballots → List (List ℕ)
ballots_left ballots = ballots_from ballots.file.bytes.now ballots.next
