-- The pairwise counts of ballots, and of the file that holds them. Assumes nothing.
use Rattle.std.specs.Prelude.{◌≡◌, ℕ, ◌+◌, ◌<◌, min, if◌then◌else◌, ◌||◌, List, length, Some, None, Option, ◌==◌, nat_lt, nat_le}
use Rattle.ballots.specs.declared.refusal.Refusal.{Refusal}
use Rattle.ballots.specs.declared.refusal.Refusal.TheVariants.{Length, Candidates}
use Rattle.ballots.specs.Format.{most_candidates, most_ballots, candidates_in, ballots_in, ballots_of}
use Rattle.ballots.specs.Ballots.{ranks_of, unranked, over}
use Rattle.ballots.specs.Refusals.{refusal}
use Rattle.pairwise.specs.declared.pairwise.Pairwise.{Pairwise}
use Rattle.pairwise.specs.Counts.{count, win_by}
use Rattle.pairwise.specs.Grids.{cell, within, number_for, IsZeroOutside}

-- n(x, y) of the ballots of a file, 0 where one of the two is no candidate
abbrev pub counts_of : List ℕ → ℕ → ℕ → ℕ
counts_of bs = within (candidates_in bs) (count unranked (ballots_of bs))

-- the strength of the win of x against y by pairwise counts, 0 where x does not win
abbrev pub win_in : Pairwise → ℕ → ℕ → ℕ
win_in t = win_by (number_for t.counts)

-- t has the counts of the ballots of a file
pub record PairwiseOf (bs : List ℕ) (t : Pairwise) : Type 0 where
  pub accepted : refusal bs ≡ None
  pub ballots : t.ballots ≡ ballots_in bs
  pub candidates : t.counts.candidates ≡ candidates_in bs
  pub counts : number_for t.counts ≡ counts_of bs
  pub outside : IsZeroOutside t.counts

-- t has the counts of no ballots of v candidates
pub record Empty (v : ℕ) (t : Pairwise) : Type 0 where
  pub ballots : t.ballots ≡ 0
  pub candidates : t.counts.candidates ≡ v
  pub counts : (x y : ℕ) → x < most_candidates → y < most_candidates → cell t.counts.cells x y ≡ 0

-- why there is no count for v candidates, if there is none
abbrev pub candidates_refusal : ℕ → Option Refusal
candidates_refusal v = if v == 0 || nat_lt most_candidates v then Some Candidates else None

-- what the bytes of one ballot add to the count of the pair x, y: 1 where it puts x over y
abbrev pub preference : List ℕ → ℕ → ℕ → ℕ
preference p = within (length p) (λ x y. if over unranked (ranks_of p) x y then 1 else 0)

-- u has the counts of t and one ballot more
pub record OneMore (t : Pairwise) (p : List ℕ) (u : Pairwise) : Type 0 where
  pub long : length p ≡ t.counts.candidates
  pub ballots : u.ballots ≡ t.ballots + 1
  pub candidates : u.counts.candidates ≡ t.counts.candidates
  pub counts : (x y : ℕ) → x < most_candidates → y < most_candidates →
      cell u.counts.cells x y ≡ cell t.counts.cells x y + preference p x y

-- why a ballot is not added: there is no room for one more, or it does not have a rank for each candidate
abbrev pub add_refusal : Pairwise → List ℕ → Option Refusal
add_refusal t p =
    if nat_le most_ballots t.ballots then Some (Length 0)
    else if length p == t.counts.candidates then None
    else Some (Length (min (length p) t.counts.candidates))
