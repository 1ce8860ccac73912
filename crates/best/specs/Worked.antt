-- Worked counts: small elections with their best and their strengths, as one works them out by hand. Assumes nothing.
use Rattle.std.specs.Prelude.{ℕ, ◌<◌, ◌≢◌, ◌↔◌, List, [], ◌∷◌, ◌++◌, replicate, slice_index, slice_index_or}
use Rattle.std.specs.List.{All, Contains}
use Rattle.ballots.specs.Ballots.{unranked}
use Rattle.pairwise.specs.Counts.{win}
use Rattle.paths.specs.Paths.{below, Strongest}
use Rattle.best.specs.Best.{Best}

-- an election, the candidates that are among the best, and for each candidate its strengths to all, 0 to itself
pub record WorkedCount : Type 0 where
  pub candidates : ℕ
  pub ballots : List (List ℕ)
  pub best : List ℕ
  pub strengths : List (List ℕ)

-- each row of ranks stands behind the number of ballots that have it
abbrev pub worked_elections : List WorkedCount
worked_elections =
    -- a circle: 0 wins against 1, 1 against 2 and 2 against 0
    record {
      candidates = 3;
      ballots = replicate 4 (1 ∷ 2 ∷ 3 ∷ []) ++ replicate 3 (3 ∷ 1 ∷ 2 ∷ []) ++ replicate 2 (2 ∷ 3 ∷ 1 ∷ []);
      best = 0 ∷ [];
      strengths = (0 ∷ 6 ∷ 6 ∷ []) ∷ (5 ∷ 0 ∷ 7 ∷ []) ∷ (5 ∷ 5 ∷ 0 ∷ []) ∷ [];
    }
    -- equal counts, which are nobody's win
    ∷ record {
      candidates = 2;
      ballots = replicate 3 (1 ∷ 2 ∷ []) ++ replicate 3 (2 ∷ 1 ∷ []);
      best = 0 ∷ 1 ∷ [];
      strengths = (0 ∷ 0 ∷ []) ∷ (0 ∷ 0 ∷ []) ∷ [];
    }
    -- equal ranks
    ∷ record {
      candidates = 3;
      ballots = replicate 5 (1 ∷ 2 ∷ 2 ∷ []) ++ replicate 4 (2 ∷ 1 ∷ 1 ∷ []) ++ replicate 1 (2 ∷ 2 ∷ 1 ∷ []);
      best = 0 ∷ 2 ∷ [];
      strengths = (0 ∷ 5 ∷ 0 ∷ []) ∷ (0 ∷ 0 ∷ 0 ∷ []) ∷ (0 ∷ 1 ∷ 0 ∷ []) ∷ [];
    }
    -- no ballots
    ∷ record {
      candidates = 3;
      ballots = [];
      best = 0 ∷ 1 ∷ 2 ∷ [];
      strengths = (0 ∷ 0 ∷ 0 ∷ []) ∷ (0 ∷ 0 ∷ 0 ∷ []) ∷ (0 ∷ 0 ∷ 0 ∷ []) ∷ [];
    }
    -- a winner against every other one
    ∷ record {
      candidates = 4;
      ballots =
          replicate 5 (1 ∷ 2 ∷ 3 ∷ 4 ∷ []) ++ replicate 4 (2 ∷ 1 ∷ 4 ∷ 3 ∷ []) ++ replicate 2 (3 ∷ 1 ∷ 2 ∷ 4 ∷ []);
      best = 1 ∷ [];
      strengths =
          (0 ∷ 0 ∷ 9 ∷ 11 ∷ []) ∷ (6 ∷ 0 ∷ 11 ∷ 11 ∷ []) ∷ (0 ∷ 0 ∷ 0 ∷ 7 ∷ []) ∷ (0 ∷ 0 ∷ 0 ∷ 0 ∷ []) ∷ [];
    }
    ∷ []

-- the count is right: between two candidates the number is the strength of the strongest path, and those listed are
-- the best
pub record IsRight (c : WorkedCount) : Type 0 where
  pub strengths : (x y : ℕ) → x < c.candidates → y < c.candidates → x ≢ y →
      Strongest (win unranked c.ballots) c.candidates x y (slice_index (slice_index_or c.strengths x []) y)
  pub best : (x : ℕ) → Contains c.best x ↔ Best (win unranked c.ballots) (below c.candidates) x

-- every worked count is right
abbrev pub WorkedCounts : Type 0
WorkedCounts = All IsRight worked_elections
