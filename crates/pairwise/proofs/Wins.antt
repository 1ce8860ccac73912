-- The wins by the counts of a file are those of its ballots.
use Rattle.std.proofs.Common.{◌≡◌, ℕ, ◌<◌, List}
use Rattle.ballots.specs.Format.{candidates_in, ballots_of}
use Rattle.ballots.specs.Ballots.{unranked}
use Rattle.pairwise.specs.Counts.{count, win_by, win}
use Rattle.pairwise.specs.Grids.{within}
use Rattle.pairwise.specs.Pairwise.{counts_of}
use Rattle.pairwise.proofs.Cells.{within-below}

-- between two candidates nothing else counts
pub win_by-within : (v x y : ℕ) (n : ℕ → ℕ → ℕ) → x < v → y < v → win_by (within v n) x y ≡ win_by n x y
win_by-within v x y n xv yv = rw (within-below v x y n xv yv, within-below v y x n yv xv)

pub win-counts_of : (bs : List ℕ) (x y : ℕ) → x < candidates_in bs → y < candidates_in bs →
    win_by (counts_of bs) x y ≡ win unranked (ballots_of bs) x y
unfolding win
win-counts_of bs x y xv yv = win_by-within (candidates_in bs) x y (count unranked (ballots_of bs)) xv yv
