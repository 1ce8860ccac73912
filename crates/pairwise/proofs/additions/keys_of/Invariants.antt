use Rattle.std.proofs.Common.{◌≡◌, ℕ, ◌+◌, ◌<◌, ◌≤◌, length, get_or}
use Rattle.ballots.specs.Ballots.{rank_of}
use Rattle.pairwise.specs.inner.Recent.{row_length}
use Rattle.pairwise.proofs.additions.keys_of.Given as goal

abbrev pub invariant-loop-i : goal.invariant-loop-i
invariant-loop-i l =
    (length l.keys ≡ row_length)
    × ((k : ℕ) → k < l.i → get_or l.keys k 0 + 1 ≡ rank_of (get_or l.ballot.ranks.now k 0))
    × ((k : ℕ) → l.i ≤ k → get_or l.keys k 0 ≡ 0)
