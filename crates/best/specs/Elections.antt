-- The laws of the method for lists of ballots: the candidates below v stand, and one that a ballot does not list has
-- the rank last. Each is a statement, a type whose proof is owed. Assumes nothing.
use Rattle.std.specs.Prelude.{◌≡◌, ℕ, ◌<◌, Bool, true, false, ◌≢◌, List, [], length, All, slice_index_or, slice_set}
use Rattle.std.specs.List.{AllZip}
use Rattle.ballots.specs.Ballots.{over}
use Rattle.pairwise.specs.Counts.{count, win}
use Rattle.paths.specs.Paths.{below, Within}
use Rattle.best.specs.Best.{Ahead, Best, OnlyBest}
use Rattle.best.specs.Laws.{IsStrictOrder, Exchanges, SameBest, OneForAll}

-- x wins against y in the ballots: more of them put x over y than y over x
abbrev pub WinsByBallots : ℕ → List (List ℕ) → ℕ → ℕ → Type 0
WinsByBallots last ps x y = count last ps y x < count last ps x y

-- whoever is ahead of one that is ahead of a third is ahead of the third, and nobody is ahead of itself
abbrev pub AheadIsAnOrderByBallots : Type 0
AheadIsAnOrderByBallots = (last v : ℕ) (ps : List (List ℕ)) → IsStrictOrder (Ahead (win last ps) (below v))

-- somebody is among the best
abbrev pub SomeBestByBallots : Type 0
SomeBestByBallots = (last v : ℕ) (ps : List (List ℕ)) → 0 < v → (x : ℕ) × Best (win last ps) (below v) x

-- a candidate that wins against every other one is the only best
abbrev pub CondorcetWinnerByBallots : Type 0
CondorcetWinnerByBallots =
    (last v x : ℕ) (ps : List (List ℕ)) → x < v → ((y : ℕ) → y < v → y ≢ x → WinsByBallots last ps x y) →
    OnlyBest (win last ps) (below v) x

-- a candidate that loses against every other one is not among the best, unless it is alone
abbrev pub CondorcetLoserByBallots : Type 0
CondorcetLoserByBallots =
    (last v x a : ℕ) (ps : List (List ℕ)) → a < v → a ≢ x →
    ((y : ℕ) → y < v → y ≢ x → WinsByBallots last ps y x) → Best (win last ps) (below v) x → ⊥

-- if each candidate of a set that is not empty wins against each outside of it, all the best are in the set
abbrev pub DominatingSetByBallots : Type 0
DominatingSetByBallots =
    (last v a : ℕ) (ps : List (List ℕ)) (g : ℕ → Bool) → a < v → g a ≡ true →
    ((y z : ℕ) → y < v → z < v → g y ≡ true → g z ≡ false → WinsByBallots last ps y z) →
    (x : ℕ) → Best (win last ps) (below v) x → g x ≡ true

-- where there is at least one ballot and every ballot puts x over y, x is ahead of y
abbrev pub Pareto : Type 0
Pareto =
    (last v x y : ℕ) (ps : List (List ℕ)) → x < v → y < v → 0 < length ps →
    All (λ p. over last p x y ≡ true) ps → Ahead (win last ps) (below v) x y

-- from the ballot p to the ballot q, x is raised: x is over all it was over, nobody is over x who was not,
-- and all others are as they were among themselves
pub record IsRaised (last v x : ℕ) (p q : List ℕ) : Type 0 where
  pub still_over : (y : ℕ) → y < v → over last p x y ≡ true → over last q x y ≡ true
  pub none_more_over : (y : ℕ) → y < v → over last q y x ≡ true → over last p y x ≡ true
  pub others : (y z : ℕ) → y < v → z < v → y ≢ x → z ≢ x → over last q y z ≡ over last p y z

-- whoever is among the best and is raised on one ballot is still among the best
abbrev pub MonotonicityByOneBallot : Type 0
MonotonicityByOneBallot =
    (last v x j : ℕ) (ps : List (List ℕ)) (q : List ℕ) → j < length ps → IsRaised last v x (slice_index_or ps j []) q →
    Best (win last ps) (below v) x → Best (win last (slice_set ps j q)) (below v) x

-- whoever is among the best and is raised on any number of ballots is still among the best
abbrev pub MonotonicityByBallots : Type 0
MonotonicityByBallots =
    (last v x : ℕ) (ps qs : List (List ℕ)) → AllZip (IsRaised last v x) ps qs →
    Best (win last ps) (below v) x → Best (win last qs) (below v) x

-- the ballot q is the ballot p reversed: it puts one candidate over another exactly if p put the other over the one
abbrev pub IsReversed : ℕ → ℕ → List ℕ → List ℕ → Type 0
IsReversed last v p q = (x y : ℕ) → x < v → y < v → over last q x y ≡ over last p y x

-- with all ballots reversed, whoever was ahead is behind
abbrev pub ReversalSymmetryByBallots : Type 0
ReversalSymmetryByBallots =
    (last v x y : ℕ) (ps qs : List (List ℕ)) → AllZip (IsReversed last v) ps qs →
    Ahead (win last ps) (below v) x y → Ahead (win last qs) (below v) y x

-- k is a clone set on the ballot p: no other candidate is between two of k, or level with one of k and not with another
abbrev pub IsCloneSet : ℕ → ℕ → (ℕ → Bool) → List ℕ → Type 0
IsCloneSet last v k p =
    (x z y : ℕ) → x < v → z < v → y < v → k x ≡ true → k z ≡ true → k y ≡ false →
    (over last p x y ≡ over last p z y) × (over last p y x ≡ over last p y z)

-- of a clone set on every ballot, any may stand in place of any: who else is among the best does not change, nor
-- whether one of them is
abbrev pub CloneExchangeByBallots : Type 0
CloneExchangeByBallots =
    (last v : ℕ) (ps : List (List ℕ)) (k here there : ℕ → Bool) → Within here v → Within there v →
    Exchanges k here there → All (IsCloneSet last v k) ps → SameBest (win last ps) k here there

-- of a clone set on every ballot, any single one may stand in place of all
abbrev pub CloneIndependenceByBallots : Type 0
CloneIndependenceByBallots =
    (last v a : ℕ) (ps : List (List ℕ)) (k : ℕ → Bool) → a < v → k a ≡ true →
    All (IsCloneSet last v k) ps → OneForAll (win last ps) k (below v) a
