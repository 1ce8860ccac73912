-- The laws of the method over any win function w and any candidates that stand. Each is a statement, a type whose
-- proof is owed. Assumes nothing.
use Rattle.std.specs.Prelude.{◌≡◌, ℕ, ◌<◌, ◌≤◌, Bool, true, false, ◌&&◌, ◌≢◌, ◌↔◌, if◌then◌else◌, ◌==◌}
use Rattle.paths.specs.Paths.{below, Within}
use Rattle.paths.specs.Middles.{via}
use Rattle.paths.specs.Strengths.{StrengthOf}
use Rattle.best.specs.Best.{Ahead, Best, OnlyBest, BestIn}

-- x is ahead of y exactly if the strength from x to y is above the strength back
abbrev pub AheadByStrength : Type 0
AheadByStrength =
    (w : ℕ → ℕ → ℕ) (v x y s t : ℕ) → StrengthOf w v x y s → StrengthOf w v y x t →
    Ahead w (below v) x y ↔ (t < s)

-- the same among any candidates that stand
abbrev pub AheadByVia : Type 0
AheadByVia =
    (w : ℕ → ℕ → ℕ) (here : ℕ → Bool) (v x y : ℕ) → Within here v → here x ≡ true → here y ≡ true →
    Ahead w here x y ↔ (via w here v y x < via w here v x y)

-- x is among the best exactly if no strength to x is above the strength back
abbrev pub BestByStrength : Type 0
BestByStrength =
    (w : ℕ → ℕ → ℕ) (v x : ℕ) → x < v →
    Best w (below v) x ↔ ((y s t : ℕ) → StrengthOf w v x y s → StrengthOf w v y x t → t ≤ s)

-- the same among any candidates that stand
abbrev pub BestByVia : Type 0
BestByVia =
    (w : ℕ → ℕ → ℕ) (here : ℕ → Bool) (v x : ℕ) → Within here v → here x ≡ true →
    Best w here x ↔ ((y : ℕ) → here y ≡ true → via w here v y x ≤ via w here v x y)

-- x is among the best exactly if nobody is ahead of x
abbrev pub BestUnbeaten : Type 0
BestUnbeaten =
    (w : ℕ → ℕ → ℕ) (here : ℕ → Bool) (v x : ℕ) → Within here v → here x ≡ true →
    Best w here x ↔ ((y : ℕ) → Ahead w here y x → ⊥)

-- R is an order: what comes before something comes before all that follows it, and nothing comes before itself
pub record IsStrictOrder (R : ℕ → ℕ → Type 0) : Type 0 where
  pub transitive : (x y z : ℕ) → R x y → R y z → R x z
  pub irreflexive : (x : ℕ) → R x x → ⊥

-- whoever is ahead of one that is ahead of a third is ahead of the third, and nobody is ahead of itself
abbrev pub AheadIsAnOrder : Type 0
AheadIsAnOrder = (w : ℕ → ℕ → ℕ) (here : ℕ → Bool) → IsStrictOrder (Ahead w here)

-- where anybody stands, somebody is among the best
abbrev pub SomeBest : Type 0
SomeBest =
    (w : ℕ → ℕ → ℕ) (here : ℕ → Bool) (v a : ℕ) → Within here v → here a ≡ true → (x : ℕ) × Best w here x

-- x wins against y, and y does not against x
abbrev pub WinsAgainst : (ℕ → ℕ → ℕ) → ℕ → ℕ → Type 0
WinsAgainst w x y = (0 < w x y) × (w y x ≡ 0)

-- a candidate that wins against every other one is the only best
abbrev pub CondorcetWinner : Type 0
CondorcetWinner =
    (w : ℕ → ℕ → ℕ) (here : ℕ → Bool) (x : ℕ) → here x ≡ true →
    ((y : ℕ) → here y ≡ true → y ≢ x → WinsAgainst w x y) → OnlyBest w here x

-- a candidate that loses against every other one is not among the best, unless it is alone
abbrev pub CondorcetLoser : Type 0
CondorcetLoser =
    (w : ℕ → ℕ → ℕ) (here : ℕ → Bool) (x a : ℕ) → here a ≡ true → a ≢ x →
    ((y : ℕ) → here y ≡ true → y ≢ x → WinsAgainst w y x) → Best w here x → ⊥

-- each candidate of the set g wins against each outside of it
abbrev pub Dominates : (ℕ → ℕ → ℕ) → (ℕ → Bool) → (ℕ → Bool) → Type 0
Dominates w here g = (y z : ℕ) → here y ≡ true → here z ≡ true → g y ≡ true → g z ≡ false → WinsAgainst w y z

-- if each candidate of a set that is not empty wins against each outside of it, all the best are in the set
abbrev pub DominatingSet : Type 0
DominatingSet =
    (w : ℕ → ℕ → ℕ) (here g : ℕ → Bool) (a : ℕ) → here a ≡ true → g a ≡ true → Dominates w here g →
    (x : ℕ) → Best w here x → g x ≡ true

-- from the wins w to the wins u, x is raised: no win of another is stronger, and no win against another is weaker
pub record Raises (w u : ℕ → ℕ → ℕ) (here : ℕ → Bool) (x : ℕ) : Type 0 where
  pub no_stronger : (y z : ℕ) → here y ≡ true → here z ≡ true → y ≢ x → u y z ≤ w y z
  pub no_weaker : (y z : ℕ) → here y ≡ true → here z ≡ true → z ≢ x → w y z ≤ u y z

-- whoever is among the best and is raised is still among the best
abbrev pub Monotonicity : Type 0
Monotonicity =
    (w u : ℕ → ℕ → ℕ) (here : ℕ → Bool) (x : ℕ) → Raises w u here x → Best w here x → Best u here x

-- every win of w is as strong a win of u the other way round
abbrev pub Reverses : (ℕ → ℕ → ℕ) → (ℕ → ℕ → ℕ) → (ℕ → Bool) → Type 0
Reverses w u here = (x y : ℕ) → here x ≡ true → here y ≡ true → u y x ≡ w x y

-- with all wins reversed, whoever was ahead is behind
abbrev pub ReversalSymmetry : Type 0
ReversalSymmetry =
    (w u : ℕ → ℕ → ℕ) (here : ℕ → Bool) (x y : ℕ) → Reverses w u here → Ahead w here x y → Ahead u here y x

-- the candidates of k are clones: against each candidate outside of k, all of them win and lose alike
abbrev pub WinAlike : (ℕ → ℕ → ℕ) → ℕ → (ℕ → Bool) → Type 0
WinAlike w v k =
    (x z y : ℕ) → x < v → z < v → y < v → k x ≡ true → k z ≡ true → k y ≡ false →
    (w x y ≡ w z y) × (w y x ≡ w y z)

-- those that stand here and those that stand there differ in nothing but which of k they are, and both have some of k
pub record Exchanges (k here there : ℕ → Bool) : Type 0 where
  pub others : (z : ℕ) → k z ≡ false → there z ≡ here z
  pub some_here : (a : ℕ) × (k a ≡ true) × (here a ≡ true)
  pub some_there : (a : ℕ) × (k a ≡ true) × (there a ≡ true)

-- each candidate outside of k is among the best here exactly if it is there, and some of k is here exactly if some of
-- k is there
pub record SameBest (w : ℕ → ℕ → ℕ) (k here there : ℕ → Bool) : Type 0 where
  pub others : (y : ℕ) → k y ≡ false → Best w here y ↔ Best w there y
  pub members : BestIn w here k ↔ BestIn w there k

-- of clones, any may stand in place of any: who else is among the best does not change, nor whether one of them is
abbrev pub CloneExchange : Type 0
CloneExchange =
    (w : ℕ → ℕ → ℕ) (v : ℕ) (k here there : ℕ → Bool) → Within here v → Within there v →
    Exchanges k here there → WinAlike w v k → SameBest w k here there

-- of those that stand here, all outside of k, and of k only a
unfoldable pub with_only : (ℕ → Bool) → ℕ → (ℕ → Bool) → ℕ → Bool
with_only k a here x = here x && (if k x then x == a else true)

-- each candidate outside of k is among the best with all of k exactly if it is with only a of k,
-- and one of k is with all of k exactly if a is with only a of k
pub record OneForAll (w : ℕ → ℕ → ℕ) (k here : ℕ → Bool) (a : ℕ) : Type 0 where
  pub others : (y : ℕ) → k y ≡ false → Best w here y ↔ Best w (with_only k a here) y
  pub members : BestIn w here k ↔ Best w (with_only k a here) a

-- of clones, any single one may stand in place of all
abbrev pub CloneIndependence : Type 0
CloneIndependence =
    (w : ℕ → ℕ → ℕ) (v : ℕ) (k here : ℕ → Bool) (a : ℕ) → Within here v → here a ≡ true → k a ≡ true →
    WinAlike w v k → OneForAll w k here a
