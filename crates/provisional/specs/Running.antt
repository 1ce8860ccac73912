-- A count that has taken some ballots, and what it answers of them. Assumes nothing.
use Rattle.std.specs.Prelude.{◌≡◌, ℕ, ◌<◌, List, [], ◌∷◌, ◌++◌, map, length, IfOk, Option, Result}
use Rattle.std.specs.List.Sorted.{IsPermutation}
use Rattle.ballots.specs.declared.refusal.Refusal.{Refusal}
use Rattle.ballots.specs.Format.{most_candidates, file_of}
use Rattle.ballots.specs.Ballots.{ranks_of, unranked}
use Rattle.ballots.specs.Laws.{Vote}
use Rattle.pairwise.specs.Counts.{count}
use Rattle.pairwise.specs.Grids.{cell, within}
use Rattle.pairwise.specs.Pairwise.{win_in, OneMore}
use Rattle.best.specs.Answers.{BestOf}
use Rattle.best.specs.Comparisons.{BestSet}
use Rattle.tiebreak.specs.declared.outcome.Outcome.{Outcome}
use Rattle.tiebreak.specs.Outcomes.{ComesTo}
use Rattle.provisional.specs.declared.Provisional.{Provisional}

-- how many ballots the count has taken
abbrev pub ballots_taken : Provisional → ℕ
ballots_taken c = c.pairwise.ballots

-- the count has taken the ballots ps of v candidates, each given by its bytes
pub record Taken (v : ℕ) (ps : List (List ℕ)) (c : Provisional) : Type 0 where
  pub vote : Vote v ps
  pub ballots : ballots_taken c ≡ length ps
  pub candidates : c.pairwise.counts.candidates ≡ v
  pub counts : (x y : ℕ) → x < most_candidates → y < most_candidates →
      cell c.pairwise.counts.cells x y ≡ within v (count unranked (map ranks_of ps)) x y

-- the count d has taken the ballot p behind those that c has taken
pub record TakesBallot (c : Provisional) (p : List ℕ) (d : Provisional) : Type 0 where
  pub more : OneMore c.pairwise p d.pairwise
  pub taken : (v : ℕ) (ps : List (List ℕ)) → Taken v ps c → Taken v (ps ++ p ∷ []) d

-- s is the set of the best by the counts that are kept
abbrev pub BestOfCounts : Provisional → ℕ → Type 0
BestOfCounts c s = BestSet (win_in c.pairwise) c.pairwise.counts.candidates s

-- s is what the count of a file answers that has the ballots taken, in whatever order
abbrev pub BestOfTaken : Provisional → ℕ → Type 0
BestOfTaken c s =
    (v : ℕ) (ps qs : List (List ℕ)) → Taken v ps c → IsPermutation ps qs → BestOf (file_of v qs) s

-- the whole count of that file, with whatever draw, comes to the set s and to as many ballots
abbrev pub AsCounted : Provisional → ℕ → Type 0
AsCounted c s =
    (v : ℕ) (ps qs : List (List ℕ)) → Taken v ps c → IsPermutation ps qs →
    (draw : List ℕ) (refused : Option Refusal) (r : Result Outcome Refusal) → ComesTo (file_of v qs) draw refused r →
    IfOk r (λ o. (o.best ≡ s) × (o.ballots ≡ ballots_taken c))
