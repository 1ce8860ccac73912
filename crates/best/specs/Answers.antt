-- What the count of a file answers: there is one answer, and clones do not change it. Assumes nothing.
use Rattle.std.specs.Prelude.{◌≡◌, ℕ, ◌<◌, Bool, true, false, ◌↔◌, List, IfOk, All, Some, None, Ok, Err, Option, Result}
use Rattle.std.specs.Option.{option_or}
use Rattle.ballots.specs.declared.refusal.Refusal.{Refusal}
use Rattle.ballots.specs.Format.{candidates_in, ballots_of}
use Rattle.ballots.specs.Ballots.{unranked}
use Rattle.ballots.specs.Refusals.{refusal}
use Rattle.ballots.specs.Sets.{holds}
use Rattle.ballots.specs.Strikes.{new_number, struck_file, strike_refusal}
use Rattle.pairwise.specs.Counts.{win}
use Rattle.paths.specs.Paths.{below}
use Rattle.best.specs.declared.answers.Both.{Both}
use Rattle.best.specs.Comparisons.{BestSet}
use Rattle.best.specs.Elections.{IsCloneSet}
use Rattle.best.specs.Laws.{with_only}

-- the bytes are accepted, and s is the set of the best of their ballots
pub record BestOf (bs : List ℕ) (s : ℕ) : Type 0 where
  pub accepted : refusal bs ≡ None
  pub best : BestSet (win unranked (ballots_of bs)) (candidates_in bs) s

-- r is the answer to the bytes: the set of the best, or why the bytes are refused
abbrev pub AnswerOf : List ℕ → Result ℕ Refusal → Type 0
AnswerOf bs (Ok s) = BestOf bs s
AnswerOf bs (Err e) = refusal bs ≡ Some e

-- no bytes have two answers
abbrev pub OneAnswer : Type 0
OneAnswer = (bs : List ℕ) (q r : Result ℕ Refusal) → AnswerOf bs q → AnswerOf bs r → q ≡ r

-- k is a clone set on every ballot of the file, and only candidates of k are struck, but not all of them
pub record StrikesClones (bs : List ℕ) (k keep : ℕ → Bool) : Type 0 where
  pub clones : All (IsCloneSet unranked (candidates_in bs) k) (ballots_of bs)
  pub others : (x : ℕ) → x < candidates_in bs → k x ≡ false → keep x ≡ true
  pub some : (a : ℕ) × (a < candidates_in bs) × (k a ≡ true) × (keep a ≡ true)

-- of v candidates the set s, and of those that stay the set t: each candidate outside of k is in both or in neither,
-- and some candidate of k is in s exactly if some candidate of k that stays is in t
pub record SameButClones (v : ℕ) (k keep : ℕ → Bool) (s t : ℕ) : Type 0 where
  pub others : (x : ℕ) → x < v → k x ≡ false → holds t (new_number keep x) ≡ holds s x
  pub members :
      ((x : ℕ) × (x < v) × (k x ≡ true) × (holds s x ≡ true))
      ↔ ((z : ℕ) × (z < v) × (k z ≡ true) × (keep z ≡ true) × (holds t (new_number keep z) ≡ true))

-- CLONE INDEPENDENCE of the answer r to the bytes. Strike some candidates of a clone set, but not all: the answer to
-- the struck file is a set too, in which the others are exactly if they are in r, and some of the clone set is exactly
-- if some is in r
abbrev pub CloneIndependent : List ℕ → Result ℕ Refusal → Type 0
CloneIndependent bs r = IfOk r (λ s.
    (k keep : ℕ → Bool) → StrikesClones bs k keep → (q : Result ℕ Refusal) → AnswerOf (struck_file keep bs) q →
    (t : ℕ) × (q ≡ Ok t) × SameButClones (candidates_in bs) k keep s t)

-- k is a clone set on every ballot of the file, and all candidates of k but a are struck, and nobody else
pub record StrikesAllButOne (bs : List ℕ) (k keep : ℕ → Bool) (a : ℕ) : Type 0 where
  pub clones : All (IsCloneSet unranked (candidates_in bs) k) (ballots_of bs)
  pub inside : a < candidates_in bs
  pub member : k a ≡ true
  pub stay : (x : ℕ) → x < candidates_in bs → keep x ≡ with_only k a (below (candidates_in bs)) x

-- of v candidates the set s, and of those that stay the set t: each candidate outside of k is in both or in neither,
-- and some candidate of k is in s exactly if a is in t
pub record SameByOne (v : ℕ) (k keep : ℕ → Bool) (a s t : ℕ) : Type 0 where
  pub others : (x : ℕ) → x < v → k x ≡ false → holds t (new_number keep x) ≡ holds s x
  pub members : ((x : ℕ) × (x < v) × (k x ≡ true) × (holds s x ≡ true)) ↔ (holds t (new_number keep a) ≡ true)

-- the same with any single one in place of all: strike all candidates of a clone set but a. The answer to the struck
-- file is a set too, in which the others are exactly if they are in r, and a is exactly if some of the clone set is
abbrev pub IndependentByOne : List ℕ → Result ℕ Refusal → Type 0
IndependentByOne bs r = IfOk r (λ s.
    (k keep : ℕ → Bool) (a : ℕ) → StrikesAllButOne bs k keep a → (q : Result ℕ Refusal) →
    AnswerOf (struck_file keep bs) q → (t : ℕ) × (q ≡ Ok t) × SameByOne (candidates_in bs) k keep a s t)

-- every answer is independent of clones
abbrev pub AnswersIndependent : Type 0
AnswersIndependent =
    (bs : List ℕ) (r : Result ℕ Refusal) → AnswerOf bs r → CloneIndependent bs r × IndependentByOne bs r

-- s is the set of the best of the file, t that of the struck file, and where only candidates of a clone set are struck
-- they say the same
pub record BestOfBoth (bs : List ℕ) (keep : ℕ → Bool) (s t : ℕ) : Type 0 where
  pub all : BestOf bs s
  pub kept : BestOf (struck_file keep bs) t
  pub clones : (k : ℕ → Bool) → StrikesClones bs k keep → SameButClones (candidates_in bs) k keep s t
  pub one : (k : ℕ → Bool) (a : ℕ) → StrikesAllButOne bs k keep a → SameByOne (candidates_in bs) k keep a s t

-- the set of the best of a file and that of a struck file always agree
abbrev pub BothAgree : Type 0
BothAgree =
    (bs : List ℕ) (keep : ℕ → Bool) (s t : ℕ) → BestOf bs s → BestOf (struck_file keep bs) t → BestOfBoth bs keep s t

-- why two files are not counted, if they are not: the bytes are refused, or candidates are not struck off them
abbrev pub both_refusal : List ℕ → (ℕ → Bool) → List ℕ → Option Refusal
both_refusal bs keep old = option_or (refusal bs) (strike_refusal bs keep old)

-- r has both sets of the best, which agree as clones allow, or why there are none
abbrev pub AnswersOf : List ℕ → (ℕ → Bool) → List ℕ → Result Both Refusal → Type 0
AnswersOf bs keep old (Ok b) = (both_refusal bs keep old ≡ None) × BestOfBoth bs keep b.all b.kept
AnswersOf bs keep old (Err e) = both_refusal bs keep old ≡ Some e
