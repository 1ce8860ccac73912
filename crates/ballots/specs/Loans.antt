-- What a call returns, and what it leaves in a slice that it is lent, by whether it is refused. Assumes nothing.
use Rattle.std.specs.Prelude.{◌≡◌, if◌then◌else◌, List, ◌++◌, length, drop, Some, None, Ok, Err, Option, Result, nat_lt}
use Rattle.ballots.specs.declared.refusal.Lent.{Lent}
use Rattle.ballots.specs.declared.refusal.Refusal.{Refusal}
use Rattle.ballots.specs.declared.refusal.Refusal.TheVariants.{Short}

-- the refusal, and where there is none the answer
abbrev pub result_of : {A : Type 0} → Option Refusal → A → Result A Refusal
result_of None a = Ok a
result_of (Some e) a = Err e

-- what a lent slice holds afterwards: the front, and behind it what was there; all as it was, where the call is refused
abbrev pub slice_after : {A : Type 0} → Option Refusal → List A → List A → List A
slice_after None old front = front ++ drop (length front) old
slice_after (Some e) old front = old

-- there is no room for the front in what is lent
abbrev pub no_room : {A : Type 0} → Lent → List A → List A → Option Refusal
no_room lent front old = if nat_lt (length old) (length front) then Some (Short lent) else None

-- the front of what was lent is filled, and r is the answer; or the call is refused, and nothing is changed
pub record Fills {A B : Type 0}
    (refused : Option Refusal) (front : List A) (value : B) (old new : List A) (r : Result B Refusal) : Type 0 where
  pub answer : r ≡ result_of refused value
  pub after : new ≡ slice_after refused old front
