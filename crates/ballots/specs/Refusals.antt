-- Refusals: the number and the place of each, and which bytes are refused as ballots. Assumes nothing.
use Rattle.std.specs.Prelude.{ℕ, ◌+◌, ◌-◌, ◌*◌, if◌then◌else◌, ◌||◌, List, ◌++◌, length, Some, None, codes, decimal, Option, ◌==◌, nat_lt}
use Rattle.ballots.specs.declared.refusal.Lent.{Lent}
use Rattle.ballots.specs.declared.refusal.Lent.TheVariants as lent
use Rattle.ballots.specs.declared.refusal.Refusal.{Refusal}
use Rattle.ballots.specs.declared.refusal.Refusal.TheVariants.{Length, Candidates, Short, Draw, Table, Path, Cut, Best}
use Rattle.ballots.specs.Format.{most_candidates, candidates_in, whole_length}
use Rattle.ballots.specs.Sets.{room}

-- the number of a refusal
abbrev pub number_of : Refusal → ℕ
number_of (Length at) = 1
number_of Candidates = 2
number_of (Short s) = 3
number_of (Draw place) = 4
number_of (Table at) = 5
number_of (Path x y) = 6
number_of (Cut x y) = 7
number_of Best = 8

-- the place of a lent slice among those of a call
abbrev pub lent_place : Lent → ℕ
lent_place lent.Table = 0
lent_place lent.Strengths = 1
lent_place lent.Sheet = 2
lent_place lent.Ballots = 3

-- the place of a pair of candidates
abbrev pub pair_place : ℕ → ℕ → ℕ
pair_place x y = x * room + y

-- where the refusal was met
abbrev pub place_of : Refusal → ℕ
place_of (Length at) = at
place_of Candidates = 0
place_of (Short s) = lent_place s
place_of (Draw place) = place
place_of (Table at) = at
place_of (Path x y) = pair_place x y
place_of (Cut x y) = pair_place x y
place_of Best = room * room - 1

-- the text of a refusal
abbrev pub text_of : Refusal → List ℕ
text_of r = codes "refused " ++ (decimal (number_of r) ++ (codes " at " ++ decimal (place_of r)))

-- why the bytes are refused as ballots, if they are: no byte at all, then the number of candidates, then the length
abbrev pub refusal : List ℕ → Option Refusal
refusal bs =
    if length bs == 0 then Some (Length 0)
    else if candidates_in bs == 0 || nat_lt most_candidates (candidates_in bs) then Some Candidates
    else if nat_lt (length bs) (whole_length bs) then Some (Length (length bs))
    else if nat_lt (whole_length bs) (length bs) then Some (Length (whole_length bs))
    else None
