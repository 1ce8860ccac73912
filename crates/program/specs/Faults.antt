-- What is wrong with a file that is refused, and where, in words. Assumes nothing.
use Rattle.std.specs.Prelude.{ℕ, zero, suc, ◌+◌, ◌-◌, ◌*◌, ◌/◌, ◌%◌, if◌then◌else◌, List, [], length, codes, ◌==◌, nat_lt, nat_le, slice_index}
use Rattle.ballots.specs.declared.refusal.Refusal.{Refusal}
use Rattle.ballots.specs.declared.refusal.Refusal.TheVariants as refuse
use Rattle.ballots.specs.Format.{header_length, candidates_in, ballots_in, whole_length}
use Rattle.program.specs.Phrases.{numbered}
use Rattle.program.specs.declared.fault.Fault.{Fault}
use Rattle.program.specs.declared.fault.Fault.TheVariants.{Empty, Candidates, HeaderEnds, BallotEnds, GoesOn, NumberEnds, NoBallot, DrawnBefore, SheetEnds, OtherCandidates, OtherCount, Path, Cut, Best, Other}

-- where ballots of another length than their header says end, or go on
abbrev pub length_fault : List ℕ → ℕ → Fault
length_fault bs at =
    if nat_lt (length bs) header_length then (if at == 0 then Empty else HeaderEnds at)
    else if nat_le (whole_length bs) at then GoesOn at
    else if candidates_in bs == 0 then Other
    else BallotEnds at ((at - header_length) / candidates_in bs) (ballots_in bs) (whole_length bs)

-- what is wrong with ballots that are refused
abbrev pub ballots_fault : List ℕ → Refusal → Fault
ballots_fault bs refuse.Candidates = Candidates (candidates_in bs)
ballots_fault bs (refuse.Length at) = length_fault bs at
ballots_fault bs _ = Other

-- the number at a place of a draw
abbrev pub drawn_number : List ℕ → ℕ → ℕ
drawn_number draw place = slice_index draw (2 * place) + 256 * slice_index draw (2 * place + 1)

-- the number at this place is no ballot's, or stands there a second time
abbrev pub drawn_fault : List ℕ → ℕ → ℕ → Fault
drawn_fault draw n place =
    if nat_le n (drawn_number draw place) then NoBallot place (drawn_number draw place) n
    else DrawnBefore place (drawn_number draw place)

-- what is wrong with a draw from n ballots that is refused
abbrev pub draw_fault : List ℕ → ℕ → Refusal → Fault
draw_fault draw n (refuse.Length at) = NumberEnds at
draw_fault draw n (refuse.Draw place) = if nat_lt place (length draw / 2) then drawn_fault draw n place else Other
draw_fault draw n _ = Other

-- a byte of the table of v candidates
abbrev pub table_fault : List ℕ → ℕ → ℕ → Fault
table_fault sheet v zero = OtherCandidates (slice_index sheet 0) v
table_fault sheet v (suc i) = if nat_lt 0 v then OtherCount (suc i) (i / 2 / v) (i / 2 % v) else Other

-- what is wrong with a sheet that is refused, for ballots of v candidates
abbrev pub sheet_fault : List ℕ → ℕ → Refusal → Fault
sheet_fault sheet v (refuse.Length at) = if at == length sheet then SheetEnds at else GoesOn at
sheet_fault sheet v (refuse.Table at) = table_fault sheet v at
sheet_fault sheet v (refuse.Path x y) = Path x y
sheet_fault sheet v (refuse.Cut x y) = Cut x y
sheet_fault sheet v refuse.Best = Best
sheet_fault sheet v _ = Other

-- what is wrong, in words
abbrev pub fault_text : Fault → List ℕ
fault_text Empty = codes "is empty"
fault_text (Candidates v) = numbered (codes "has ") v (codes " candidates: 1 to 30 wanted")
fault_text (HeaderEnds at) = numbered (codes "ends at byte ") at (codes ", in the header: 3 wanted")
fault_text (BallotEnds at i n whole) =
    numbered (codes "ends at byte ") at (numbered (codes ", in ballot ") i (numbered (codes " of ") n (numbered (codes ": ") whole (codes " wanted"))))
fault_text (GoesOn at) = numbered (codes "goes on at byte ") at (codes ", behind its end")
fault_text (NumberEnds at) = numbered (codes "ends at byte ") at (codes ", in half a number")
fault_text (NoBallot place k n) =
    numbered (codes "number ") place (numbered (codes " is ") k (numbered (codes ": there are ") n (codes " ballots, numbered from 0")))
fault_text (DrawnBefore place k) = numbered (codes "number ") place (numbered (codes " is ") k (codes ", which was drawn before"))
fault_text (SheetEnds at) = numbered (codes "ends at byte ") at (codes ": more wanted")
fault_text (OtherCandidates v w) = numbered (codes "has ") v (numbered (codes " candidates: ") w (codes " wanted"))
fault_text (OtherCount at x y) =
    numbered (codes "byte ") at (numbered (codes " is wrong, in how many ballots put ") x (numbered (codes " over ") y []))
fault_text (Path x y) = numbered (codes "the path from ") x (numbered (codes " to ") y (codes " is none, or not of its strength"))
fault_text (Cut x y) = numbered (codes "the cut of ") x (numbered (codes " and ") y (codes " does not hold"))
fault_text Best = codes "the set of the best is wrong"
fault_text Other = codes "is refused"
