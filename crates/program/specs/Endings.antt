-- What a program says at its end: on standard output, on standard error, and the status. Assumes nothing.
use Rattle.std.specs.Prelude.{ℕ, List, [], ◌∷◌, ◌++◌, codes}
use Rattle.ballots.specs.Refusals.{text_of}
use Rattle.program.specs.Faults.{fault_text}
use Rattle.program.specs.Reasons.{reason_text}
use Rattle.program.specs.declared.ending.Ending.{Ending}
use Rattle.program.specs.declared.ending.Ending.TheVariants.{Done, Help, Version, WrongCall, Refused, Unread, Unwritten, Unprinted, NoMemory}
use Rattle.program.specs.declared.program.Program.{Program}

-- the version of all programs
abbrev pub version : List ℕ
version = codes "1.0.0"

abbrev pub newline : List ℕ
newline = 10 ∷ []

-- how a program is called, by the name that it was called with, and what follows
abbrev pub usage : Program → List ℕ → List ℕ → List ℕ
usage p called rest = codes "usage: " ++ (called ++ (codes " " ++ (p.words.now ++ rest)))

-- what a program says of a file, behind its name
abbrev pub message : Program → List ℕ → List ℕ → List ℕ → List ℕ
message p what file why = p.name.now ++ (what ++ (file ++ (codes ": " ++ (why ++ newline))))

-- on standard output
abbrev pub out_of : Program → List ℕ → Ending → List ℕ
out_of p called (Done text) = text.now
out_of p called Help = usage p called p.help.now
out_of p called Version = p.name.now ++ (codes " " ++ (version ++ newline))
out_of p called (Refused file refusal fault) = text_of refusal ++ newline
out_of p called WrongCall = []
out_of p called (Unread file reason) = []
out_of p called (Unwritten file reason) = []
out_of p called (Unprinted reason) = []
out_of p called NoMemory = []

-- on standard error
abbrev pub err_of : Program → List ℕ → Ending → List ℕ
err_of p called WrongCall = usage p called newline
err_of p called (Refused file refusal fault) = message p (codes ": ") file.now (fault_text fault)
err_of p called (Unread file reason) = message p (codes ": cannot read ") file.now (reason_text reason)
err_of p called (Unwritten file reason) = message p (codes ": cannot write ") file.now (reason_text reason)
err_of p called (Unprinted reason) = message p (codes ": cannot write ") (codes "standard output") (reason_text reason)
err_of p called NoMemory = p.name.now ++ (codes ": out of memory" ++ newline)
err_of p called (Done text) = []
err_of p called Help = []
err_of p called Version = []

-- done, refused by number, or what else went wrong
abbrev pub status_of : Ending → ℕ
status_of (Done text) = 0
status_of Help = 0
status_of Version = 0
status_of (Refused file refusal fault) = 1
status_of WrongCall = 2
status_of (Unread file reason) = 2
status_of (Unwritten file reason) = 2
status_of (Unprinted reason) = 2
status_of NoMemory = 2
