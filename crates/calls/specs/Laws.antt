-- How the parts of a call are written. Assumes nothing.
use Rattle.std.specs.Prelude.{◌≡◌, ◌↔◌, ℕ, false, List, [], ◌∷◌, ◌++◌, map, Some, None, Option, All, codes}
use Rattle.calls.specs.declared.call.Call.{Call}
use Rattle.calls.specs.declared.grammar.Grammar.{Grammar}
use Rattle.calls.specs.declared.grammar.Grammar.TheVariants.{Count, Check}
use Rattle.calls.specs.declared.grammar.Takes.TheVariants.{Nothing, Value}
use Rattle.calls.specs.Parts.{Part, File, Flag, Valued, is_option, takes_of}
use Rattle.calls.specs.CountCalls as count
use Rattle.calls.specs.CheckCalls as check

-- a part as it is written: the value of an option stands behind it, as a word or joined by =
pub data Spelling : Type 0 where
  Path : (word : List ℕ) → Spelling
  Alone : (name : List ℕ) → Spelling
  Apart : (name value : List ℕ) → Spelling
  Joined : (name value : List ℕ) → Spelling

-- the part that is so written
abbrev pub part : Spelling → Part
part (Path w) = File w
part (Alone n) = Flag n
part (Apart n v) = Valued n v
part (Joined n v) = Valued n v

-- the words of a part
abbrev pub spelled : Spelling → List (List ℕ)
spelled (Path w) = w ∷ []
spelled (Alone n) = n ∷ []
spelled (Apart n v) = n ∷ (v ∷ [])
spelled (Joined n v) = (n ++ (61 ∷ v)) ∷ []

abbrev pub written : List Spelling → List (List ℕ)
written [] = []
written (s ∷ ss) = spelled s ++ written ss

-- a file does not look like an option, and an option is one of the program's
abbrev pub IsProper : Grammar → Spelling → Type 0
IsProper g (Path w) = is_option w ≡ false
IsProper g (Alone n) = takes_of g n ≡ Some Nothing
IsProper g (Apart n v) = takes_of g n ≡ Some Value
IsProper g (Joined n v) = takes_of g n ≡ Some Value

-- what stands at the end: nothing, or -- and files, whatever they look like
abbrev pub ending : Option (List (List ℕ)) → List (List ℕ)
ending None = []
ending (Some ws) = codes "--" ∷ ws

abbrev pub ending_files : Option (List (List ℕ)) → List Part
ending_files None = []
ending_files (Some ws) = map File ws

-- the words are written by parts that mean c
pub record IsWritten {A : Type 0} (g : Grammar) (meaning : List Part → Option A) (ws : List (List ℕ)) (c : A) : Type 0 where
  pub parts : List Spelling
  pub files : Option (List (List ℕ))
  pub proper : All (IsProper g) parts
  pub words : ws ≡ written parts ++ ending files
  pub meant : meaning (map part parts ++ ending_files files) ≡ Some c

-- words are a call exactly if they are written by parts that mean it
abbrev pub CountCallsAreParts : Type 0
CountCallsAreParts = (ws : List (List ℕ)) (c : Call count.Request) →
    (count.count_call ws ≡ Some c) ↔ IsWritten Count (count.meaning count.nothing) ws c

abbrev pub CheckCallsAreParts : Type 0
CheckCallsAreParts = (ws : List (List ℕ)) (c : Call check.Request) →
    (check.check_call ws ≡ Some c) ↔ IsWritten Check (check.meaning check.nothing) ws c
