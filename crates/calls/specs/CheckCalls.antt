-- What the parts of a call ask `check` for: the files are the ballots, then the sheet. Assumes nothing.
use Rattle.std.specs.Prelude.{ℕ, List, [], ◌∷◌, Some, None, Option}
use Rattle.std.specs.Option.{option_map, option_and_then}
use Rattle.calls.specs.declared.call.Asks.{Asks}
use Rattle.calls.specs.declared.call.Asks.TheVariants as asks
use Rattle.calls.specs.declared.call.Call.{Call}
use Rattle.calls.specs.declared.call.Call.TheVariants as call
use Rattle.calls.specs.declared.grammar.Grammar.TheVariants.{Check}
use Rattle.calls.specs.Asking.{asks_of}
use Rattle.calls.specs.Parts.{Part, File, Flag, Valued, Wrong, parts_of}

-- what the parts so far ask for
pub record Seen : Type 0 where
  pub asks : Asks
  pub ballots : Option (List ℕ)
  pub sheet : Option (List ℕ)

abbrev pub nothing : Seen
nothing = record { asks = asks.Run; ballots = None; sheet = None }

-- a file: the first is that of the ballots, the second that of the sheet
abbrev pub file : Seen → List ℕ → Option Seen
file s w = elim s.ballots as (λ _. Option Seen) [
  | None ↦ Some (record s { ballots = Some w })
  | Some _ ↦ elim s.sheet as (λ _. Option Seen) [ None ↦ Some (record s { sheet = Some w }) | Some _ ↦ None ]
]

-- one part more
abbrev pub take : Seen → Part → Option Seen
take s (File w) = file s w
take s (Flag w) = option_map (λ a. record s { asks = a }) (asks_of w)
take s (Valued name value) = None
take s Wrong = None

-- what `check` is asked for
pub record Request : Type 0 where
  pub ballots : List ℕ
  pub sheet : List ℕ

abbrev pub request_asked : Seen → Option Request
request_asked s = option_and_then (λ b. option_map (λ f. record { ballots = b; sheet = f }) s.sheet) s.ballots

-- what is asked for when there is no part more
abbrev pub asked : Seen → Option (Call Request)
asked s = elim s.asks as (λ _. Option (Call Request)) [
  | asks.Help ↦ Some call.Help
  | asks.Version ↦ Some call.Version
  | asks.Run ↦ option_map (λ r. call.Run r) (request_asked s)
]

-- what the parts ask for, behind those that were seen
abbrev pub meaning : Seen → List Part → Option (Call Request)
meaning s [] = asked s
meaning s (p ∷ ps) = option_and_then (λ t. meaning t ps) (take s p)

-- what the words ask for; nothing where they are no call
abbrev pub check_call : List (List ℕ) → Option (Call Request)
check_call ws = meaning nothing (parts_of Check ws)
