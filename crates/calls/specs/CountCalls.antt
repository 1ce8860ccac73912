-- What the parts of a call ask `count` for: options in any order, the last of two counts; the files are the ballots, then
-- the draw. Assumes nothing.
use Rattle.std.specs.Prelude.{ℕ, if◌then◌else◌, List, [], ◌∷◌, Some, None, Option, codes, bytes_eq}
use Rattle.std.specs.Option.{option_map, option_and_then}
use Rattle.calls.specs.declared.call.Asks.{Asks}
use Rattle.calls.specs.declared.call.Asks.TheVariants as asks
use Rattle.calls.specs.declared.call.Call.{Call}
use Rattle.calls.specs.declared.call.Call.TheVariants as call
use Rattle.calls.specs.declared.grammar.Grammar.TheVariants.{Count}
use Rattle.calls.specs.Asking.{asks_of}
use Rattle.calls.specs.Drawn.{is_draw}
use Rattle.calls.specs.Parts.{Part, File, Flag, Valued, Wrong, parts_of}

-- what the parts so far ask for
pub record Seen : Type 0 where
  pub asks : Asks
  pub ballots : Option (List ℕ)
  pub draw : Option (List ℕ)
  pub drawn : Option (List ℕ)
  pub sheet : Option (List ℕ)

abbrev pub nothing : Seen
nothing = record { asks = asks.Run; ballots = None; draw = None; drawn = None; sheet = None }

-- a file: the first is that of the ballots, the second that of the draw
abbrev pub file : Seen → List ℕ → Option Seen
file s w = elim s.ballots as (λ _. Option Seen) [
  | None ↦ Some (record s { ballots = Some w })
  | Some _ ↦ elim s.draw as (λ _. Option Seen) [ None ↦ Some (record s { draw = Some w }) | Some _ ↦ None ]
]

-- an option with its value
abbrev pub valued : Seen → List ℕ → List ℕ → Option Seen
valued s name value =
    if bytes_eq name (codes "--sheet") then Some (record s { sheet = Some value })
    else if bytes_eq name (codes "--drawn") then (if is_draw value then Some (record s { drawn = Some value }) else None)
    else None

-- one part more
abbrev pub take : Seen → Part → Option Seen
take s (File w) = file s w
take s (Flag w) = option_map (λ a. record s { asks = a }) (asks_of w)
take s (Valued name value) = valued s name value
take s Wrong = None

-- where the draw comes from
pub data Draw : Type 0 where
  Nowhere : Draw
  FromFile : (path : List ℕ) → Draw
  FromWords : (numbers : List ℕ) → Draw

-- what `count` is asked for
pub record Request : Type 0 where
  pub ballots : List ℕ
  pub draw : Draw
  pub sheet : Option (List ℕ)

-- a file of a draw and a draw in words together are one too many
abbrev pub draw_asked : Option (List ℕ) → Option (List ℕ) → Option Draw
draw_asked None None = Some Nowhere
draw_asked (Some path) None = Some (FromFile path)
draw_asked None (Some numbers) = Some (FromWords numbers)
draw_asked (Some path) (Some numbers) = None

abbrev pub request_asked : Seen → Option Request
request_asked s =
    option_and_then
    (λ d. option_map (λ b. record { ballots = b; draw = d; sheet = s.sheet }) s.ballots)
    (draw_asked s.draw s.drawn)

-- what is asked for when there is no part more
abbrev pub asked : Seen → Option (Call Request)
asked s = elim s.asks as (λ _. Option (Call Request)) [
  | asks.Help ↦ Some call.Help
  | asks.Version ↦ Some call.Version
  | asks.Run ↦ option_map (λ r. call.Run r) (request_asked s)
]

-- what the parts ask for, behind those that were seen
abbrev pub meaning : Seen → List Part → Option (Call Request)
meaning s [] = asked s
meaning s (p ∷ ps) = option_and_then (λ t. meaning t ps) (take s p)

-- what the words ask for; nothing where they are no call
abbrev pub count_call : List (List ℕ) → Option (Call Request)
count_call ws = meaning nothing (parts_of Count ws)
