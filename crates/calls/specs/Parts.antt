-- The parts of a call: options, with the value of those that take one, and files. Assumes nothing.
use Rattle.std.specs.Prelude.{ℕ, Bool, false, not, ◌&&◌, ◌||◌, if◌then◌else◌, List, [], ◌∷◌, map, length, Some, None, Option, ◌==◌, nat_lt, nat_eq, codes, bytes_eq}
use Rattle.std.specs.List.{starts_with, before_first, after_first, position_or_len}
use Rattle.calls.specs.declared.grammar.Grammar.{Grammar}
use Rattle.calls.specs.declared.grammar.Grammar.TheVariants.{Count, Check}
use Rattle.calls.specs.declared.grammar.Takes.{Takes}
use Rattle.calls.specs.declared.grammar.Takes.TheVariants.{Nothing, Value}

-- a file, an option without a value, one with a value, or what is none of these
pub data Part : Type 0 where
  File : (word : List ℕ) → Part
  Flag : (name : List ℕ) → Part
  Valued : (name value : List ℕ) → Part
  Wrong : Part

-- the options that have a value
abbrev pub is_valued : Grammar → List ℕ → Bool
is_valued Count w = bytes_eq w (codes "--sheet") || bytes_eq w (codes "--drawn")
is_valued Check w = false

-- what an option takes, where there is one of this name
abbrev pub takes_of : Grammar → List ℕ → Option Takes
takes_of g w =
    if bytes_eq w (codes "--help") || bytes_eq w (codes "--version") then Some Nothing
    else if is_valued g w then Some Value else None

-- a word that looks like an option: a dash, and something behind it
abbrev pub is_option : List ℕ → Bool
is_option w = starts_with nat_eq w (codes "-") && not (bytes_eq w (codes "-"))

-- the test for the sign between an option and its value
abbrev pub is_equals : ℕ → Bool
is_equals b = b == 61

-- an option of this name with this value, if it takes one
abbrev pub option_with : Grammar → List ℕ → List ℕ → Part
option_with g name value = elim (takes_of g name) as (λ _. Part) [
  | Some t ↦ elim t as (λ _. Part) [ Value ↦ Valued name value | Nothing ↦ Wrong ]
  | None ↦ Wrong
]

-- an option that is written with its value, as name=value
abbrev pub joined : Grammar → List ℕ → Part
joined g w =
    if nat_lt (position_or_len is_equals w) (length w) then option_with g (before_first is_equals w) (after_first is_equals w)
    else Wrong

-- the parts that the words are, first to last
abbrev mutual
  pub parts_of : Grammar → List (List ℕ) → List Part
  parts_of g [] = []
  parts_of g (w ∷ ws) =
      if bytes_eq w (codes "--") then map File ws
      else if not (is_option w) then File w ∷ parts_of g ws
      else elim (takes_of g w) as (λ _. List Part) [
        | Some t ↦ elim t as (λ _. List Part) [ Nothing ↦ Flag w ∷ parts_of g ws | Value ↦ valued g w ws ]
        | None ↦ joined g w ∷ parts_of g ws
      ]

  pub valued : Grammar → List ℕ → List (List ℕ) → List Part
  valued g w [] = Wrong ∷ []
  valued g w (v ∷ ws) = Valued w v ∷ parts_of g ws
