-- The parts of a call as the program holds them. Assumes nothing.
use Rattle.std.specs.Prelude.{◌≡◌, ℕ, ◌<◌, ◌≤◌, true, false, List, ◌∷◌, map, length, string_bytes}
use Rattle.calls.specs.declared.parts.Part as rust
use Rattle.calls.specs.declared.parts.Part.TheVariants as rust_part
use Rattle.calls.specs.declared.parts.Parts as rust_parts
use Rattle.calls.specs.Parts.{Part, File, Flag, Valued, Wrong, parts_of, valued}

abbrev pub part_view : rust.Part → Part
part_view (rust_part.File w) = File w.now
part_view (rust_part.Flag w) = Flag w.now
part_view (rust_part.Valued n v) = Valued n.now v.now
part_view rust_part.Wrong = Wrong

-- the parts that are still to come
abbrev pub parts_view : rust_parts.Parts → List Part
parts_view p = elim p.only_files as (λ _. List Part) [
  | true ↦ map File (map string_bytes p.words.now)
  | false ↦ parts_of p.grammar (map string_bytes p.words.now)
]

-- the first part of those that are to come, and the others
pub record FirstAndRest (all : rust_parts.Parts) (first : rust.Part) (rest : rust_parts.Parts) : Type 0 where
  pub parts : parts_view all ≡ part_view first ∷ parts_view rest
  pub fewer : length rest.words.now < length all.words.now

-- the option of this name with its value, and the others
pub record ValuedFirst (all : rust_parts.Parts) (name : List ℕ) (first : rust.Part) (rest : rust_parts.Parts) : Type 0 where
  pub parts : valued all.grammar name (map string_bytes all.words.now) ≡ part_view first ∷ parts_view rest
  pub no_more : length rest.words.now ≤ length all.words.now
