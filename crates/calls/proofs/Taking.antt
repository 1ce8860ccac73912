-- The parts of a call, taken one after the other.
use Rattle.std.proofs.Common.{ControlFlow, ◌≡◌, List, [], ◌∷◌, Some, None, Option, sym, subst, ap, ◌∙◌}
use Rattle.std.specs.ControlFlow.{continue_value}
use Rattle.std.specs.Fn.{Called}
use Rattle.std.specs.Iterator.{Yields, YieldsFirstBy, TryFoldTurn, TryFoldsItems}
use Rattle.std.specs.List.{FoldsTo}
use Rattle.std.specs.Option.{option_and_then}
use denote.Param.Members.{Mut}
use Rattle.calls.specs.declared.parts.Part as rust
use Rattle.calls.specs.declared.parts.Parts as rust_parts
use Rattle.calls.specs.Parts.{Part}
use Rattle.calls.specs.Views.{part_view, parts_view}

-- what the parts mean behind those that were seen: each is taken, and the end is asked for what was seen
pub record Reads {S A : Type 0} (take : S → Part → Option S) (asked : S → Option A) (meaning : S → List Part → Option A) : Type 0 where
  pub ends : (s : S) → meaning s [] ≡ asked s
  pub goes_on : (s : S) (p : Part) (ps : List Part) → meaning s (p ∷ ps) ≡ option_and_then (λ t. meaning t ps) (take s p)

-- the calls of f take what `take` takes
pub record TakesParts {F G S : Type 0} (g : Mut F (G × (rust.Part × Unit {0})) (Option G)) (seen : G → S) (take : S → Part → Option S) : Type 0 where
  pub taken : (f h : F) (a b : G) (p : rust.Part) → Called g f (a, (p, tt)) (Some b) h → take (seen a) (part_view p) ≡ Some (seen b)
  pub refused : (f h : F) (a : G) (p : rust.Part) → Called g f (a, (p, tt)) None h → take (seen a) (part_view p) ≡ None

abbrev steps : rust_parts.Parts → Option rust.Part → rust_parts.Parts → Type 0
steps = YieldsFirstBy part_view parts_view

abbrev branches : (E G : Type 0) → Option G → ControlFlow E G → Type 0
branches E G r s = r ≡ continue_value s

module _ (E : Type 0) {F G S A : Type 0} {g : Mut F (G × (rust.Part × Unit {0})) (Option G)} {seen : G → S} {take : S → Part → Option S}
    {asked : S → Option A} {meaning : S → List Part → Option A} (reads : Reads take asked meaning) (takes : TakesParts g seen take) where
  -- the meaning stays the same while parts are taken
  while_taken : (xs : List rust.Part) (s t : rust_parts.Parts) (f h : F) (a b : G) → Yields steps s xs t →
      FoldsTo {P = F × G} (TryFoldTurn g (branches E G)) (f, a) xs (h, b) → meaning (seen a) (parts_view s) ≡ meaning (seen b) (parts_view t)
  while_taken [] s t f h a b y k = ap (λ p. meaning (seen a) (parts_view p)) y ∙ ap (λ (q : F × G). meaning (seen q.1) (parts_view t)) k
  while_taken (x ∷ xs) s t f h a b (j, first, y) ((i, d), (v, called, is), k) =
      ap (meaning (seen a)) first
      ∙ reads.goes_on (seen a) (part_view x) (parts_view j)
      ∙ ap (option_and_then (λ u. meaning u (parts_view j))) (takes.taken f i a d x (subst (λ w. Called g f (a, (x, tt)) w i) is called))
      ∙ while_taken xs j t i h d b y k

  -- each part was taken
  pub all_taken : (s u : rust_parts.Parts) (f : F) (a b : G) (r : Option G) → r ≡ Some b →
      TryFoldsItems steps g (branches E G) (λ _ w. w ≡ None) s f a r u → meaning (seen a) (parts_view s) ≡ asked (seen b)
  all_taken s u f a b r is (xs, None, h, d, (t, y, last), k, end) =
      while_taken xs s t f h a d y k
      ∙ ap (meaning (seen d)) last.0
      ∙ reads.ends (seen d)
      ∙ ap (option_and_then (λ q. asked (seen q))) (sym end ∙ is)
  all_taken s u f a b r is (xs, Some x, h, d, y, k, (v, i, e, called, broke, none)) = absurd (cc)

  -- one was not
  pub not_taken : (s u : rust_parts.Parts) (f : F) (a : G) (r : Option G) → r ≡ None →
      TryFoldsItems steps g (branches E G) (λ _ w. w ≡ None) s f a r u → meaning (seen a) (parts_view s) ≡ None
  not_taken s u f a r is (xs, None, h, d, y, k, end) = absurd (cc)
  not_taken s u f a r is (xs, Some x, h, d, (t, y, first), k, (v, i, e, called, broke, none)) =
      while_taken xs s t f h a d y k
      ∙ ap (meaning (seen d)) first
      ∙ reads.goes_on (seen d) (part_view x) (parts_view u)
      ∙ ap (option_and_then (λ q. meaning q (parts_view u))) (takes.refused h i d x (subst (λ w. Called g h (d, (x, tt)) w i) broke called))
