-- The pieces of a word, and what is made of their numbers.
use Rattle.std.proofs.Common.{◌≡◌, ℕ, List, [], ◌∷◌, ◌++◌, map, Some, None, Bor, append-nil}
use Rattle.std.specs.List.{flat_map, filter_map}
use Rattle.std.proofs.lemmas.List.{map-append}
use Rattle.std.proofs.lemmas.List.Elements.{filter_map-append}
use Rattle.std.proofs.lemmas.Grind.{flat_map-append}
use Rattle.calls.specs.Numbers.{number_of}

-- the numbers of the pieces so far
abbrev pub so_far : List (Bor (List ℕ)) → List ℕ
so_far xs = filter_map number_of (map (λ x. x.now) xs)

-- one piece more
pub numbers_more : (f : ℕ → List ℕ) (xs : List (Bor (List ℕ))) (x : Bor (List ℕ)) (n : ℕ) → Some n ≡ number_of x.now →
    flat_map f (so_far (xs ++ x ∷ [])) ≡ flat_map f (so_far xs) ++ f n
numbers_more f xs x n h = rw (map-append, filter_map-append, flat_map-append, ← h) (rw append-nil)

-- one piece more, which is no number
pub no_number_more : (f : ℕ → List ℕ) (xs : List (Bor (List ℕ))) (x : Bor (List ℕ)) → None ≡ number_of x.now →
    flat_map f (so_far (xs ++ x ∷ [])) ≡ flat_map f (so_far xs)
no_number_more f xs x h = rw (map-append, filter_map-append, flat_map-append, ← h) (rw append-nil)
