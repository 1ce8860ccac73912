-- The draw: numbers of ballots, two bytes each, low byte first, and the order of candidates that it makes. Assumes nothing.
use Rattle.std.specs.Prelude.{◌≡◌, ◌≢◌, ◌↔◌, ℕ, ◌+◌, ◌/◌, ◌%◌, ◌<◌, Bool, not, ◌&&◌, ◌||◌, if◌then◌else◌, List, [], ◌∷◌, map, length, take, Some, None, Option, find, ◌==◌, nat_le, nat_lt, slice_index, slice_index_or}
use Rattle.std.specs.Int.{w16, from_le_bytes}
use Rattle.std.specs.List.{All, AllPairs, range_with_len, list_any}
use Rattle.std.specs.Option.{option_map}
use Rattle.std.specs.Simd.{first_chunks}
use Rattle.ballots.specs.declared.refusal.Refusal.{Refusal}
use Rattle.ballots.specs.declared.refusal.Refusal.TheVariants.{Length, Draw}
use Rattle.ballots.specs.Ballots.{over}
use Rattle.ballots.specs.Format.{ballots_of}
use Rattle.best.specs.TieBreak.{IsTieBreak}

-- the numbers that are drawn, in the order of the draw
abbrev pub numbers_in : List ℕ → List ℕ
numbers_in draw = map (from_le_bytes w16) (first_chunks 2 (length draw / 2) draw)

-- the number at place i is that of none of n ballots, or stands before already
abbrev pub is_bad : ℕ → List ℕ → ℕ → Bool
is_bad n ks i = nat_le n (slice_index ks i) || list_any (λ k. k == slice_index ks i) (take i ks)

-- the first place at which there is a bad number
abbrev pub first_bad : ℕ → List ℕ → Option ℕ
first_bad n ks = find (is_bad n ks) (range_with_len 0 (length ks))

-- why a draw from n ballots is refused, if it is: half a number, then the first number that is bad
abbrev pub draw_refusal : ℕ → List ℕ → Option Refusal
draw_refusal n draw =
    if length draw % 2 == 1 then Some (Length (length draw)) else option_map Draw (first_bad n (numbers_in draw))

-- the ballots of these numbers
abbrev pub ballots_at : List ℕ → List ℕ → List (List ℕ)
ballots_at bs ks = map (λ k. slice_index_or (ballots_of bs) k []) ks

-- the ballots that are drawn, in the order of the draw
abbrev pub drawn_ballots : List ℕ → List ℕ → List (List ℕ)
drawn_ballots bs draw = ballots_at bs (numbers_in draw)

-- by the ballots, x is before y: the first that does not put them equal puts x over y, or none does and x has the smaller number
abbrev pub before_by_ballots : ℕ → List (List ℕ) → ℕ → ℕ → Bool
before_by_ballots last [] x y = nat_lt x y
before_by_ballots last (p ∷ ps) x y = over last p x y || (not (over last p y x) && before_by_ballots last ps x y)

-- by any ballots, of two candidates one is before the other, and never both
abbrev pub BallotsMakeATieBreak : Type 0
BallotsMakeATieBreak = (last : ℕ) (ps : List (List ℕ)) → IsTieBreak (before_by_ballots last ps)

-- the numbers are those of different ballots of n
pub record OfDifferentBallots (n : ℕ) (ks : List ℕ) : Type 0 where
  pub exist : All (λ k. k < n) ks
  pub once : AllPairs (λ j k. j ≢ k) ks

-- a draw is accepted exactly if its length is even and its numbers are those of different ballots
abbrev pub DrawsAccepted : Type 0
DrawsAccepted = (n : ℕ) (draw : List ℕ) →
    (draw_refusal n draw ≡ None) ↔ ((length draw % 2 ≡ 0) × OfDifferentBallots n (numbers_in draw))

-- the numbers before place i are those of different ballots, and with the number there they are not
pub record FirstBad (n : ℕ) (ks : List ℕ) (i : ℕ) : Type 0 where
  pub there : i < length ks
  pub before : OfDifferentBallots n (take i ks)
  pub here : OfDifferentBallots n (take (i + 1) ks) → ⊥

-- a draw is refused for its number at place i exactly if its length is even and that is the first bad number
abbrev pub DrawsRefused : Type 0
DrawsRefused = (n i : ℕ) (draw : List ℕ) →
    (draw_refusal n draw ≡ Some (Draw i)) ↔ ((length draw % 2 ≡ 0) × FirstBad n (numbers_in draw) i)
