-- Candidates struck off every ballot of a file. Assumes nothing.
use Rattle.std.specs.Prelude.{ℕ, Bool, if◌then◌else◌, List, ◌∷◌, map, length, Some, None, Option, Result, ◌==◌, slice_index}
use Rattle.std.specs.List.{range_with_len, flat_map}
use Rattle.std.specs.Option.{option_or}
use Rattle.ballots.specs.declared.refusal.Lent.TheVariants as lent
use Rattle.ballots.specs.declared.refusal.Refusal.{Refusal}
use Rattle.ballots.specs.declared.refusal.Refusal.TheVariants.{Candidates}
use Rattle.ballots.specs.Format.{candidates_in, ballots_in, ballot_bytes}
use Rattle.ballots.specs.Loans.{no_room, Fills}
use Rattle.ballots.specs.Sets.{members}

-- the number that candidate x has among those that stay: how many before it stay
abbrev pub new_number : (ℕ → Bool) → ℕ → ℕ
new_number keep x = length (members keep x)

-- the ranks that the bytes of a ballot give to the candidates cs
abbrev pub ranks_at : List ℕ → List ℕ → List ℕ
ranks_at cs p = map (λ x. slice_index p x) cs

-- the file of as many ballots, each with the ranks of those alone that stay
unfoldable pub struck_file : (ℕ → Bool) → List ℕ → List ℕ
struck_file keep bs =
    let stay : List ℕ = members keep (candidates_in bs) in
    length stay ∷ slice_index bs 1 ∷ slice_index bs 2
    ∷ flat_map (λ i. ranks_at stay (ballot_bytes (candidates_in bs) bs i)) (range_with_len 0 (ballots_in bs))

-- no candidate of the file stays
abbrev pub nobody_stays : List ℕ → (ℕ → Bool) → Option Refusal
nobody_stays bs keep = if new_number keep (candidates_in bs) == 0 then Some Candidates else None

-- why candidates are not struck off a file: none stays, or there is no room for the struck file
abbrev pub strike_refusal : List ℕ → (ℕ → Bool) → List ℕ → Option Refusal
strike_refusal bs keep old = option_or (nobody_stays bs keep) (no_room lent.Ballots (struck_file keep bs) old)

-- the struck file stands in front of what was lent, and r is its length; or the call is refused, and nothing is changed
abbrev pub Strikes : List ℕ → (ℕ → Bool) → List ℕ → List ℕ → Result ℕ Refusal → Type 0
Strikes bs keep old new r =
    Fills (strike_refusal bs keep old) (struck_file keep bs) (length (struck_file keep bs)) old new r
