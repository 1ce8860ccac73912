-- The laws of the method once more, from the ballots up, in words of their own: nothing here leans on the definitions
-- by which the program is specified. Assumes nothing.
--
-- A ballot is the list of its ranks, candidate by candidate. The smaller rank is the better one, and a candidate that
-- the list does not reach has the rank last. There are v candidates, numbered from 0.
use Rattle.std.specs.Prelude.{◌≡◌, ℕ, ◌+◌, ◌<◌, ◌≤◌, Bool, true, false, ◌&&◌, ◌≢◌, ◌↔◌, List, [], ◌∷◌, length}
use Rattle.std.specs.Bool.{if◌then◌else◌, nat_lt, ◌==◌}
use Rattle.std.specs.List.{slice_index_or, slice_set}

-- the ballot p prefers x to y
unfoldable pub prefers : ℕ → List ℕ → ℕ → ℕ → Bool
prefers last p x y = nat_lt (slice_index_or p x last) (slice_index_or p y last)

-- how many ballots prefer x to y
unfoldable pub supporters : ℕ → List (List ℕ) → ℕ → ℕ → ℕ
supporters last [] x y = 0
supporters last (p ∷ ps) x y = (if prefers last p x y then 1 else 0) + supporters last ps x y

-- how strongly x defeats y: by all who prefer x, if they are more than those who prefer y, and else not at all
unfoldable pub defeat : ℕ → List (List ℕ) → ℕ → ℕ → ℕ
defeat last ps x y = if nat_lt (supporters last ps y x) (supporters last ps x y) then supporters last ps x y else 0

-- a chain of defeats from x to y: all in it stand, and each defeats the next by at least m
pub data Chain (last : ℕ) (ps : List (List ℕ)) (stands : ℕ → Bool) (m : ℕ) : ℕ → ℕ → Type 0 where
  link : {x y : ℕ} → stands x ≡ true → stands y ≡ true → m ≤ defeat last ps x y → Chain last ps stands m x y
  longer : {x y z : ℕ} → Chain last ps stands m x y → stands z ≡ true → m ≤ defeat last ps y z →
      Chain last ps stands m x z

-- x precedes y: of some strength there is a chain from x to y, and none back
abbrev pub Precedes : ℕ → List (List ℕ) → (ℕ → Bool) → ℕ → ℕ → Type 0
Precedes last ps stands x y =
    (m : ℕ) × (0 < m) × Chain last ps stands m x y × (Chain last ps stands m y x → ⊥)

-- x is a winner: it stands, and answers every chain that comes to it by one as strong
abbrev pub IsWinner : ℕ → List (List ℕ) → (ℕ → Bool) → ℕ → Type 0
IsWinner last ps stands x =
    (stands x ≡ true) × ((y m : ℕ) → 0 < m → Chain last ps stands m y x → Chain last ps stands m x y)

-- all v candidates
unfoldable pub all_of : ℕ → ℕ → Bool
all_of v x = nat_lt x v

-- all v candidates but those of k, of whom only a
unfoldable pub all_with_one : ℕ → (ℕ → Bool) → ℕ → ℕ → Bool
all_with_one v k a x = nat_lt x v && (if k x then x == a else true)

-- SOMEBODY WINS where anybody stands
abbrev pub SomebodyWins : Type 0
SomebodyWins = (last v : ℕ) (ps : List (List ℕ)) → 0 < v → (x : ℕ) × IsWinner last ps (all_of v) x

-- PRECEDING GOES ON: whoever precedes one that precedes a third precedes the third
abbrev pub PrecedingGoesOn : Type 0
PrecedingGoesOn =
    (last v : ℕ) (ps : List (List ℕ)) (x y z : ℕ) →
    Precedes last ps (all_of v) x y → Precedes last ps (all_of v) y z → Precedes last ps (all_of v) x z

-- AN INNER CIRCLE WINS: where each of some candidates is preferred by more to each of the others, all winners are of
-- them
abbrev pub InnerCircleWins : Type 0
InnerCircleWins =
    (last v x : ℕ) (ps : List (List ℕ)) (circle : ℕ → Bool) →
    ((y : ℕ) × (y < v) × (circle y ≡ true)) →
    ((y z : ℕ) → y < v → z < v → circle y ≡ true → circle z ≡ false →
    supporters last ps z y < supporters last ps y z) →
    IsWinner last ps (all_of v) x → circle x ≡ true

-- from the ballot p to the ballot q, x moves up: it stays preferred to all it was preferred to, nobody comes to be
-- preferred to it, and the others keep their places among themselves
pub record MovesUp (last v x : ℕ) (p q : List ℕ) : Type 0 where
  pub still_preferred : (y : ℕ) → y < v → prefers last p x y ≡ true → prefers last q x y ≡ true
  pub nobody_gains : (y : ℕ) → y < v → prefers last q y x ≡ true → prefers last p y x ≡ true
  pub others_stay : (y z : ℕ) → y < v → z < v → y ≢ x → z ≢ x → prefers last q y z ≡ prefers last p y z

-- MOVING UP DOES NO HARM: a winner that moves up on ballot j still is one
abbrev pub MovingUpDoesNoHarm : Type 0
MovingUpDoesNoHarm =
    (last v x j : ℕ) (ps : List (List ℕ)) (q : List ℕ) → j < length ps → MovesUp last v x (slice_index_or ps j []) q →
    IsWinner last ps (all_of v) x → IsWinner last (slice_set ps j q) (all_of v) x

-- TURNED BALLOTS TURN THE RESULT: where every ballot is turned around, whoever preceded another is preceded by it
abbrev pub TurnedBallotsTurnTheResult : Type 0
TurnedBallotsTurnTheResult =
    (last v x y : ℕ) (ps qs : List (List ℕ)) → length qs ≡ length ps →
    ((j a b : ℕ) → j < length ps → a < v → b < v →
    prefers last (slice_index_or qs j []) a b ≡ prefers last (slice_index_or ps j []) b a) →
    Precedes last ps (all_of v) x y → Precedes last qs (all_of v) y x

-- on the ballot p the candidates of k stay together: they compare alike with everybody else
abbrev pub StayTogether : ℕ → ℕ → (ℕ → Bool) → List ℕ → Type 0
StayTogether last v k p =
    (x z y : ℕ) → x < v → z < v → y < v → k x ≡ true → k z ≡ true → k y ≡ false →
    (prefers last p x y ≡ prefers last p z y) × (prefers last p y x ≡ prefers last p y z)

-- with only a of the candidates of k left, the same of the others win, and a wins exactly if one of k won
pub record OneSpeaksForAll (last v a : ℕ) (ps : List (List ℕ)) (k : ℕ → Bool) : Type 0 where
  pub others : (y : ℕ) → y < v → k y ≡ false →
      IsWinner last ps (all_of v) y ↔ IsWinner last ps (all_with_one v k a) y
  pub members :
      ((x : ℕ) × (x < v) × (k x ≡ true) × IsWinner last ps (all_of v) x) ↔ IsWinner last ps (all_with_one v k a) a

-- CLONES DO NOT MATTER: of candidates that stay together on every ballot, any one speaks for all
abbrev pub ClonesDoNotMatter : Type 0
ClonesDoNotMatter =
    (last v a : ℕ) (ps : List (List ℕ)) (k : ℕ → Bool) → a < v → k a ≡ true →
    ((j : ℕ) → j < length ps → StayTogether last v k (slice_index_or ps j [])) → OneSpeaksForAll last v a ps k
