-- The full order of the candidates, made from the front. Assumes nothing.
use Rattle.std.specs.Prelude.{◌≡◌, ℕ, ◌<◌, Bool, true, not, ◌&&◌, ◌≢◌, List, [], ◌∷◌, length, take, slice_index, ◌==◌, ◌≤◌}
use Rattle.std.specs.Bool.{if◌then◌else◌}
use Rattle.std.specs.List.{count_by}
use Rattle.paths.specs.Paths.{below, Within}
use Rattle.best.specs.declared.order.Order.{Order}
use Rattle.best.specs.Best.{Ahead, Best}
use Rattle.best.specs.TieBreak.{IsTieBreak}

-- of the candidates that are left, none is ahead of x
abbrev pub Unbeaten : (ℕ → ℕ → Type 0) → (ℕ → Bool) → ℕ → Type 0
Unbeaten ahead left x = (y : ℕ) → left y ≡ true → ahead y x → ⊥

-- x comes next: of those that are left and of whom no other left one is ahead, x is the first in the tie-break order
pub record Next (ahead : ℕ → ℕ → Type 0) (before : ℕ → ℕ → Bool) (left : ℕ → Bool) (x : ℕ) : Type 0 where
  pub is_left : left x ≡ true
  pub unbeaten : Unbeaten ahead left x
  pub first : (z : ℕ) → left z ≡ true → Unbeaten ahead left z → z ≢ x → before x z ≡ true

-- those that are left when x is gone
abbrev pub all_but : ℕ → (ℕ → Bool) → ℕ → Bool
all_but x left z = left z && not (z == x)

-- the row is the full order of those that are left: its first comes next, and the others follow when it is gone
abbrev pub FullOrder : (ℕ → ℕ → Type 0) → (ℕ → ℕ → Bool) → (ℕ → Bool) → List ℕ → Type 0
FullOrder ahead before left [] = (x : ℕ) → left x ≢ true
FullOrder ahead before left (x ∷ xs) = Next ahead before left x × FullOrder ahead before (all_but x left) xs

-- each of those that stand here is in the row once, and nobody else is in it
abbrev pub EachOnce : (ℕ → Bool) → List ℕ → Type 0
EachOnce here row = (x : ℕ) → count_by (λ y. y == x) row ≡ (if here x then 1 else 0)

-- the candidates of an order, first to last
abbrev pub row_of : Order → List ℕ
row_of o = take o.candidates o.places

-- behind the candidates all is 0
abbrev pub IsZeroBehind : Order → Type 0
IsZeroBehind o = (i : ℕ) → o.candidates ≤ i → slice_index o.places i ≡ 0

-- by the wins w, the order is the full order of the candidates below v
pub record OrderOf (w : ℕ → ℕ → ℕ) (v : ℕ) (before : ℕ → ℕ → Bool) (o : Order) : Type 0 where
  pub candidates : o.candidates ≡ v
  pub once : EachOnce (below v) (row_of o)
  pub row : FullOrder (Ahead w (below v)) before (below v) (row_of o)
  pub behind : IsZeroBehind o

-- in a full order each of those that stand is once, and nobody else
abbrev pub EachStandsOnce : Type 0
EachStandsOnce =
    (w : ℕ → ℕ → ℕ) (here : ℕ → Bool) (before : ℕ → ℕ → Bool) (row : List ℕ) →
    FullOrder (Ahead w here) before here row → EachOnce here row

-- there is at most one full order
abbrev pub OneOrder : Type 0
OneOrder =
    (w : ℕ → ℕ → ℕ) (here : ℕ → Bool) (before : ℕ → ℕ → Bool) (xs ys : List ℕ) → IsTieBreak before →
    FullOrder (Ahead w here) before here xs → FullOrder (Ahead w here) before here ys → xs ≡ ys

-- its first candidate is among the best
abbrev pub FirstIsBest : Type 0
FirstIsBest =
    (w : ℕ → ℕ → ℕ) (here : ℕ → Bool) (before : ℕ → ℕ → Bool) (v x : ℕ) (xs : List ℕ) → Within here v →
    FullOrder (Ahead w here) before here (x ∷ xs) → Best w here x

-- whoever is ahead of another stands before it
abbrev pub AheadStandsBefore : Type 0
AheadStandsBefore =
    (w : ℕ → ℕ → ℕ) (here : ℕ → Bool) (before : ℕ → ℕ → Bool) (row : List ℕ) (i j : ℕ) →
    FullOrder (Ahead w here) before here row → i < length row → j < length row →
    Ahead w here (slice_index row i) (slice_index row j) → i < j
