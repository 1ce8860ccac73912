-- The full order: there is one, its first is among the best, and whoever is ahead stands before.
use Rattle.std.proofs.Common.{◌≡◌, ℕ, zero, suc, ◌+◌, ◌<◌, ◌≤◌, Bool, true, List, [], ◌∷◌, ◌++◌, length, drop, replicate, get_or, sym, refl, ◌∙◌, inl, inr, arith}
use Rattle.std.proofs.lemmas.Bool.{cases_eq, and_parts}
use Rattle.std.proofs.lemmas.Bool.Decides.{nat_tests}
use Rattle.std.proofs.lemmas.List.{get_or-drop}
use Rattle.std.proofs.lemmas.List.Sums.{sum_by-cons}
use Rattle.paths.proofs.Walks.{starts}
use Rattle.best.specs.Best.{Ahead}
use Rattle.best.specs.Order.{Next, all_but, FullOrder, EachOnce, EachStandsOnce, OneOrder, FirstIsBest, AheadStandsBefore}
use Rattle.best.specs.TieBreak.{IsTieBreak}
use Rattle.best.proofs.Compare.{best_unbeaten}

module _ (ahead : ℕ → ℕ → Type 0) (before : ℕ → ℕ → Bool) where
  -- of two that come next, each is before the other, so they are one
  one_next : (left : ℕ → Bool) (x y : ℕ) → IsTieBreak before → Next ahead before left x → Next ahead before left y → x ≡ y
  one_next left x y t p q = elim (cases_eq x y) [
    | inl e ↦ e
    | inr e ↦ absurd (t.one_way x y (p.first y q.is_left q.unbeaten (λ f. e (sym f))) (q.first x p.is_left p.unbeaten e))
  ]

  -- whoever stands in the row was left
  row_left : (left : ℕ → Bool) (row : List ℕ) (i : ℕ) → FullOrder ahead before left row → i < length row →
      left (get_or row i 0) ≡ true
  row_left left [] i h l = absurd (let f : ⊥ = omega arith in f)
  row_left left (x ∷ xs) zero h l = h.0.is_left
  row_left left (x ∷ xs) (suc i) h l =
      let k = row_left (all_but x left) xs i h.1 (omega arith) in (and_parts _ _ k).0

  -- so all are
  same_row : (left : ℕ → Bool) (xs ys : List ℕ) → IsTieBreak before →
      FullOrder ahead before left xs → FullOrder ahead before left ys → xs ≡ ys
  same_row left [] [] t p q = refl
  same_row left [] (y ∷ ys) t p q = absurd (p y q.0.is_left)
  same_row left (x ∷ xs) [] t p q = absurd (q x p.0.is_left)
  same_row left (x ∷ xs) (y ∷ ys) t p q =
      let e = one_next left x y t p.0 q.0 in
      let f = same_row (all_but x left) xs ys t p.1 (rw (sym e) at q.1) in
      cc

  -- nobody is ahead of one that stands before
  stands_before :
      (left : ℕ → Bool) (row : List ℕ) (i j : ℕ) → FullOrder ahead before left row → i < length row → j < length row →
      ahead (get_or row i 0) (get_or row j 0) → i < j
  stands_before left [] i j h li lj a = absurd (let f : ⊥ = omega arith in f)
  stands_before left (x ∷ xs) zero zero h li lj a = absurd (h.0.unbeaten x h.0.is_left a)
  stands_before left (x ∷ xs) zero (suc j) h li lj a = omega arith
  stands_before left (x ∷ xs) (suc i) zero h li lj a =
      absurd (h.0.unbeaten (get_or xs i 0) (and_parts _ _ (row_left (all_but x left) xs i h.1 (omega arith))).0 a)
  stands_before left (x ∷ xs) (suc i) (suc j) h li lj a =
      omega (arith, stands_before (all_but x left) xs i j h.1 (omega arith) (omega arith) a)

  -- how often x is in the row is told by the first and by the others
  pub each_once : (left : ℕ → Bool) (row : List ℕ) → FullOrder ahead before left row → EachOnce left row
  each_once left [] h x = grind (arith, nat_tests, h x)
  each_once left (y ∷ ys) h x =
      let rest = each_once (all_but y left) ys h.1 x in
      let first = h.0.is_left in
      rw sum_by-cons (grind (arith, nat_tests, rest))

-- where another relation says the same, and another tie-break of those that are left, the full order is the same
module _ (ahead ahead' : ℕ → ℕ → Type 0) (before before' : ℕ → ℕ → Bool)
    (there : (x y : ℕ) → ahead x y → ahead' x y) (back : (x y : ℕ) → ahead' x y → ahead x y) where
  next_like : (left : ℕ → Bool) (x : ℕ) → ((y z : ℕ) → left y ≡ true → left z ≡ true → before y z ≡ before' y z) →
      Next ahead before left x → Next ahead' before' left x
  next_like left x same h =
      record {
        is_left = h.is_left;
        unbeaten = λ y l a. h.unbeaten y l (back y x a);
        first = λ z l u ne. sym (same x z h.is_left l) ∙ h.first z l (λ y k a. u y k (there y z a)) ne;
      }

  pub full_like : (left : ℕ → Bool) (row : List ℕ) → ((y z : ℕ) → left y ≡ true → left z ≡ true → before y z ≡ before' y z) →
      FullOrder ahead before left row → FullOrder ahead' before' left row
  full_like left [] same h = h
  full_like left (x ∷ xs) same h = (
    next_like left x same h.0,
    full_like (all_but x left) xs (λ y z ly lz. same y z (and_parts _ _ ly).0 (and_parts _ _ lz).0) h.1,
  )

pub one_order : OneOrder
one_order w here before = same_row (Ahead w here) before here

pub first_is_best : FirstIsBest
first_is_best w here before v x xs bound h =
    (best_unbeaten w here v x bound h.0.is_left).1 (λ y a. h.0.unbeaten y (starts a.2) a)

pub ahead_stands_before : AheadStandsBefore
ahead_stands_before w here before = stands_before (Ahead w here) before here

pub each_stands_once : EachStandsOnce
each_stands_once w here before = each_once (Ahead w here) before here

-- behind a row that zeros follow there is 0
pub zero_behind : (xs : List ℕ) (n m i : ℕ) → length xs ≤ i → get_or (xs ++ drop n (replicate m zero)) i zero ≡ zero
zero_behind [] n m i l = get_or-drop n (replicate m zero) i zero ∙ zeros m (n + i)
  where
    zeros : (m k : ℕ) → get_or (replicate m zero) k zero ≡ zero
    zeros zero k = refl
    zeros (suc m) zero = refl
    zeros (suc m) (suc k) = zeros m k
zero_behind (x ∷ xs) n m zero l = absurd (let f : ⊥ = omega arith in f)
zero_behind (x ∷ xs) n m (suc i) l = zero_behind xs n m i (omega arith)
