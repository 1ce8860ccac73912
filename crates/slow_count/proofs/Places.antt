-- The full order, place by place.
use Rattle.std.proofs.Common.{◌≡◌, ℕ, zero, suc, ◌+◌, ◌<◌, Bool, false, List, [], ◌∷◌}
use Rattle.std.proofs.Common.{◌++◌, append_assoc, ◌∙◌, sym, Some, None, refl, ap, inl, inr, arith}
use Rattle.std.proofs.lemmas.Bool.{cases_Bool}
use Rattle.std.proofs.lemmas.Grind.{common_steps}
use Rattle.std.specs.Prelude.{find, slice_set}
use Rattle.std.specs.List.{range_with_len}
use Rattle.slow_count.specs.declared.table.TheConstants.{MOST}
use Rattle.slow_count.specs.declared.count.SlowCount.{SlowCount}
use Rattle.slow_count.specs.declared.tie.Tie.{Tie}
use Rattle.slow_count.specs.Orders.{comes_next, next, order_of}

-- who is found among n numbers is one of them
found_below : (f : ℕ → Bool) (a n x : ℕ) → find f (range_with_len a n) ≡ Some x → x < a + n
found_below f a zero x e = grind (arith, common_steps)
found_below f a (suc n) x e = elim (cases_Bool (f a)) [
  | inl t ↦ grind (arith, common_steps)
  | inr t ↦ let h = found_below f (a + 1) n x (rw t at e) in omega arith
]

-- who comes next is one of those that the count takes
pub next_below : (c : SlowCount) (tie : Tie) (left : List Bool) (x : ℕ) → next c tie left ≡ Some x → x < MOST
unfolding next
next_below c tie left x e = found_below (comes_next c tie left) 0 MOST x e

-- where somebody comes next, the others follow
order_more : (c : SlowCount) (tie : Tie) (left : List Bool) (x n : ℕ) → next c tie left ≡ Some x →
    order_of c tie left (suc n) ≡ x ∷ order_of c tie (slice_set left x false) n
unfolding order_of
order_more c tie left x n e = rw e refl

-- where nobody does, nobody follows
order_end : (c : SlowCount) (tie : Tie) (left : List Bool) (n : ℕ) → next c tie left ≡ None → order_of c tie left n ≡ []
unfolding order_of
order_end c tie left zero e = refl
order_end c tie left (suc n) e = rw e refl

-- who comes next is put behind those who have their place
pub placed : (c : SlowCount) (tie : Tie) (left : List Bool) (x n : ℕ) (xs all : List ℕ) → next c tie left ≡ Some x →
    xs ++ order_of c tie left (suc n) ≡ all → (xs ++ x ∷ []) ++ order_of c tie (slice_set left x false) n ≡ all
placed c tie left x n xs all e is = append_assoc xs (x ∷ []) _ ∙ (rw (order_more c tie left x n e) at is)

-- nobody is, where all have their place
pub all_placed : (c : SlowCount) (tie : Tie) (left : List Bool) (n k : ℕ) (xs all : List ℕ) → next c tie left ≡ None →
    xs ++ order_of c tie left n ≡ all → xs ++ order_of c tie left k ≡ all
all_placed c tie left n k xs all e is =
    ap (λ ys. xs ++ ys) (order_end c tie left k e ∙ sym (order_end c tie left n e)) ∙ is
