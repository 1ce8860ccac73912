-- An array that a function of the index makes.
use Rattle.std.proofs.Common.{◌≡◌, ℕ, zero, suc, ◌+◌, ◌<◌, ◌≤◌, List, get_or, sym, ◌∙◌, inl, inr, arith}
use Rattle.std.proofs.lemmas.Bool.{cases_eq}
use Rattle.std.specs.Array.{IsFromFnResult, IsFromFnResultFrom}
use Rattle.std.specs.Fn.{Called}
use denote.Param.Members.{Mut}

module _ {F B : Type 0} {g : Mut F (ℕ × Unit {0}) B} {f : F} (ys : List B) (h : ℕ → B) where
  from_fn-from : (i n k : ℕ) (d : B) → IsFromFnResultFrom g f ys i n →
      ((i : ℕ) (r : B) (q : F) → Called g f (i, tt) r q → (q ≡ f) × (r ≡ h i)) →
      i ≤ k → k < i + n → get_or ys k d ≡ h k
  from_fn-from i zero k d m each low high = absurd (let z : ⊥ = omega arith in z)
  from_fn-from i (suc n) k d (q, y, at, called, rest) each low high =
      let (same, is) = each i y q called in
      elim (cases_eq i k) [
        | inl e ↦ rw (sym e) (at.1 d ∙ is)
        | inr ne ↦ from_fn-from (i + 1) n k d (rw same at rest) each (omega arith) (omega arith)
      ]

  -- its elements, where each call answers by the index alone
  pub from_fn-at : (n k : ℕ) (d : B) → IsFromFnResult g f ys n →
      ((i : ℕ) (r : B) (q : F) → Called g f (i, tt) r q → (q ≡ f) × (r ≡ h i)) →
      k < n → get_or ys k d ≡ h k
  from_fn-at n k d m each l = from_fn-from 0 n k d m.each each (omega arith) (omega arith)
