-- Ahead is a strict order, and reversed where every win is.
use Rattle.std.proofs.Common.{ℕ, Bool, sym, inl, inr, arith}
use Rattle.std.proofs.lemmas.Bool.{cases_lt}
use Rattle.paths.proofs.Walks.{join, weaken, reverse}
use Rattle.best.specs.Best.{Ahead}
use Rattle.best.specs.Laws.{AheadIsAnOrder, ReversalSymmetry}

-- by the weaker of the two paths
ahead_trans :
    {w : ℕ → ℕ → ℕ} {here : ℕ → Bool} {x y z : ℕ} → Ahead w here x y → Ahead w here y z → Ahead w here x z
ahead_trans (m, pm, p, np) (l, pl, q, nq) = elim (cases_lt m l) [
  | inl lt ↦ (m, pm, join p (weaken (omega arith) q), λ r. np (join (weaken (omega arith) q) r))
  | inr le ↦ (l, pl, join (weaken le p) q, λ r. nq (join r (weaken le p)))
]

pub ahead_is_an_order : AheadIsAnOrder
ahead_is_an_order w here =
    record { transitive = λ x y z p q. ahead_trans p q; irreflexive = λ x (m, pos, p, np). np p }

pub reversal_symmetry : ReversalSymmetry
reversal_symmetry w v here x y rev (m, pos, p, np) =
    (m, pos, reverse rev p, λ q. np (reverse (λ a b ha hb. sym (rev b a hb ha)) q))
