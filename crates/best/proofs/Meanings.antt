-- What comparing strengths means: ahead, unbeaten, among the best.
use Rattle.std.proofs.Common.{IsTrue, ◌↔◌, ◌≡◌, ℕ, ◌<◌, Bool, true, not, ◌&&◌, ltb, ◌≢◌, Decides, sym, refl, inl, inr, arith}
use Rattle.std.proofs.lemmas.Bool.{cases_lt, and_parts, and_from, ltb-true, lt-ltb}
use Rattle.std.proofs.lemmas.Bool.Decides.{same_from_decides, nat_tests, Decides-below_and, Decides-not, Decides-and, Decides-like}
use Rattle.ballots.specs.Sets.{holds, every}
use Rattle.ballots.proofs.Sets.{holds_set_of, set_of_lt, same_set}
use Rattle.ballots.proofs.Everybody.{every_same}
use Rattle.paths.specs.Paths.{below}
use Rattle.paths.specs.Middles.{strength, via}
use Rattle.paths.proofs.Grids.{strength_of, is_strength}
use Rattle.paths.proofs.Walks.{in_below, below_in, starts, ends}
use Rattle.best.specs.Best.{Ahead}
use Rattle.best.specs.Laws.{AheadByStrength, BestByStrength}
use Rattle.best.specs.Order.{Unbeaten}
use Rattle.best.specs.inner.NextPlace.{standing}
use Rattle.best.specs.Comparisons.{ahead_by, unbeaten_by, best_by, BestSet}
use Rattle.best.proofs.Compare.{ahead_strength, strength_ahead, best_unbeaten}

module _ (w : ℕ → ℕ → ℕ) (v : ℕ) where
  -- between two candidates the strength is that over all middles
  strength_via : (x y : ℕ) → x < v → y < v → x ≢ y → strength w v x y ≡ via w (below v) v x y
  strength_via x y xv yv ne = grind (arith, nat_tests)

  ahead_two : (x y : ℕ) → ahead_by (strength w v) x y ≡ true → (x < v) × (y < v) × (x ≢ y)
  ahead_two x y h = (
    grind (arith, nat_tests),
    grind (arith, nat_tests),
    λ e. let k : ltb (strength w v x x) (strength w v x x) ≡ true = rw (sym e) at h in omega (arith, ltb-true _ _ k),
  )

  pub ahead_meaning : (x y : ℕ) → Decides (ahead_by (strength w v) x y) (Ahead w (below v) x y)
  ahead_meaning x y = (
    (λ h.
        let two = ahead_two x y h in
        let a = strength_via x y two.0 two.1 two.2 in
        let b = strength_via y x two.1 two.0 (λ e. two.2 (sym e)) in
        strength_ahead w (below v) v (below_in v) x y (in_below v x two.0) (in_below v y two.1) (omega (arith, ltb-true _ _ h))),
    λ a.
        let l = ahead_strength w (below v) v (below_in v) a in
        let xv = below_in v x (starts a.2) in
        let yv = below_in v y (ends a.2) in
        let ne : x ≢ y = λ e. (let k : via w (below v) v x x < via w (below v) v x x = rw (sym e) at l in omega arith) in
        lt-ltb _ _ (omega (arith, strength_via x y xv yv ne, strength_via y x yv xv (λ e. ne (sym e)))),
  )

  pub unbeaten_meaning : (left : ℕ → Bool) (x : ℕ) →
      Decides (unbeaten_by (strength w v) v left x) (Unbeaten (Ahead w (below v)) (standing v left) x)
  unbeaten_meaning left x =
      Decides-like (unbeaten_by (strength w v) v left x)
      (λ f y s a. f y (below_in v y (and_parts _ _ s).0) ((and_parts _ _ s).1, a))
      (λ f y l (s, a). f y (and_from _ _ (in_below v y l) s) a)
      (Decides-below_and
      (λ y. not (left y && ahead_by (strength w v) y x))
      (λ y. (left y ≡ true) × Ahead w (below v) y x → ⊥)
      (every (λ y. not (left y && ahead_by (strength w v) y x)))
      (λ y. Decides-not _ (Decides-and _ _ (λ e. e, λ e. e) (ahead_meaning y x)))
      refl (λ k. refl) v)

  pub best_meaning : BestSet w v (best_by (strength w v) v)
  best_meaning =
      record {
        within = set_of_lt _ v;
        each = λ x xv. rw (holds_set_of (unbeaten_by (strength w v) v (λ _. true)) v x xv) (Decides-like _
            (λ u. (best_unbeaten w (below v) v x (below_in v) (in_below v x xv)).1 (λ y a. u y (and_from _ _ (starts a.2) refl) a))
            (λ b y s a. (best_unbeaten w (below v) v x (below_in v) (in_below v x xv)).0 b y a)
            (unbeaten_meaning (λ _. true) x));
      }

  -- there is one set of the best, and one answer to who is ahead
  pub is_best : {s : ℕ} → BestSet w v s → s ≡ best_by (strength w v) v
  is_best {s} b = same_set v s _ b.within best_meaning.within
      (λ x xv. same_from_decides (holds s x) _ (b.each x xv) (best_meaning.each x xv))

  pub is_ahead : {x y : ℕ} {r : Bool} → IsTrue r ↔ Ahead w (below v) x y → r ≡ ahead_by (strength w v) x y
  is_ahead {x} {y} {r} a = same_from_decides r _ a (ahead_meaning x y)

pub ahead_by_strength : AheadByStrength
ahead_by_strength w v x y s t to back =
    let to = is_strength w v to in
    let back = is_strength w v back in
    let (compared, ahead) = ahead_meaning w v x y in
    ((λ a. omega (arith, ltb-true _ _ (ahead a))), λ l. compared (lt-ltb _ _ (omega arith)))

pub best_by_strength : BestByStrength
best_by_strength w v x xv =
    let (unbeaten, best) = best_unbeaten w (below v) v x (below_in v) (in_below v x xv) in (
      (λ b y s t to back. elim (cases_lt s t) [
        | inl l ↦ absurd (unbeaten b y ((ahead_by_strength w v y x t s back to).1 l))
        | inr l ↦ l
      ]),
      λ f. best (λ y a.
          let to = strength_of w v x y in
          let back = strength_of w v y x in
          omega (arith, (ahead_by_strength w v y x _ _ back to).0 a, f y _ _ to back)),
    )

-- where all are left, none is passed over
pub unbeaten_all : (s : ℕ → ℕ → ℕ) (v x : ℕ) (left : ℕ → Bool) → ((y : ℕ) → y < v → left y ≡ true) →
    unbeaten_by s v left x ≡ unbeaten_by s v (λ _. true) x
unbeaten_all s v x left h =
    every_same (λ y. not (left y && ahead_by s y x)) (λ y. not (true && ahead_by s y x)) v (λ y l. let e = h y l in rw e)
