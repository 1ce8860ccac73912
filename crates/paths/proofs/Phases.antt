-- The turns of the loops that find the strengths: a phase is what one candidate does as the one in the middle.
use Rattle.std.proofs.Common.{◌≡◌, ℕ, suc, ◌+◌, ◌*◌, ◌<◌, ◌≤◌, min, max, Bool, true, false, ◌&&◌, ◌||◌, eqb, ltb, List, replicate, if◌then◌else◌, sym, refl, ap, ◌∙◌, subst, inl, inr, arith}
use Rattle.std.proofs.lemmas.Bool.{cases_Bool, cases_eq}
use Rattle.std.proofs.lemmas.Bool.Decides.{nat_tests}
use Rattle.ballots.specs.Format.{most_candidates}
use Rattle.ballots.specs.Sets.{holds}
use Rattle.ballots.proofs.Sets.{holds_past}
use Rattle.pairwise.specs.declared.grid.Grid.{Grid}
use Rattle.pairwise.specs.Grids.{cells, cell, within, number_for}
use Rattle.pairwise.proofs.Cells.{zeros, within-below}
use Rattle.paths.specs.Paths.{below}
use Rattle.paths.specs.Middles.{via, bettered}
use Rattle.paths.specs.inner.Fields.{HasStrengths, HasMiddles}
use Rattle.paths.specs.inner.Phases.{HasWins, strength_over, Tried, Cleared}
use Rattle.paths.proofs.Walks.{in_below}
use Rattle.paths.proofs.Via.{via_to, via_from}

-- the pair a, b has its strength and its middles over the candidates below k
abbrev At : (ℕ → ℕ → ℕ) → ℕ → ℕ → List ℕ → List ℕ → ℕ → ℕ → Type 0
At w v k cs hs a b =
    (cell cs a b ≡ within v (via w (below v) k) a b)
    × (a < v → b < v → (z : ℕ) → z < v → holds (cell hs a b) z ≡ (ltb z k && bettered w (below v) a b z))

-- in the phase of k, when the loops have come to x and y, the pairs before them have k among the candidates too
abbrev stage : ℕ → ℕ → ℕ → ℕ → ℕ → ℕ
stage k x y a b = if ltb a x || (eqb a x && ltb b y) then suc k else k

pub record Phase (w : ℕ → ℕ → ℕ) (v k x y : ℕ) (cs hs : List ℕ) : Type 0 where
  pub each : (a b : ℕ) → a < most_candidates → b < most_candidates → At w v (stage k x y a b) cs hs a b

via_is :
    (w : ℕ → ℕ → ℕ) (here : ℕ → Bool) (k x y : ℕ) → here k ≡ true →
    via w here (suc k) x y ≡ max (via w here k x y) (min (via w here k x k) (via w here k k y))
unfolding via
via_is w here k x y e = rw e

ltb_max : (a b : ℕ) → ltb a b ≡ ltb a (max a b)
ltb_max a b = grind (arith, nat_tests)

-- k comes to the middles below k
more : (k z : ℕ) (f : ℕ → Bool) → ((f k && eqb z k) || (ltb z k && f z)) ≡ (ltb z (suc k) && f z)
more k z f = elim (cases_eq z k) [ inl e ↦ grind (arith, nat_tests) | inr e ↦ grind (arith, nat_tests) ]

-- a turn of the innermost loop
module _ {w : ℕ → ℕ → ℕ} {v k x y : ℕ} {cs hs : List ℕ} (p : Phase w v k x y cs hs)
    (few : v ≤ most_candidates) (kv : k < v) (xv : x < v) (yv : y < v) where
  -- where k changes nothing, a pair has its strength over the candidates below k
  same_is :
      (a b : ℕ) → a < v → b < v → via w (below v) (suc k) a b ≡ via w (below v) k a b → cell cs a b ≡ via w (below v) k a b
  same_is a b av bv same =
      (p.each a b (omega arith) (omega arith)).0
      ∙ (within-below v a b (via w (below v) (stage k x y a b)) av bv
      ∙ elim (cases_Bool (ltb a x || (eqb a x && ltb b y))) [ inl e ↦ rw e same | inr e ↦ rw e refl ])

  now_at : At w v k cs hs x y
  now_at = let e : stage k x y x y ≡ k = grind (arith, nat_tests) in rw e at (p.each x y (omega arith) (omega arith))

  now_is : cell cs x y ≡ via w (below v) k x y
  now_is = now_at.0 ∙ within-below v x y (via w (below v) k) xv yv

  next_is : via w (below v) (suc k) x y ≡ max (cell cs x y) (strength_over cs k x y)
  next_is =
      let to = same_is x k xv kv (via_to w (below v) k x) in
      let from = same_is k y kv yv (via_from w (below v) k y) in
      omega (arith, via_is w (below v) k x y (in_below v k kv), now_is, to, from)

  test_is : ltb (cell cs x y) (strength_over cs k x y) ≡ bettered w (below v) x y k
  unfolding bettered
  test_is = ltb_max (cell cs x y) (strength_over cs k x y) ∙ rw (next_is, ← now_is)

  module _ {cs' hs' : List ℕ} (t : Tried k x y cs hs cs' hs') where
    here_at : At w v (suc k) cs' hs' x y
    here_at = (
      t.strength ∙ (sym next_is ∙ sym (within-below v x y (via w (below v) (suc k)) xv yv)),
      λ _ _ z zv. t.middles z (omega arith) ∙ rw (test_is, now_at.1 xv yv z zv) (more k z (bettered w (below v) x y)),
    )

    else_stage : (a b : ℕ) → (a ≡ x → b ≡ y → ⊥) → stage k x y a b ≡ stage k x (y + 1) a b
    else_stage a b n = elim (cases_eq a x) [
      | inl e ↦ let m : b ≡ y → ⊥ = n e in grind (arith, nat_tests)
      | inr e ↦ grind (arith, nat_tests)
    ]

    else_at :
        (a b : ℕ) → a < most_candidates → b < most_candidates → (a ≡ x → b ≡ y → ⊥) → At w v (stage k x (y + 1) a b) cs' hs' a b
    else_at a b am bm n =
        let o = t.others a b bm n in
        let q = p.each a b am bm in
        rw (← else_stage a b n) (o.0 ∙ q.0, λ av bv z zv. ap (λ set. holds set z) o.1 ∙ q.1 av bv z zv)

    pub next_pair : Phase w v k x (y + 1) cs' hs'
    next_pair =
        record {
          each = λ a b am bm. elim (cases_eq a x) [
            | inl e ↦ elim (cases_eq b y) [
              | inl f ↦ let g : stage k x (y + 1) x y ≡ suc k = grind (arith, nat_tests) in rw (e, f, g) here_at
              | inr f ↦ else_at a b am bm (λ _ g. f g)
            ]
            | inr e ↦ else_at a b am bm (λ g _. e g)
          ];
        }

-- before the first phase there are the wins, and no middles
win_within : (t : Grid) (x y : ℕ) → number_for t x y ≡ within t.candidates (number_for t) x y
win_within t x y = grind (arith, nat_tests)

start : (k a b : ℕ) → stage k 0 0 a b ≡ k
start k a b = grind (arith, nat_tests)

nobody : (z : ℕ) (b : Bool) → holds 0 z ≡ (ltb z 0 && b)
nobody z b = let e : holds 0 z ≡ false = holds_past 0 0 z (omega arith) (omega arith) in rw e (grind (arith, nat_tests))

pub first_phase :
    (t : Grid) (cs hs : List ℕ) → HasWins (number_for t) cs → hs ≡ replicate {A = ℕ} cells 0 →
    Phase (number_for t) t.candidates 0 0 0 cs hs
unfolding via
first_phase t cs hs p none =
    record {
      each = λ a b am bm. rw (start 0 a b) (
        p a b am bm ∙ win_within t a b,
        λ _ _ z zv. rw (none, zeros cells (a * most_candidates + b)) (nobody z _),
      );
    }

-- behind a row comes the next row, and behind the last one the next phase
module _ {w : ℕ → ℕ → ℕ} {v k x y : ℕ} {cs hs : List ℕ} (p : Phase w v k x y cs hs) where
  change : {j x' y' : ℕ} → ((a b : ℕ) → a < v → b < v → stage k x y a b ≡ stage j x' y' a b) → Phase w v j x' y' cs hs
  change {j} {x'} {y'} e =
      record {
        each = λ a b am bm. elim (cases_Bool (ltb a v && ltb b v)) [
          | inl t ↦
              let same = e a b (grind (arith, nat_tests)) (grind (arith, nat_tests)) in
              subst (λ i. At w v i cs hs a b) same (p.each a b am bm)
          | inr t ↦ ((p.each a b am bm).0 ∙ rw t, λ av bv. absurd (let f : ⊥ = grind (arith, nat_tests, t) in f))
        ];
      }

  pub next_row : y ≡ v → Phase w v k (x + 1) 0 cs hs
  next_row e = change (λ a b av bv. grind (arith, nat_tests, cases_eq a x))

  pub next_phase : x ≡ v → y ≡ 0 → Phase w v (k + 1) 0 0 cs hs
  next_phase e z = change (λ a b av bv. grind (arith, nat_tests))

-- after the last one there are the middles, and the strengths once the diagonal is cleared
module _ {w : ℕ → ℕ → ℕ} {v k : ℕ} {cs hs : List ℕ} (p : Phase w v k 0 0 cs hs)
    (done : k ≡ v) (few : v ≤ most_candidates) where
  pub all_strengths : (cs' : List ℕ) → Cleared v cs cs' → HasStrengths w v cs'
  all_strengths cs' cleared x y xl yl =
      let e : cell cs x y ≡ within v (via w (below v) v) x y = rw (start k x y, done) at (p.each x y xl yl).0 in
      cleared x y xl yl ∙ grind (arith, nat_tests)

  pub all_middles : HasMiddles w v hs
  all_middles x y z xv yv zv =
      let e = rw (start k x y) at (p.each x y (omega arith) (omega arith)).1 xv yv z zv in
      e ∙ grind (arith, nat_tests)
