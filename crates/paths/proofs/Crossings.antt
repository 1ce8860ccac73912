-- What a cut says of paths, and why the candidates nearer to x than y are one.
use Rattle.std.proofs.Common.{◌≡◌, ℕ, ◌<◌, ◌≤◌, min, Bool, true, false, eqb, ltb, ◌⊎◌, List, [], ◌∷◌, sym, refl, ◌∙◌, inl, inr, arith}
use Rattle.std.proofs.lemmas.Bool.{cases_Bool, both_ways, or_cases, or_parts, or_left, or_from, eqb-true, eqb-false, eq-eqb, ne_eqb, ltb-true, ltb-false, le-ltb}
use Rattle.ballots.specs.Sets.{holds, set_of}
use Rattle.ballots.proofs.Sets.{set_of_lt, holds_set_of}
use Rattle.paths.specs.Paths.{below, Path, step, on}
use Rattle.paths.specs.Middles.{pair, strength}
use Rattle.paths.specs.Rows.{Leads, weakest, Shows}
use Rattle.paths.specs.Cuts.{Cut, nearer, cut}
use Rattle.paths.specs.Strengths.{CutOf}
use Rattle.paths.specs.Laws.{CutBounds, PathAndCut}
use Rattle.paths.proofs.Walks.{in_below, below_in, along, join, weaken}
use Rattle.paths.proofs.Pairs.{pair_two, two_pair, pair_no, strength_strongest, strength_pair}

-- a path from a candidate of the set stays in it, or is no stronger than the wins across
leaves :
    {w : ℕ → ℕ → ℕ} {n x y s set m a b : ℕ} → Cut w n x y s set → Path w (below n) m a b → holds set a ≡ true →
    (holds set b ≡ true) ⊎ (m ≤ s)
leaves {n = n} {s = s} {set = set} {m = m} c =
    along (λ a b. holds set a ≡ true → (holds set b ≡ true) ⊎ (m ≤ s))
    (λ a b ha hb l h. elim (cases_Bool (holds set b)) [
      | inl i ↦ inl i
      | inr o ↦ inr (omega (arith, c.across a b (below_in n a ha) (below_in n b hb) h o))
    ])
    (λ a b z f g h. elim (f h) [ inl i ↦ g i | inr k ↦ inr k ])

pub cut_bounds : CutBounds
cut_bounds w n x y s set m c p = elim (leaves c p c.has) [
  | inl i ↦ absurd (both_ways (holds set y) c.lacks i)
  | inr g ↦ g
]

-- a row that leads on from x is a path as strong as its weakest win
leads_path :
    {w : ℕ → ℕ → ℕ} {here : ℕ → Bool} (x y s : ℕ) (row : List ℕ) → here x ≡ true → Leads w here x row y →
    weakest w x row ≡ s → 0 < s → Path w here s x y
leads_path x y s [] hx l e pos = absurd (let f : ⊥ = omega arith in f)
leads_path {w = w} {here = here} x y s (z ∷ []) hx l e pos =
    let p : Path w here s x z = step hx l.0 (omega arith) in rw l.2 at p
leads_path {w = w} {here = here} x y s (z ∷ (a ∷ row)) hx l e pos =
    let m : ℕ = weakest w z (a ∷ row) in
    let win : s ≤ w x z = omega arith in
    let p : Path w here m z y = leads_path z y m (a ∷ row) l.0 l.2 refl (omega arith) in
    join (step hx l.0 win) (weaken (omega arith) p)

shows_path : {w : ℕ → ℕ → ℕ} {here : ℕ → Bool} {x y s : ℕ} {row : List ℕ} → Shows w here x y s row → Path w here s x y
shows_path {x = x} {y = y} {s = s} p = leads_path x y s p.rest p.stands p.leads p.weak p.some

pub path_and_cut : PathAndCut
path_and_cut w n x y s set row p c =
    record { shown = λ pos. shows_path (p pos); greatest = λ m q. cut_bounds w n x y s set m c q }

-- the candidates nearer to x than y are a cut: a win out of it would bring one outside nearer
module _ (w : ℕ → ℕ → ℕ) (n x y : ℕ) (e : pair n x y ≡ true) where
  near : (a : ℕ) → nearer w n x y a ≡ true → (a ≡ x) ⊎ (strength w n x y < strength w n x a)
  near a h = elim (or_cases (eqb a x) (ltb (strength w n x y) (strength w n x a)) h)
      [ inl p ↦ inl (eqb-true a x p) | inr p ↦ inr (ltb-true (strength w n x y) (strength w n x a) p) ]

  far : (b : ℕ) → nearer w n x y b ≡ false → (x ≡ b → ⊥) × (strength w n x b ≤ strength w n x y)
  far b h =
      let (p, q) = or_parts (eqb b x) (ltb (strength w n x y) (strength w n x b)) h in
      (λ i. eqb-false b x p (sym i), ltb-false (strength w n x y) (strength w n x b) q)

  stays : (a b : ℕ) → a < n → b < n → nearer w n x y a ≡ true → nearer w n x y b ≡ false → w a b ≤ strength w n x y
  stays a b an bn i o =
      let xn : x < n = (pair_two n x y e).first in
      let (ne, low) = far b o in
      let top = (strength_strongest w n x b (two_pair n x b xn bn ne)).greatest in
      elim (near a i) [
        | inl q ↦
            let p : Path w (below n) (w x b) x b = step (in_below n x xn) (in_below n b bn) (omega arith) in
            rw q (omega (arith, top (w x b) p))
        | inr l ↦
            let t : ℕ = strength w n x a in
            let m : ℕ = min t (w a b) in
            let to = strength_strongest w n x a (strength_pair w n x a (omega arith)) in
            let p : Path w (below n) t x a = to.shown (omega arith) in
            let q : Path w (below n) m x b = on (weaken (omega arith) p) (in_below n b bn) (omega arith) in
            omega (arith, top m q)
      ]

  pub nearer_cuts : Cut w n x y (strength w n x y) (set_of (nearer w n x y) n)
  nearer_cuts =
      let two = pair_two n x y e in
      let bit = holds_set_of (nearer w n x y) n in
      record {
        has = bit x two.first ∙ or_left (eqb x x) (ltb (strength w n x y) (strength w n x x)) (eq-eqb x x refl);
        lacks = bit y two.second ∙ or_from (eqb y x) (ltb (strength w n x y) (strength w n x y))
            (ne_eqb y x (λ i. two.apart (sym i))) (le-ltb (strength w n x y) (strength w n x y) (omega arith));
        bounded = set_of_lt (nearer w n x y) n;
        across = λ a b an bn i o. stays a b an bn (sym (bit a an) ∙ i) (sym (bit b bn) ∙ o);
      }

-- the set of those nearer is the cut of its pair
pub set_cut : (w : ℕ → ℕ → ℕ) (n x y set : ℕ) → set ≡ cut w n x y → CutOf w n x y set
set_cut w n x y set e =
    record {
      is = e;
      cuts = λ p.
          let two = two_pair n x y p.first p.second p.apart in
          let is : set ≡ set_of (nearer w n x y) n = e ∙ rw two in
          rw is (nearer_cuts w n x y two);
      none = λ apart. e ∙ rw (pair_no n x y apart);
    }
