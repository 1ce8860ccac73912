-- The full order, made place by place.
use Rattle.std.proofs.Common.{◌≡◌, ℕ, zero, suc, ◌+◌, ◌<◌, ◌≤◌, Bool, true, false, not, ◌&&◌, eqb, List, [], ◌∷◌, ◌++◌, length, Some, None, Option, sym, refl, ap, ◌∙◌, subst, inl, inr, append_assoc, arith}
use Rattle.std.proofs.lemmas.List.{append-nil, length_push}
use Rattle.std.proofs.lemmas.Bool.{cases_eq, cases_Bool, and_parts, and_from}
use Rattle.std.proofs.lemmas.Bool.Decides.{nat_tests}
use Rattle.ballots.specs.Sets.{holds, set_of, number}
use Rattle.ballots.proofs.Sets.{holds_set_of}
use Rattle.ballots.proofs.Everybody.{number_same, number_all}
use Rattle.paths.specs.Paths.{below}
use Rattle.paths.specs.Middles.{strength}
use Rattle.paths.proofs.Walks.{in_below, below_in}
use Rattle.best.specs.Best.{Ahead}
use Rattle.best.specs.Comparisons.{unbeaten_by}
use Rattle.best.specs.Order.{Next, all_but, FullOrder}
use Rattle.best.specs.TieBreak.{IsTieBreak}
use Rattle.best.specs.inner.NextPlace.{standing, NextOf}
use Rattle.best.proofs.Firsts.{First, Found, first_below, first_found}
use Rattle.best.proofs.Meanings.{unbeaten_meaning}
use Rattle.best.proofs.Maximal.{maximal}
use Rattle.best.proofs.Compare.{ahead_strength}

-- what is found first is next, or nobody is left
module _ (w : ℕ → ℕ → ℕ) (v : ℕ) (before : ℕ → ℕ → Bool) (left : ℕ → Bool) where
  -- those that are left and of whom no left one is ahead
  abbrev pub unbeaten_left : ℕ → Bool
  unbeaten_left x = left x && unbeaten_by (strength w v) v left x

  first_next : (x : ℕ) → First before unbeaten_left v x → Next (Ahead w (below v)) before (standing v left) x
  first_next x h =
      let p = and_parts _ _ h.passes in
      record {
        is_left = and_from _ _ (in_below v x h.low) p.0;
        unbeaten = (unbeaten_meaning w v left x).0 p.1;
        first = λ z s u ne.
            let q = and_parts _ _ s in
            h.first z (below_in v z q.0) (and_from _ _ q.1 ((unbeaten_meaning w v left z).1 u)) ne;
      }

  -- where anybody is left, there is one of whom no left one is ahead
  some_unbeaten : (a : ℕ) → standing v left a ≡ true → (c : ℕ) × (c < v) × (unbeaten_left c ≡ true)
  some_unbeaten a h =
      let (c, sc, f) = maximal w (below v) v (below_in v) (standing v left) (λ z s. (and_parts _ _ s).0) a h v in
      let (cv, lc) = and_parts _ _ sc in (
        c,
        below_in v c cv,
        and_from _ _ lc ((unbeaten_meaning w v left c).1 (λ y s a.
            omega (arith, ahead_strength w (below v) v (below_in v) a, f y (below_in v y (and_parts _ _ s).0) s))),
      )

  found_next : (r : Option ℕ) → Found before unbeaten_left v r → NextOf w v before left r
  found_next None none = λ x h. let (c, cv, p) = some_unbeaten x h in none c cv p
  found_next (Some x) h = first_next x h

  pub next_found : (r : Option ℕ) → IsTieBreak before → r ≡ first_below before unbeaten_left v → NextOf w v before left r
  next_found r tie e = found_next r (subst (Found before unbeaten_left v) (sym e) (first_found before tie unbeaten_left v))

-- one less when x is gone
number_past : (f : ℕ → Bool) (v x : ℕ) → v ≤ x → number (all_but x f) v ≡ number f v
number_past f v x l = number_same (all_but x f) f v
    (λ z zv. let e : eqb z x ≡ false = grind (arith, nat_tests) in grind (arith, nat_tests))

number_without : (f : ℕ → Bool) (v x : ℕ) → x < v → f x ≡ true → number (all_but x f) v + 1 ≡ number f v
number_without f zero x l p = absurd (let z : ⊥ = omega arith in z)
number_without f (suc v) x l p = elim (cases_eq x v) [
  | inl e ↦
      let q : f v ≡ true = rw e at p in
      let gone : all_but x f v ≡ false = let i : eqb v x ≡ true = grind (arith, nat_tests) in grind (arith, nat_tests) in
      rw (gone, q) (omega (arith, number_past f v x (omega arith)))
  | inr e ↦
      let same : all_but x f v ≡ f v = let i : eqb v x ≡ false = grind (arith, nat_tests) in grind (arith, nat_tests) in
      rw same (omega (arith, number_without f v x (omega arith) p))
]

number_nobody : (f : ℕ → Bool) (v : ℕ) → ((x : ℕ) → x < v → f x ≡ true → ⊥) → number f v ≡ 0
number_nobody f zero h = refl
number_nobody f (suc v) h = elim (cases_Bool (f v)) [
  | inl e ↦ absurd (h v (omega arith) e)
  | inr e ↦ rw e (omega (arith, number_nobody f v (λ x l. h x (omega arith))))
]

module _ (ahead : ℕ → ℕ → Type 0) (before : ℕ → ℕ → Bool) where
  -- those that are left, under another name
  next_same : (f g : ℕ → Bool) (x : ℕ) → ((z : ℕ) → f z ≡ g z) → Next ahead before f x → Next ahead before g x
  next_same f g x e h =
      record {
        is_left = sym (e x) ∙ h.is_left;
        unbeaten = λ y p. h.unbeaten y (e y ∙ p);
        first = λ z p u. h.first z (e z ∙ p) (λ y q. u y (sym (e y) ∙ q));
      }

  full_same : (f g : ℕ → Bool) (row : List ℕ) → ((z : ℕ) → f z ≡ g z) →
      FullOrder ahead before f row → FullOrder ahead before g row
  full_same f g [] e h = λ x p. h x (e x ∙ p)
  full_same f g (x ∷ xs) e h =
      (next_same f g x e h.0, full_same (all_but x f) (all_but x g) xs (λ z. ap (λ b. b && not (eqb z x)) (e z)) h.1)

-- so far the places are made: whatever orders those that are left completes them
pub record Made (w : ℕ → ℕ → ℕ) (v : ℕ) (before : ℕ → ℕ → Bool) (left : ℕ) (places : List ℕ) : Type 0 where
  pub candidates : length places + number (holds left) v ≡ v
  pub row : (xs : List ℕ) → FullOrder (Ahead w (below v)) before (standing v (holds left)) xs →
      FullOrder (Ahead w (below v)) before (below v) (places ++ xs)

module _ (w : ℕ → ℕ → ℕ) (v : ℕ) (before : ℕ → ℕ → Bool) where
  pub made_none : Made w v before (set_of (λ _. true) v) []
  made_none =
      record {
        candidates = omega (arith, number_all (holds (set_of (λ _. true) v)) v (λ x l. holds_set_of (λ _. true) v x l));
        row = λ xs. full_same (Ahead w (below v)) before (standing v (holds (set_of (λ _. true) v))) (below v) xs all_stand;
      }
    where
      all_stand : (z : ℕ) → standing v (holds (set_of (λ _. true) v)) z ≡ below v z
      all_stand z = elim (cases_Bool (below v z)) [
        | inl e ↦ let m = holds_set_of (λ _. true) v z (below_in v z e) in rw (e, m)
        | inr e ↦ rw e
      ]

  -- who comes next is one of those that are left, of whom there is one less then
  pub next_left : (left : ℕ → Bool) (x : ℕ) → NextOf w v before left (Some x) → (x < v) × (left x ≡ true)
  next_left left x h = let (below_v, is_left) = and_parts _ _ h.is_left in (below_in v x below_v, is_left)

  pub some_left : (left x : ℕ) → NextOf w v before (holds left) (Some x) → 0 < number (holds left) v
  some_left left x h =
      let (xv, is_left) = next_left (holds left) x h in omega (arith, number_without (holds left) v x xv is_left)

  pub fewer_left : (left left' x : ℕ) → ((z : ℕ) → holds left' z ≡ all_but x (holds left) z) →
      NextOf w v before (holds left) (Some x) → number (holds left') v + 1 ≡ number (holds left) v
  fewer_left left left' x gone h =
      let (xv, is_left) = next_left (holds left) x h in
      let same = number_same (holds left') (all_but x (holds left)) v (λ z _. gone z) in
      omega (arith, same, number_without (holds left) v x xv is_left)

  pub made_more : (left left' x : ℕ) (places : List ℕ) → ((z : ℕ) → holds left' z ≡ all_but x (holds left) z) →
      NextOf w v before (holds left) (Some x) → Made w v before left places → Made w v before left' (places ++ x ∷ [])
  made_more left left' x places gone h m =
      record {
        candidates = omega (arith, length_push places x, fewer_left left left' x gone h, m.candidates);
        row = λ xs r.
            let rest = full_same (Ahead w (below v)) before _ (all_but x (standing v (holds left))) xs still r in
            rw (append_assoc places (x ∷ []) xs) (m.row (x ∷ xs) (h, rest));
      }
    where
      still : (z : ℕ) → standing v (holds left') z ≡ all_but x (standing v (holds left)) z
      still z = let e = gone z in grind (arith, nat_tests)

  -- where nobody is left, all places are made
  pub made_all : (left : ℕ) (places : List ℕ) → NextOf w v before (holds left) None → Made w v before left places →
      (length places ≡ v) × FullOrder (Ahead w (below v)) before (below v) places
  made_all left places none m = (
    omega (arith, m.candidates, number_nobody (holds left) v (λ x xv l. none x (and_from _ _ (in_below v x xv) l))),
    rw append-nil at (m.row [] none),
  )
