-- Why the row by the candidates in the middle is a strongest path, with no candidate twice.
use Rattle.std.proofs.Common.{◌≡◌, ℕ, zero, suc, ◌<◌, ◌≤◌, min, Bool, true, false, eqb, ◌⊎◌, List, [], ◌∷◌, ◌++◌, length, sym, refl, ap, ◌∙◌, inl, inr, arith}
use Rattle.std.specs.List.{AllByRecursion, IsDistinct, list_any}
use Rattle.std.proofs.ByRecursion.{All-append, All-weaker}
use Rattle.std.proofs.lemmas.Map.Steps.{length-le_from_distinct_below}
use Rattle.std.proofs.lemmas.Bool.{cases_lt, lt-ltb, le-ltb, eqb-true, ne_eqb, or_cases, both_ways}
use Rattle.paths.specs.Paths.{Within}
use Rattle.paths.specs.Middles.{via, bettered, path}
use Rattle.paths.specs.Rows.{Leads, weakest, ShowsStrongest}
use Rattle.paths.proofs.Via.{via_to, via_from, via_more, via_through, via_join, path_strength}

-- rows with no candidate twice: one after another, and how long they are
distinct_append :
    (xs ys : List ℕ) → IsDistinct eqb xs → IsDistinct eqb ys →
    AllByRecursion (λ z. AllByRecursion (λ u. eqb z u ≡ false) ys) xs → IsDistinct eqb (xs ++ ys)
unfolding IsDistinct
distinct_append [] ys a b d = b
distinct_append (x ∷ xs) ys a b d = (All-append (λ u. eqb x u ≡ false) xs ys a.0 d.0, distinct_append xs ys a.1 b d.1)

found_below : (n : ℕ) (xs : List ℕ) → AllByRecursion (λ z. z < n) xs → (q : ℕ) → list_any (eqb q) xs ≡ true → q < n
found_below n [] l q h = absurd (both_ways false refl h)
found_below n (x ∷ xs) l q h = elim (or_cases (eqb q x) (list_any (eqb q) xs) h)
    [ inl e ↦ rw (eqb-true q x e) l.0 | inr t ↦ found_below n xs l.1 q t ]

distinct_few : (n : ℕ) (xs : List ℕ) → IsDistinct eqb xs → AllByRecursion (λ z. z < n) xs → length xs ≤ n
distinct_few n xs d l = length-le_from_distinct_below xs n d (found_below n xs l)

module _ (w : ℕ → ℕ → ℕ) (here : ℕ → Bool) where
  -- one row after another
  leads_append : (x y z : ℕ) (ps qs : List ℕ) → Leads w here x ps y → Leads w here y qs z → Leads w here x (ps ++ qs) z
  leads_append x y z [] qs p q = rw p q
  leads_append x y z (a ∷ ps) qs p q = (p.0, p.1, leads_append a y z ps qs p.2 q)

  weakest_append :
      (x y p q : ℕ) (ps qs : List ℕ) → Leads w here x (p ∷ ps) y →
      weakest w x (p ∷ (ps ++ q ∷ qs)) ≡ min (weakest w x (p ∷ ps)) (weakest w y (q ∷ qs))
  weakest_append x y p q [] qs l = rw l.2
  weakest_append x y p q (a ∷ ps) qs l = let e = weakest_append p y a q ps qs l.2 in omega (arith, e)

  -- a candidate in the middle that bettered a pair, and one that did not
  record Betters (k x y : ℕ) : Type 0 where
    mid : here k ≡ true
    is : via w here (suc k) x y ≡ min (via w here k x k) (via w here k k y)
    less : via w here k x y < via w here (suc k) x y
    first : x ≡ k → ⊥
    last : k ≡ y → ⊥
    row : path w here (suc k) x y ≡ path w here k x k ++ path w here k k y

  record Keeps (k x y : ℕ) : Type 0 where
    is : via w here (suc k) x y ≡ via w here k x y
    row : path w here (suc k) x y ≡ path w here k x y

  betters_is :
      (k x y : ℕ) → via w here k x y < via w here (suc k) x y →
      (here k ≡ true) × (via w here (suc k) x y ≡ min (via w here k x k) (via w here k k y))
  unfolding via
  betters_is k x y h = grind arith

  betters : (k x y : ℕ) → via w here k x y < via w here (suc k) x y → Betters k x y
  unfolding path bettered
  betters k x y h =
      let o = betters_is k x y h in
      record {
        mid = o.0;
        is = o.1;
        less = h;
        first = λ e.
            let f : via w here k k y < via w here (suc k) k y = rw e at h in
            omega (arith, via_from w here k y);
        last = λ e.
            let f : via w here k x k < via w here (suc k) x k = rw (sym e) at h in
            omega (arith, via_to w here k x);
        row = rw (lt-ltb (via w here k x y) (via w here (suc k) x y) h);
      }

  keeps : (k x y : ℕ) → via w here (suc k) x y ≤ via w here k x y → Keeps k x y
  unfolding path bettered
  keeps k x y h =
      record {
        is = omega (arith, via_more w here k x y);
        row = rw (le-ltb (via w here k x y) (via w here (suc k) x y) h);
      }

  betters_or_keeps : (k x y : ℕ) → Betters k x y ⊎ Keeps k x y
  betters_or_keeps k x y = elim (cases_lt (via w here k x y) (via w here (suc k) x y))
      [ inl h ↦ inl (betters k x y h) | inr h ↦ inr (keeps k x y h) ]

  -- the row leads to y
  path_leads : (k x y : ℕ) → 0 < via w here k x y → here y ≡ true → Leads w here x (path w here k x y) y
  unfolding path via
  path_leads zero x y h e = (e, h, refl)
  path_leads (suc k) x y h e = elim (betters_or_keeps k x y) [
    | inl o ↦ rw o.row (leads_append x k y (path w here k x k) (path w here k k y)
        (path_leads k x k (omega (arith, o.is)) o.mid)
        (path_leads k k y (omega (arith, o.is)) e))
    | inr s ↦ rw s.row (path_leads k x y (omega (arith, s.is)) e)
  ]

  -- a candidate on the row before its last is below k, and reached, and reaching the last, as strongly
  record Mid (m k x y z : ℕ) : Type 0 where
    low : z < k
    among : here z ≡ true
    to : m ≤ via w here k x z
    from : m ≤ via w here k z y

  abbrev On : ℕ → ℕ → ℕ → ℕ → ℕ → Type 0
  On m k x y z = (z ≡ y) ⊎ Mid m k x y z

  later : (m k x y z : ℕ) → On m k x y z → On m (suc k) x y z
  later m k x y z (inl e) = inl e
  later m k x y z (inr i) = inr (record {
    low = omega (arith, i.low);
    among = i.among;
    to = omega (arith, i.to, via_more w here k x z);
    from = omega (arith, i.from, via_more w here k z y);
  })

  on_first :
      (m k x y z : ℕ) → here k ≡ true → m ≤ via w here k x k → m ≤ via w here k k y → On m k x k z →
      On m (suc k) x y z
  on_first m k x y z e a b (inl q) = inr (rw q (record {
    low = omega arith;
    among = e;
    to = omega (arith, via_more w here k x k);
    from = omega (arith, via_more w here k k y);
  }))
  on_first m k x y z e a b (inr i) = inr (record {
    low = omega (arith, i.low);
    among = i.among;
    to = omega (arith, i.to, via_more w here k x z);
    from = via_through w here m k z y e i.from b;
  })

  on_second : (m k x y z : ℕ) → here k ≡ true → m ≤ via w here k x k → On m k k y z → On m (suc k) x y z
  on_second m k x y z e a (inl q) = inl q
  on_second m k x y z e a (inr i) = inr (record {
    low = omega (arith, i.low);
    among = i.among;
    to = via_through w here m k x z e a i.to;
    from = omega (arith, i.from, via_more w here k z y);
  })

  path_on : (m k x y : ℕ) → m ≤ via w here k x y → AllByRecursion (On m k x y) (path w here k x y)
  unfolding path via
  path_on m zero x y h = (inl refl, tt)
  path_on m (suc k) x y h = elim (betters_or_keeps k x y) [
    | inl o ↦
        let a : m ≤ via w here k x k = omega (arith, o.is) in
        let b : m ≤ via w here k k y = omega (arith, o.is) in
        let first : ℕ → Type 0 = On m k x k in
        let second : ℕ → Type 0 = On m k k y in
        let both : ℕ → Type 0 = On m (suc k) x y in
        rw o.row (All-append both (path w here k x k) (path w here k k y)
        (All-weaker first both (λ z. on_first m k x y z o.mid a b) (path w here k x k) (path_on m k x k a))
        (All-weaker second both (λ z. on_second m k x y z o.mid a) (path w here k k y) (path_on m k k y b)))
    | inr s ↦ rw s.row (All-weaker (On m k x y) (On m (suc k) x y) (later m k x y) (path w here k x y)
        (path_on m k x y (omega (arith, s.is))))
  ]

  -- the two parts of a bettered row have no candidate in common: over it there would be a path that does not need k
  parts_apart :
      (k x y : ℕ) → (x ≡ y → ⊥) → Betters k x y →
      AllByRecursion (λ z. AllByRecursion (λ u. eqb z u ≡ false) (path w here k k y)) (x ∷ path w here k x k)
  parts_apart k x y ne o =
      let m : ℕ = via w here (suc k) x y in
      let p = path_on m k x k (omega (arith, o.is)) in
      let q = path_on m k k y (omega (arith, o.is)) in (
        All-weaker (On m k k y) (λ u. eqb x u ≡ false) (λ u j. ne_eqb x u (λ e. elim j [
          | inl f ↦ ne (e ∙ f)
          | inr j ↦ let l : m ≤ via w here k x y = rw (sym e) at j.from in omega (arith, o.less)
        ])) (path w here k k y) q,
        All-weaker (On m k x k) (λ z. AllByRecursion (λ u. eqb z u ≡ false) (path w here k k y)) (λ z i.
            All-weaker (On m k k y) (λ u. eqb z u ≡ false) (λ u j. ne_eqb z u (λ e. elim i [
              | inl g ↦ elim j [
                | inl f ↦ o.last (sym g ∙ (e ∙ f))
                | inr j ↦ omega (arith, j.low)
              ]
              | inr i ↦ elim j [
                | inl f ↦ let l : m ≤ via w here k x y = rw (e ∙ f) at i.to in omega (arith, o.less)
                | inr j ↦
                    let l : m ≤ via w here k z y = rw (sym e) at j.from in
                    omega (arith, o.less, via_join w here m k z x y i.low i.among i.to l)
              ]
            ])) (path w here k k y) q) (path w here k x k) p,
      )

  path_apart : (k x y : ℕ) → (x ≡ y → ⊥) → IsDistinct eqb (x ∷ path w here k x y)
  unfolding path IsDistinct
  path_apart zero x y ne = ((ne_eqb x y ne, tt), (tt, tt))
  path_apart (suc k) x y ne = elim (betters_or_keeps k x y) [
    | inl o ↦ rw o.row (distinct_append (x ∷ path w here k x k) (path w here k k y)
        (path_apart k x k o.first) (path_apart k k y o.last).1 (parts_apart k x y ne o))
    | inr s ↦ rw s.row (path_apart k x y ne)
  ]

  -- the weakest of its wins is the strength
  path_some : (k x y : ℕ) → (z : ℕ) × (zs : List ℕ) × (path w here k x y ≡ z ∷ zs)
  unfolding path
  path_some zero x y = (y, [], refl)
  path_some (suc k) x y = elim (betters_or_keeps k x y) [
    | inl o ↦ let (z, zs, e) = path_some k x k in
        (z, zs ++ path w here k k y, o.row ∙ ap (λ (l : List ℕ). l ++ path w here k k y) e)
    | inr s ↦ let (z, zs, e) = path_some k x y in (z, zs, s.row ∙ e)
  ]

  path_weak : (k x y : ℕ) → weakest w x (path w here k x y) ≡ via w here k x y
  unfolding path via
  path_weak zero x y = refl
  path_weak (suc k) x y = elim (betters_or_keeps k x y) [
    | inl o ↦
        let (p, ps, e) = path_some k x k in
        let (q, qs, f) = path_some k k y in
        let l = path_leads k x k (omega (arith, o.is, o.less)) o.mid in
        let first : List ℕ = path w here k x k in
        let second : List ℕ = path w here k k y in
        let g : weakest w x (first ++ second) ≡ min (weakest w x first) (weakest w k second) =
        rw (e, f) (weakest_append x k p q ps qs (rw e at l)) in
        rw o.row (omega (arith, g, path_weak k x k, path_weak k k y, o.is))
    | inr s ↦ rw s.row (path_weak k x y ∙ sym s.is)
  ]

-- where there is a path between two candidates, x and what follows it by path is a strongest one,
-- with no candidate twice
pub path_shown :
    (w : ℕ → ℕ → ℕ) (here : ℕ → Bool) (n x y : ℕ) → Within here n → here x ≡ true → here y ≡ true → (x ≡ y → ⊥) →
    0 < via w here n x y → ShowsStrongest w here n x y (via w here n x y) (x ∷ path w here n x y)
path_shown w here n x y within hx hy ne pos =
    let s : ℕ = via w here n x y in
    let apart = path_apart w here n x y ne in
    record {
      shows = record {
        rest = path w here n x y;
        first = refl;
        stands = hx;
        leads = path_leads w here n x y pos hy;
        weak = path_weak w here n x y;
        some = pos;
      };
      apart = apart;
      short = distinct_few n (x ∷ path w here n x y) apart (
        within x hx,
        All-weaker (On w here s n x y) (λ z. z < n) (λ z i. elim i [ inl e ↦ rw e (within y hy) | inr i ↦ i.low ])
            (path w here n x y) (path_on w here s n x y (omega arith)),
      );
      greatest = λ m p. path_strength w here n within p;
    }
