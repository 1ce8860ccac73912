-- The tests of a path and of a cut say what they should.
use Rattle.std.proofs.Common.{◌≡◌, ℕ, ◌^◌, ◌<◌, ◌≤◌, min, Bool, true, false, not, ◌||◌, eqb, ltb, leb, ◌≢◌, List, [], ◌∷◌, sym, refl, ap, ◌∙◌, inl, inr, arith}
use Rattle.std.specs.List.{AllByRecursion, list_all}
use Rattle.std.proofs.lemmas.Bool.{cases_Bool, cases_eq, and_parts, and_from, cases_lt, eqb-true, eq-eqb, ltb-true, lt-ltb, le-ltb, not-true, not_from_false, false≢true}
use Rattle.std.proofs.lemmas.Bool.Decides.{nat_tests}
use Rattle.ballots.specs.Format.{most_candidates}
use Rattle.ballots.specs.Sets.{holds, set_of, every, room}
use Rattle.ballots.proofs.Everybody.{every_at, every_all}
use Rattle.ballots.proofs.Masks.{everybody}
use Rattle.pairwise.specs.declared.pairwise.Pairwise.{Pairwise}
use Rattle.pairwise.specs.Counts.{win_by}
use Rattle.pairwise.specs.Grids.{cell, within}
use Rattle.pairwise.specs.Pairs.{pairs}
use Rattle.pairwise.specs.Pairwise.{win_in}
use Rattle.pairwise.proofs.OrderedPairs.{pairs_each, pairs_at}
use Rattle.paths.specs.Paths.{below, IsPair, Strongest}
use Rattle.paths.specs.Middles.{strength}
use Rattle.paths.specs.Rows.{Leads, weakest, Shows}
use Rattle.paths.specs.Cuts.{Cut}
use Rattle.paths.proofs.Walks.{in_below}
use Rattle.paths.proofs.Crossings.{path_and_cut}
use Rattle.paths.proofs.Grids.{is_strength}
use Rattle.certificate.specs.Layout.{Entry}
use Rattle.certificate.specs.Judge.{weakest_to, is_path, crosses, is_cut}
use Rattle.certificate.specs.Truth.{ShowsStrength, Supports}

-- no candidate but those below v
pub within_all : (set v : ℕ) → v ≤ most_candidates → leb set (set_of (λ _. true) (min v room)) ≡ ltb set (2 ^ v)
within_all set v few = let e : min v room ≡ v = omega arith in rw e (let k = everybody v in grind (arith, nat_tests))

-- a test that every element passes
list_all_each : {X : Type 0} (f : X → Bool) (xs : List X) → list_all f xs ≡ true → AllByRecursion (λ x. f x ≡ true) xs
list_all_each f [] h = tt
list_all_each f (x ∷ xs) h = let p = and_parts (f x) _ h in (p.0, list_all_each f xs p.1)

each_list_all : {X : Type 0} (f : X → Bool) (xs : List X) → AllByRecursion (λ x. f x ≡ true) xs → list_all f xs ≡ true
each_list_all f [] h = refl
each_list_all f (x ∷ xs) h = and_from (f x) _ h.0 (each_list_all f xs h.1)

-- where one test passes, so does another
implied : (p q : Bool) → (not p || q) ≡ true → p ≡ true → q ≡ true
implied true q h _ = h
implied false q h e = absurd (false≢true e)

implies : (p q : Bool) → (p ≡ true → q ≡ true) → (not p || q) ≡ true
implies true q h = h refl
implies false q h = refl

-- nobody in the set wins against somebody outside with more than s: asked of each member, or of all pairs
module _ (w : ℕ → ℕ → ℕ) (s set v : ℕ) where
  -- a is no member, or wins so against no candidate
  abbrev pub is_calm : ℕ → Bool
  is_calm a = not (holds set a) || every (λ b. not (crosses w s set a b)) v

  abbrev calm_pair : ℕ × ℕ → Bool
  calm_pair ab = not (crosses w s set ab.0 ab.1)

  calm_at : every is_calm v ≡ true → (a b : ℕ) → a < v → b < v → calm_pair (a, b) ≡ true
  calm_at h a b la lb = elim (cases_Bool (holds set a)) [
    | inl ha ↦ every_at (λ b. not (crosses w s set a b)) v b (implied (holds set a) _ (every_at is_calm v a h la) ha) lb
    | inr ha ↦ rw ha
  ]

  calm_all : list_all calm_pair (pairs v) ≡ true → every is_calm v ≡ true
  calm_all h =
      let each = list_all_each calm_pair (pairs v) h in
      every_all is_calm v (λ a la.
      implies (holds set a) _ (λ ha. every_all (λ b. not (crosses w s set a b)) v (λ b lb. elim (cases_eq a b) [
        | inl e ↦ let hb : holds set b ≡ true = rw e at ha in rw (ha, hb)
        | inr ne ↦ pairs_at (λ ab. calm_pair ab ≡ true) v each a b la lb ne
      ])))

  pub calm_pairs : every is_calm v ≡ list_all calm_pair (pairs v)
  calm_pairs = elim (cases_Bool (every is_calm v)) [
    | inl e ↦
        e
        ∙ sym (each_list_all calm_pair (pairs v) (pairs_each (λ ab. calm_pair ab ≡ true) v (λ a b la lb _. calm_at e a b la lb)))
    | inr e ↦ elim (cases_Bool (list_all calm_pair (pairs v))) [
      | inl f ↦ absurd (false≢true (sym e ∙ calm_all f))
      | inr f ↦ e ∙ sym f
    ]
  ]

-- wins of which nobody has one against whoever is no candidate
module _ (w : ℕ → ℕ → ℕ) (v : ℕ) (none : (a z : ℕ) → v ≤ z → w a z ≡ 0) where
  won : (x z : ℕ) → 0 < w x z → below v z ≡ true
  won x z h = elim (cases_lt z v) [ inl l ↦ in_below v z l | inr l ↦ absurd (let e = none x z l in let f : ⊥ = omega arith in f) ]

  -- a row with some weakest win leads on, and one that leads on has its weakest win
  leads_on : (x y : ℕ) (zs : List ℕ) → 0 < weakest_to w y x zs → Leads w (below v) x zs y × (weakest w x zs ≡ weakest_to w y x zs)
  leads_on x y [] h = absurd (let f : ⊥ = omega arith in f)
  leads_on x y (z ∷ []) h =
      let e : z ≡ y = grind (arith, nat_tests) in
      let k : 0 < w x z = grind (arith, nat_tests) in
      ((won x z k, k, e), grind (arith, nat_tests))
  leads_on x y (z ∷ (a ∷ zs)) h =
      let k : 0 < w x z = omega arith in
      let r = leads_on z y (a ∷ zs) (omega arith) in
      ((won x z k, k, r.0), rw r.1)

  weakest_on : (x y z : ℕ) (zs : List ℕ) → Leads w (below v) x (z ∷ zs) y → (weakest_to w y x (z ∷ zs) ≡ weakest w x (z ∷ zs)) × (0 < weakest w x (z ∷ zs))
  weakest_on x y z [] h = (grind (arith, nat_tests), h.1)
  weakest_on x y z (a ∷ zs) h = let r = weakest_on z y a zs h.2 in (rw r.0, omega (arith, h.1, r.1))

  module _ (x y s : ℕ) where
    pub path_true : (row : List ℕ) → x < v → is_path w x y s row ≡ true → ShowsStrength w v x y s row
    unfolding is_path
    path_true [] xv h = inl (refl, eqb-true s 0 h)
    path_true (z ∷ zs) xv h =
        let p = and_parts (eqb z x) _ h in
        let q = and_parts (eqb (weakest_to w y x zs) s) _ p.1 in
        let k : weakest_to w y x zs ≡ s = eqb-true _ s q.0 in
        let some : 0 < s = ltb-true 0 s q.1 in
        let r = leads_on x y zs (omega arith) in
        inr (record { rest = zs; first = ap (λ a. a ∷ zs) (eqb-true z x p.0); stands = in_below v x xv; leads = r.0; weak = omega (arith, r.1); some = some })

    shown_path : (zs : List ℕ) → x ≢ y → Leads w (below v) x zs y → weakest w x zs ≡ s → 0 < s → is_path w x y s (x ∷ zs) ≡ true
    unfolding is_path
    shown_path [] ne l k some = absurd (ne l)
    shown_path (z ∷ zs) ne l k some =
        and_from (eqb x x) _ (eq-eqb x x refl)
        (and_from (eqb (weakest_to w y x (z ∷ zs)) s) _ (eq-eqb _ s ((weakest_on x y z zs l).0 ∙ k)) (lt-ltb 0 s some))

    pub true_path : (row : List ℕ) → x ≢ y → ShowsStrength w v x y s row → is_path w x y s row ≡ true
    unfolding is_path
    true_path row ne (inl (e, z)) = rw e (eq-eqb s 0 z)
    true_path row ne (inr p) = rw p.first (shown_path p.rest ne p.leads p.weak p.some)

    -- the set parts the pair
    pub cut_true : (set : ℕ) → is_cut w v x y s set ≡ true → Cut w v x y s set
    unfolding is_cut
    cut_true set h =
        let p = and_parts (ltb set (2 ^ v)) _ h in
        let q = and_parts (holds set x) _ p.1 in
        let r = and_parts (not (holds set y)) _ q.1 in
        let each = list_all_each _ (pairs v) r.1 in
        record {
          has = q.0;
          lacks = not-true (holds set y) r.0;
          bounded = ltb-true set (2 ^ v) p.0;
          across = λ a b la lb ha hb.
              let k = pairs_at (λ ab. not (crosses w s set ab.0 ab.1) ≡ true) v each a b la lb (λ e. false≢true (sym hb ∙ (ap (holds set) (sym e) ∙ ha))) in
              grind (arith, nat_tests);
        }

    pub true_cut : (set : ℕ) → Cut w v x y s set → is_cut w v x y s set ≡ true
    unfolding is_cut
    true_cut set c =
        and_from (ltb set (2 ^ v)) _ (lt-ltb set (2 ^ v) c.bounded) (and_from (holds set x) _ c.has
        (and_from (not (holds set y)) _ (not_from_false (holds set y) c.lacks)
        (each_list_all _ (pairs v) (pairs_each (λ ab. not (crosses w s set ab.0 ab.1) ≡ true) v (λ a b la lb ne. calm a b la lb)))))
      where
        calm : (a b : ℕ) → a < v → b < v → not (crosses w s set a b) ≡ true
        calm a b la lb = elim (cases_Bool (holds set a)) [
          | inl ha ↦ elim (cases_Bool (holds set b)) [
            | inl hb ↦ rw (ha, hb)
            | inr hb ↦ rw (ha, hb, le-ltb s (w a b) (c.across a b la lb ha hb))
          ]
          | inr ha ↦ rw ha
        ]

  -- an entry whose tests pass is as said, and one that is as said passes them
  pub tests_support : (x y : ℕ) (e : Entry) → x < v → is_path w x y e.strength e.path ≡ true → is_cut w v x y e.strength e.cut ≡ true → Supports w v x y e
  tests_support x y e xv p c = record { path = path_true x y e.strength e.path xv p; cut = cut_true x y e.strength e.cut c }

  pub support_tests : (x y : ℕ) (e : Entry) → x ≢ y → Supports w v x y e →
      (is_path w x y e.strength e.path ≡ true) × (is_cut w v x y e.strength e.cut ≡ true)
  support_tests x y e ne p = (true_path x y e.strength e.path ne p.path, true_cut x y e.strength e.cut p.cut)

-- an entry that is as said has the strength of the strongest path
pub supports_strongest : (w : ℕ → ℕ → ℕ) (v x y : ℕ) (e : Entry) → Supports w v x y e → Strongest w v x y e.strength
supports_strongest w v x y e p = path_and_cut w v x y e.strength e.cut e.path (some p.path) p.cut
  where
    some : ShowsStrength w v x y e.strength e.path → 0 < e.strength → Shows w (below v) x y e.strength e.path
    some (inl (none, z)) h = absurd (let f : ⊥ = omega arith in f)
    some (inr shows) h = shows

-- by counts that are 0 where there is no pair, nobody has a win against whoever is no candidate
pub beyond : (v : ℕ) (f : ℕ → ℕ → ℕ) (a z : ℕ) → v ≤ z → win_by (within v f) a z ≡ 0
beyond v f a z h = let e = le-ltb z v h in grind (arith, nat_tests)

-- so what the checker reads for a pair is its strength
pub tests_strength : (t : Pairwise) (x y s set : ℕ) (row : List ℕ) → IsPair t.counts.candidates x y →
    is_path (win_in t) x y s row ≡ true → is_cut (win_in t) t.counts.candidates x y s set ≡ true →
    s ≡ strength (win_in t) t.counts.candidates x y
tests_strength t x y s set row two p c =
    let e : Entry = record { strength = s; path = row; cut = set } in
    let said = tests_support (win_in t) t.counts.candidates (beyond t.counts.candidates (cell t.counts.cells)) x y e two.first p c in
    is_strength (win_in t) t.counts.candidates
    (record { strongest = λ _. supports_strongest (win_in t) t.counts.candidates x y e said; none = λ apart. absurd (apart two) })
