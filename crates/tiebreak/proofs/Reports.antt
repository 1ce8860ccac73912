-- What the lines of a report say.
use Rattle.std.proofs.Common.{◌≡◌, ◌≢◌, ◌↔◌, ℕ, ◌^◌, ◌<◌, ◌≤◌, Bool, true, List, [], ◌∷◌, ◌++◌, length, get_or, codes, refl, ap, sym, subst, ◌∙◌, inl, inr, arith}
use Rattle.std.specs.List.{All, AllByRecursion, Contains, flat_map}
use Rattle.std.specs.Str.Lines.{lines}
use Rattle.std.proofs.lemmas.Bool.{cases_lt, lt-ltb, le-ltb}
use Rattle.std.proofs.lemmas.List.Elements.{All-append, Contains-get_or, Contains-append_left, Contains-append_right, Contains-append_cases, Contains-push, Contains-push_cases, recursion_from_All, All-from_recursion}
use Rattle.std.proofs.lemmas.Grind.{get_or_default_zero}
use Rattle.ballots.specs.Format.{most_candidates}
use Rattle.ballots.specs.Sets.{holds, members, room}
use Rattle.ballots.specs.Strikes.{new_number}
use Rattle.ballots.proofs.Sets.{holds_past}
use Rattle.ballots.proofs.Numbering.{member_at, member_at_number, new_number_lt, members_below}
use Rattle.pairwise.specs.Pairs.{pairs}
use Rattle.pairwise.proofs.OrderedPairs.{pairs_each, pairs_at}
use Rattle.paths.specs.Paths.{below, IsPair, Path, step, on, Strongest}
use Rattle.pairwise.specs.Grids.{number_for}
use Rattle.paths.specs.Strengths.{GridOf}
use Rattle.tiebreak.specs.declared.outcome.Outcome.{Outcome}
use Rattle.paths.proofs.Walks.{below_in, starts, ends, weaken}
use Rattle.best.specs.Best.{Ahead, Best}
use Rattle.best.specs.Comparisons.{BestSet}
use Rattle.best.specs.Order.{row_of, FullOrder}
use Rattle.tiebreak.specs.Reports.{numbers_text, best_line, ahead_line, ahead_lines, order_line, lines_of, report_of, IsAheadBy, IsAheadLine, Says}
use Rattle.tiebreak.proofs.Lines.{Plain, lines_of_text, line_plain, ahead_line_injective}

contains_none : {A : Type 0} (x : A) → Contains [] x → ⊥
contains_none x (k, l, e) = absurd (let z : ⊥ = omega arith in z)

contains_one : {A : Type 0} (x y : A) → Contains (x ∷ []) y → x ≡ y
contains_one x y c = elim (Contains-push_cases [] x y c) [ inl n ↦ absurd (contains_none y n) | inr e ↦ e ]

-- what is made of the elements of a list, one behind the other
module _ {A B : Type 0} (f : A → List B) where
  made_of_each : (xs : List A) (all : List B) → ((l : B) → Contains (flat_map f xs) l → Contains all l) →
      AllByRecursion (λ x. (l : B) → Contains (f x) l → Contains all l) xs
  made_of_each [] all k = tt
  made_of_each (x ∷ xs) all k = (
    λ l c. k l (Contains-append_left (f x) (flat_map f xs) l c),
    made_of_each xs all (λ l c. k l (Contains-append_right (f x) (flat_map f xs) l c)),
  )

  made_all : (P : B → Type 0) (xs : List A) → AllByRecursion (λ x. All P (f x)) xs → All P (flat_map f xs)
  made_all P [] h = λ i d l. absurd (omega arith)
  made_all P (x ∷ xs) h = All-append P (f x) (flat_map f xs) h.0 (made_all P xs h.1)

  made_of_one :
      (P : A → Type 0) (xs : List A) (l : B) → AllByRecursion P xs → Contains (flat_map f xs) l →
      (x : A) × P x × Contains (f x) l
  made_of_one P [] l h c = absurd (contains_none l c)
  made_of_one P (x ∷ xs) l h c = elim (Contains-append_cases (f x) (flat_map f xs) l c) [
    | inl here ↦ (x, h.0, here)
    | inr behind ↦ made_of_one P xs l h.1 behind
  ]

-- there is one strength of the strongest path
module _ (w : ℕ → ℕ → ℕ) (n x y : ℕ) where
  strongest_le : (s t : ℕ) → Strongest w n x y s → Strongest w n x y t → s ≤ t
  strongest_le s t a b = elim (cases_lt 0 s) [ inl l ↦ b.greatest s (a.shown l) | inr l ↦ omega arith ]

  strongest_one : (s t : ℕ) → Strongest w n x y s → Strongest w n x y t → s ≡ t
  strongest_one s t a b = omega (arith, strongest_le s t a b, strongest_le t s b a)

-- whoever is ahead has the stronger path
module _ (w : ℕ → ℕ → ℕ) (n x y s t : ℕ) (there : Strongest w n x y s) (back : Strongest w n y x t) where
  ahead_stronger : Ahead w (below n) x y → t < s
  ahead_stronger (m, some, path, none) = elim (cases_lt t m) [
    | inl l ↦ omega (arith, there.greatest m path)
    | inr l ↦ absurd (none (weaken l (back.shown (omega arith))))
  ]

  stronger_ahead : t < s → Ahead w (below n) x y
  stronger_ahead l = (s, omega arith, there.shown (omega arith), λ path. let h = back.greatest s path in absurd (omega (arith, h)))

-- members of a set, as they are listed
module _ (keep : ℕ → Bool) (n : ℕ) where
  listed_is : (x : ℕ) → Contains (members keep n) x → (x < n) × (keep x ≡ true)
  listed_is x (i, l, e) =
      let (low, in_set, _) = member_at keep n i l in
      let same : get_or (members keep n) i 0 ≡ x = sym (get_or_default_zero (members keep n) i x l) ∙ e in
      (omega (arith, same, low), ap keep (sym same) ∙ in_set)

  is_listed : (x : ℕ) → x < n → keep x ≡ true → Contains (members keep n) x
  is_listed x l h =
      let low : new_number keep x < length (members keep n) = new_number_lt keep x n l h in
      (new_number keep x, low, get_or_default_zero (members keep n) (new_number keep x) x low ∙ member_at_number keep x n l h)

-- whoever is ahead stands, and so does the other
ahead_pair : (w : ℕ → ℕ → ℕ) (n x y : ℕ) → Ahead w (below n) x y → IsPair n x y
ahead_pair w n x y (m, some, path, none) = record {
  first = below_in n x (starts path);
  second = below_in n y (ends path);
  apart = λ e. none (subst (λ z. Path w (below n) m z x) e (subst (λ z. Path w (below n) m x z) (sym e) path));
}

-- no path is stronger than every win
path_small : {w : ℕ → ℕ → ℕ} {here : ℕ → Bool} {m x y : ℕ} (k : ℕ) → ((a b : ℕ) → w a b < k) → Path w here m x y → m < k
path_small {w} k small (step {x} {y} hx hy l) = omega (arith, small x y)
path_small {w} k small (on {x} {y} {z} p hz l) = omega (arith, small y z)

-- what the lines say of v candidates with the wins w, of which the numbers s are the strengths
module _
    (w : ℕ → ℕ → ℕ) (o : Outcome) (grid : GridOf w o.strengths.candidates o.strengths) (small : (a b : ℕ) → w a b < 2 ^ 64)
  where
    abbrev v : ℕ
    v = o.strengths.candidates

    abbrev s : ℕ → ℕ → ℕ
    s = number_for o.strengths

    strongest : (x y : ℕ) → IsPair v x y → Strongest w v x y (s x y)
    strongest x y p = (grid.each x y).strongest p

    turned : {x y : ℕ} → IsPair v x y → IsPair v y x
    turned p = record { first = p.second; second = p.first; apart = λ e. p.apart (sym e) }

    -- the line of a pair
    ahead_there : (x y : ℕ) → s y x < s x y → Contains (ahead_lines s (x, y)) (ahead_line x y (s x y) (s y x))
    ahead_there x y l = rw (lt-ltb (s y x) (s x y) l) (Contains-push [] (ahead_line x y (s x y) (s y x)))

    ahead_is :
        (x y : ℕ) (line : List ℕ) → Contains (ahead_lines s (x, y)) line →
        (s y x < s x y) × (line ≡ ahead_line x y (s x y) (s y x))
    ahead_is x y line c = elim (cases_lt (s y x) (s x y)) [
      | inl l ↦ (l, sym (contains_one (ahead_line x y (s x y) (s y x)) line (rw (lt-ltb (s y x) (s x y) l) at c)))
      | inr l ↦ absurd (contains_none line (rw (le-ltb (s y x) (s x y) l) at c))
    ]

    abbrev between : List (List ℕ)
    between = flat_map (ahead_lines s) (pairs v)

    -- each tells of a pair
    between_tells : All IsAheadLine between
    between_tells = made_all (ahead_lines s) IsAheadLine (pairs v) (pairs_each (λ p. All IsAheadLine (ahead_lines s p)) v
        (λ x y _ _ _ i d l.
        let (_, e) = ahead_is x y (get_or (ahead_lines s (x, y)) i d) (Contains-get_or (ahead_lines s (x, y)) i d l) in
        (x, y, s x y, s y x, e)))

    -- the line of a pair stands there exactly if the first is ahead of the second
    line_stands : (x y there back : ℕ) → IsAheadBy w v x y there back → Contains between (ahead_line x y there back)
    line_stands x y there back h =
        let p : IsPair v x y = ahead_pair w v x y h.ahead in
        let l : s y x < s x y = ahead_stronger w v x y (s x y) (s y x) (strongest x y p) (strongest y x (turned p)) h.ahead in
        let each = pairs_at _ v (made_of_each (ahead_lines s) (pairs v) between (λ line c. c)) x y p.first p.second p.apart in
        let same = strongest_one w v x y (s x y) there (strongest x y p) h.strength_there in
        let same_back = strongest_one w v y x (s y x) back (strongest y x (turned p)) h.strength_back in
        subst (λ t. Contains between (ahead_line x y t back)) same
        (subst (λ t. Contains between (ahead_line x y (s x y) t)) same_back
        (each (ahead_line x y (s x y) (s y x)) (ahead_there x y l)))

    strength_small : (x y : ℕ) → IsPair v x y → s x y < 2 ^ 64
    strength_small x y p = elim (cases_lt 0 (s x y)) [
      | inl l ↦ path_small (2 ^ 64) small ((strongest x y p).shown l)
      | inr l ↦ omega arith
    ]

    is_ahead :
        (a b x y there back : ℕ) → x ≡ a → y ≡ b → there ≡ s a b → back ≡ s b a → IsPair v a b → s b a < s a b →
        IsAheadBy w v x y there back
    is_ahead a b x y there back ex ey et eb pair l = rw (ex, ey, et, eb) record {
      ahead = stronger_ahead w v a b (s a b) (s b a) (strongest a b pair) (strongest b a (turned pair)) l;
      strength_there = strongest a b pair;
      strength_back = strongest b a (turned pair);
    }

    line_says :
        (x y there back : ℕ) → AllByRecursion (λ n. n < 2 ^ 64) (x ∷ y ∷ there ∷ back ∷ []) →
        Contains between (ahead_line x y there back) → IsAheadBy w v x y there back
    line_says x y there back fits c =
        let few : v ≤ most_candidates = o.strengths.few in
        let all : AllByRecursion (λ p. IsPair v p.0 p.1) (pairs v) =
        pairs_each (λ p. IsPair v p.0 p.1) v (λ x y xv yv ne. record { first = xv; second = yv; apart = ne }) in
        let ((a, b), pair, here) =
        made_of_one (ahead_lines s) (λ p. IsPair v p.0 p.1) (pairs v) (ahead_line x y there back) all c in
        let (l, e) = ahead_is a b (ahead_line x y there back) here in
        let back_small : AllByRecursion (λ n. n < 2 ^ 64) (s b a ∷ []) = (strength_small b a (turned pair), tt) in
        let ab : AllByRecursion (λ n. n < 2 ^ 64) (a ∷ b ∷ s a b ∷ s b a ∷ []) =
        (omega (arith, pair.first), (omega (arith, pair.second), (strength_small a b pair, back_small))) in
        let (ex, ey, et, eb) = ahead_line_injective x y there back a b (s a b) (s b a) fits ab e in
        is_ahead a b x y there back ex ey et eb pair l

    -- every line is plain
    module _ (ballots : o.ballots < 2 ^ 64) (places : All (λ x. x < 2 ^ 64) (row_of o.order)) where
      few : v ≤ most_candidates
      few = o.strengths.few

      best_plain : Plain (best_line o.ballots (members (holds o.best) room))
      best_plain =
          let best : List ℕ = members (holds o.best) room in
          let best_small : AllByRecursion (λ x. x < 2 ^ 64) best =
          recursion_from_All (λ x. x < 2 ^ 64) best (λ i d l. let h = members_below (holds o.best) room i d l in omega (arith, h)) in
          All-append (λ b. 32 ≤ b) (codes "papers" ++ numbers_text (o.ballots ∷ [])) (codes " best" ++ numbers_text best)
          (line_plain (codes "papers") (o.ballots ∷ []) refl (ballots, tt)) (line_plain (codes " best") best refl best_small)

      between_plain : All Plain between
      between_plain = made_all (ahead_lines s) Plain (pairs v) (pairs_each (λ p. All Plain (ahead_lines s p)) v
          (λ x y xv yv ne i d l.
          let p : IsPair v x y = record { first = xv; second = yv; apart = ne } in
          let (_, e) = ahead_is x y (get_or (ahead_lines s (x, y)) i d) (Contains-get_or (ahead_lines s (x, y)) i d l) in
          subst Plain (sym e) (line_plain (codes "ahead") (x ∷ y ∷ s x y ∷ s y x ∷ []) refl
          (omega (arith, xv), (omega (arith, yv), (strength_small x y p, (strength_small y x (turned p), tt)))))))

      order_plain : Plain (order_line (row_of o.order))
      order_plain =
          line_plain (codes "order") (row_of o.order) refl
          (recursion_from_All (λ x. x < 2 ^ 64) (row_of o.order) places)

      one_plain : (line : List ℕ) → Plain line → All Plain (line ∷ [])
      one_plain line h = All-from_recursion Plain (line ∷ []) (h, tt)

      abbrev first : List ℕ
      first = best_line o.ballots (members (holds o.best) room)

      abbrev last : List ℕ
      last = order_line (row_of o.order)

      pub lines_are : lines (report_of o) ≡ lines_of o
      lines_are =
          let others : All Plain (between ++ last ∷ []) =
          All-append Plain between (last ∷ []) between_plain (one_plain last order_plain) in
          let every : All Plain (lines_of o) = All-append Plain (first ∷ []) (between ++ last ∷ []) (one_plain first best_plain) others in
          lines_of_text (lines_of o) (recursion_from_All Plain (lines_of o) every)

      stands : (line : List ℕ) → Contains (lines_of o) line → Contains (lines (report_of o)) line
      stands line c = subst (λ ls. Contains ls line) (sym lines_are) c

      -- a line that tells of a pair is one of those between
      other_word : (line x : List ℕ) → get_or line 0 0 ≢ 97 → line ≡ codes "ahead" ++ x → ⊥
      other_word line x ne e = ne (ap (λ (l : List ℕ). get_or l 0 0) e)

      ahead_between :
          (x y there back : ℕ) → Contains (lines (report_of o)) (ahead_line x y there back) →
          Contains between (ahead_line x y there back)
      ahead_between x y there back c =
          let line : List ℕ = ahead_line x y there back in
          let told : List ℕ = numbers_text (x ∷ y ∷ there ∷ back ∷ []) in
          let c : Contains (lines_of o) line = subst (λ ls. Contains ls line) lines_are c in
          elim (Contains-append_cases (first ∷ []) (between ++ last ∷ []) line c) [
            | inl f ↦ absurd (other_word first told (λ e. omega (arith, e)) (contains_one first line f))
            | inr more ↦ elim (Contains-push_cases between last line more) [
              | inl b ↦ b
              | inr e ↦ absurd (other_word last told (λ e. omega (arith, e)) e)
            ]
          ]

      best_are : BestSet w v o.best → (x : ℕ) → Contains (members (holds o.best) room) x ↔ Best w (below v) x
      best_are best x = (
        λ c. let (low, there) = listed_is (holds o.best) room x c in elim (cases_lt x v) [
          | inl xv ↦ (best.each x xv).0 there
          | inr past ↦ let gone = holds_past o.best v x best.within past in absurd (let z : ⊥ = cc in z)
        ],
        λ b. let xv : x < v = below_in v x b.0 in is_listed (holds o.best) room x (omega (arith, few)) ((best.each x xv).1 b),
      )

      pub said :
          (before : ℕ → ℕ → Bool) → BestSet w v o.best →
          FullOrder (Ahead w (below v)) before (below v) (row_of o.order) → Says o.ballots w v before (report_of o)
      said before best order = record {
        best_listed = members (holds o.best) room;
        between = between;
        order_listed = row_of o.order;
        all = lines_are;
        pairs = between_tells;
        best = best_are best;
        ahead = λ x y there back fits.
            let line : List ℕ = ahead_line x y there back in
            let numbers : List ℕ = x ∷ y ∷ there ∷ back ∷ [] in
            let small : AllByRecursion (λ n. n < 2 ^ 64) numbers = recursion_from_All (λ n. n < 2 ^ 64) numbers fits in (
              λ c. line_says x y there back small (ahead_between x y there back c),
              λ h. stands line (Contains-append_right (first ∷ []) (between ++ last ∷ []) line
                  (Contains-append_left between (last ∷ []) line (line_stands x y there back h))),
            );
        order = order;
      }
