-- The counts, one ballot after the other.
use Rattle.std.proofs.Common.{◌≡◌, ℕ, suc, ◌+◌, ◌<◌, ◌≤◌, true, false, cond, ltb, List, [], ◌∷◌, ◌++◌, map, length, get_or, sym, refl, ap, ◌∙◌, inl, inr, arith}
use Rattle.std.specs.List.{range_with_len}
use Rattle.std.proofs.lemmas.List.FromFn.{map-range_with_len_more, length-map-range_with_len}
use Rattle.std.proofs.lemmas.List.{get_or-map}
use Rattle.std.proofs.lemmas.Bool.{cases_lt, le-ltb}
use Rattle.std.proofs.lemmas.Bool.Decides.{nat_tests}
use Rattle.ballots.specs.Format.{most_candidates, candidates_in, ballot_bytes}
use Rattle.ballots.specs.Ballots.{ranks_of, rank_of, unranked, over}
use Rattle.pairwise.specs.Counts.{count}
use Rattle.pairwise.specs.Grids.{within}
use Rattle.pairwise.specs.Pairwise.{preference}
use Rattle.pairwise.proofs.Cells.{within-below, within_le, within-add}

-- what a ballot says of a pair, as a number
abbrev pub says : List ℕ → ℕ → ℕ → ℕ
says p x y = cond (over unranked p x y) 1 0

says_le : (p : List ℕ) (x y : ℕ) → says p x y ≤ 1
says_le p x y = elim (over unranked p x y) as (λ b. cond b 1 0 ≤ 1) [ true ↦ omega arith | false ↦ omega arith ]

-- the preference of a ballot is one at most
pub preference_le : (p : List ℕ) (x y : ℕ) → preference p x y ≤ 1
preference_le p x y = within_le (length p) x y 1 (says (ranks_of p)) (says_le (ranks_of p) x y)

-- between two of its candidates it goes by their ranks
preference_by_rank : (p : List ℕ) (x y : ℕ) → x < length p → y < length p →
    preference p x y ≡ cond (ltb (rank_of (get_or p x 0)) (rank_of (get_or p y 0))) 1 0
unfolding over
preference_by_rank p x y h k =
    within-below (length p) x y (says (ranks_of p)) h k
    ∙ rw (get_or-map rank_of p x 0 unranked h, get_or-map rank_of p y 0 unranked k)

preference_none : (p : List ℕ) (x y : ℕ) → length p ≤ y → preference p x y ≡ 0
preference_none p x y h = grind (arith, nat_tests)

one_less : (a b c d : ℕ) → a + 1 ≡ c → b + 1 ≡ d → ltb a b ≡ ltb c d
one_less a b c d e f = grind (arith, nat_tests)

-- the preference of a ballot, by keys that are one less than its ranks and 0 behind its last candidate
pub preference_by_key :
    (p ks : List ℕ) (x y : ℕ) → ((k : ℕ) → k < length p → get_or ks k 0 + 1 ≡ rank_of (get_or p k 0)) →
    ((k : ℕ) → length p ≤ k → get_or ks k 0 ≡ 0) → x < length p → cond (ltb (get_or ks x 0) (get_or ks y 0)) 1 0 ≡ preference p x y
preference_by_key p ks x y ranked past h =
    elim (cases_lt y (length p)) [
      | inl k ↦ rw (preference_by_rank p x y h k) (ap (λ b. cond b 1 0) (one_less _ _ _ _ (ranked x h) (ranked y k)))
      | inr k ↦ rw (preference_none p x y k, past y k) (rw (le-ltb (get_or ks x 0) 0 (omega arith)))
    ]

-- one ballot more
count_push : (ps : List (List ℕ)) (p : List ℕ) (x y : ℕ) → count unranked (ps ++ p ∷ []) x y ≡ count unranked ps x y + says p x y
unfolding count
count_push [] p x y = omega arith
count_push (q ∷ ps) p x y = omega (arith, count_push ps p x y)

-- no count is above the number of ballots
pub count_le : (ps : List (List ℕ)) (x y : ℕ) → count unranked ps x y ≤ length ps
unfolding count
count_le [] x y = omega arith
count_le (q ∷ ps) x y = omega (arith, count_le ps x y, says_le q x y)

-- f of each pair is n(x, y) of the ballots, and 0 where there is no such pair
abbrev pub CountedBy : ℕ → List (List ℕ) → (ℕ → ℕ → ℕ) → Type 0
CountedBy v ps f = (x y : ℕ) → x < most_candidates → y < most_candidates → f x y ≡ within v (count unranked ps) x y

pub counted_none : (v x y : ℕ) → within v (count unranked []) x y ≡ 0
counted_none v x y = omega (arith, within_le v x y 0 (count unranked []) (count_le [] x y))

-- counts to which the preferences of a ballot were added count one ballot more
pub counted_push : (v : ℕ) (ps : List (List ℕ)) (p : List ℕ) (f g : ℕ → ℕ → ℕ) → length p ≡ v → CountedBy v ps f
    → ((x y : ℕ) → x < most_candidates → y < most_candidates → g x y ≡ f x y + preference p x y)
    → CountedBy v (ps ++ ranks_of p ∷ []) g
counted_push v ps p f g long h step x y hx hy =
    let all = count unranked (ps ++ ranks_of p ∷ []) in
    let push = within-add v x y (count unranked ps) (says (ranks_of p)) all (count_push ps (ranks_of p) x y) in
    let same : preference p x y ≡ within v (says (ranks_of p)) x y = ap (λ n. within n (says (ranks_of p)) x y) long in
    omega (arith, step x y hx hy, h x y hx hy, push, same)

-- the first i ballots of a file
abbrev pub first_ballots : List ℕ → ℕ → List (List ℕ)
first_ballots bs i = map (λ j. ranks_of (ballot_bytes (candidates_in bs) bs j)) (range_with_len 0 i)

-- f counts the first i ballots of a file
abbrev pub CountedFirst : List ℕ → ℕ → (ℕ → ℕ → ℕ) → Type 0
CountedFirst bs i = CountedBy (candidates_in bs) (first_ballots bs i)

-- no count of theirs is above i
pub counted_le : (bs : List ℕ) (i : ℕ) (f : ℕ → ℕ → ℕ) → CountedFirst bs i f →
    (x y : ℕ) → x < most_candidates → y < most_candidates → f x y ≤ i
counted_le bs i f h x y hx hy =
    let ps = first_ballots bs i in
    omega (
      arith,
      h x y hx hy,
      within_le (candidates_in bs) x y (length ps) (count unranked ps) (count_le ps x y),
      length-map-range_with_len (λ j. ranks_of (ballot_bytes (candidates_in bs) bs j)) 0 i,
    )

pub counted_more : (bs p : List ℕ) (i : ℕ) (f g : ℕ → ℕ → ℕ) → p ≡ ballot_bytes (candidates_in bs) bs i
    → length p ≡ candidates_in bs → CountedFirst bs i f
    → ((x y : ℕ) → x < most_candidates → y < most_candidates → g x y ≡ f x y + preference p x y)
    → CountedFirst bs (i + 1) g
counted_more bs p i f g e long h step =
    rw (map-range_with_len_more (λ j. ranks_of (ballot_bytes (candidates_in bs) bs j)) 0 i i (omega arith), sym e)
    (counted_push (candidates_in bs) (first_ballots bs i) p f g long h step)

-- as many ballots, each putting u over v exactly if the other puts x over y, give the same count
pub count_same :
    (last x y u v : ℕ) (ps qs : List (List ℕ)) → length qs ≡ length ps →
    ((j : ℕ) → j < length ps → over last (get_or ps j []) x y ≡ over last (get_or qs j []) u v) → count last ps x y ≡ count last qs u v
unfolding count
count_same last x y u v [] [] e same = refl
count_same last x y u v [] (q ∷ qs) e same = absurd (omega arith)
count_same last x y u v (p ∷ ps) [] e same = absurd (omega arith)
count_same last x y u v (p ∷ ps) (q ∷ qs) e same =
    let first : over last p x y ≡ over last q u v = same 0 (omega arith) in
    let rest = count_same last x y u v ps qs (omega arith) (λ j h. same (suc j) (omega arith)) in
    rw (first, rest)
