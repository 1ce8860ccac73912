-- The order that drawn ballots make, and its keys.
use Rattle.std.proofs.Common.{◌≡◌, ℕ, cond, zero, suc, ◌+◌, ◌<◌, ◌≤◌, Bool, true, false, not, ◌&&◌, ◌||◌, ◌≢◌, ◌⊎◌, List, [], ◌∷◌, map, length, get_or, drop, sym, refl, ap, ◌∙◌, inl, inr, subst, Option, None, Some, arith}
use Rattle.std.specs.Prelude.{IsSome, MatchOption}
use Rattle.std.specs.Int.{w16, from_le_bytes}
use Rattle.std.specs.List.{range_with_len, filter}
use Rattle.std.proofs.lemmas.List.Elements.{filter-append}
use Rattle.std.proofs.lemmas.List.{length-append, length-map, get_or-map, drop_more}
use Rattle.std.proofs.lemmas.List.FromFn.{get_or-map-range_with_len}
use Rattle.std.proofs.lemmas.Bool.{cases_eq, cases_Bool}
use Rattle.std.proofs.lemmas.Bool.Decides.{nat_tests}
use Rattle.ballots.specs.declared.ballot.Ballot.{Ballot}
use Rattle.ballots.specs.Files.{BallotAt}
use Rattle.ballots.specs.Format.{candidates_in, ballots_in, ballot_bytes, ballots_of}
use Rattle.ballots.specs.Ballots.{ranks_of, unranked, over}
use Rattle.ballots.specs.Sets.{number}
use Rattle.ballots.proofs.Everybody.{number_lt}
use Rattle.ballots.proofs.Rows.{counting_more}
use Rattle.best.specs.TieBreak.{IsTieBreak, before_by}
use Rattle.tiebreak.specs.Draws.{ballots_at, before_by_ballots, BallotsMakeATieBreak}

module _ (last : ℕ) where
  abbrev IsBefore : List (List ℕ) → ℕ → ℕ → Type 0
  IsBefore ps x y = before_by_ballots last ps x y ≡ true

  total : (ps : List (List ℕ)) (x y : ℕ) → x ≢ y → IsBefore ps x y ⊎ IsBefore ps y x
  unfolding over
  total [] x y ne = grind (arith, nat_tests)
  total (p ∷ ps) x y ne = let rest = total ps x y ne in grind (arith, nat_tests)

  one_way : (ps : List (List ℕ)) (x y : ℕ) → IsBefore ps x y → IsBefore ps y x → ⊥
  unfolding over
  one_way [] x y there back = grind (arith, nat_tests)
  one_way (p ∷ ps) x y there back =
      let rest : IsBefore ps x y → IsBefore ps y x → ⊥ = one_way ps x y in grind (arith, nat_tests)

  transitive : (ps : List (List ℕ)) (x y z : ℕ) → IsBefore ps x y → IsBefore ps y z → IsBefore ps x z
  unfolding over
  transitive [] x y z first second = grind (arith, nat_tests)
  transitive (p ∷ ps) x y z first second =
      let rest : IsBefore ps x y → IsBefore ps y z → IsBefore ps x z = transitive ps x y z in grind (arith, nat_tests)

pub ballots_make_a_tie_break : BallotsMakeATieBreak
ballots_make_a_tie_break last ps =
    record { total = total last ps; one_way = one_way last ps; transitive = transitive last ps }

module _ (before : ℕ → ℕ → Bool) (t : IsTieBreak before) where
  not_itself : (x : ℕ) → before x x ≡ false
  not_itself x = elim (cases_Bool (before x x)) [ inl e ↦ absurd (t.one_way x x e e) | inr e ↦ e ]

  not_back : (x y : ℕ) → before x y ≡ true → before y x ≡ false
  not_back x y h = elim (cases_Bool (before y x)) [ inl e ↦ absurd (t.one_way x y h e) | inr e ↦ e ]

  -- how many are before x
  abbrev pub number_before : ℕ → ℕ → ℕ
  number_before n x = number (λ z. before z x) n

  -- whoever is before another has fewer before it
  fewer_before : (n x y : ℕ) → x < n → before x y ≡ true → number_before n x < number_before n y
  fewer_before n x y xn h =
      number_lt (λ z. before z x) (λ z. before z y) n x (λ z zn p. t.transitive z x y p h) xn (not_itself x) h

  -- so the keys make the order again
  pub keys_order : (keys : List ℕ) (n x y : ℕ) → x < n → y < n →
      get_or keys x 0 ≡ number_before n x → get_or keys y 0 ≡ number_before n y → before_by keys x y ≡ before x y
  keys_order keys n x y xn yn ex ey = elim (cases_eq x y) [
    | inl e ↦ rw (sym e) (rw (not_itself x) (grind (arith, nat_tests)))
    | inr e ↦ elim (t.total x y e) [
      | inl b ↦ let l = fewer_before n x y xn b in rw b (grind (arith, nat_tests))
      | inr b ↦ let l = fewer_before n y x yn b in rw (not_back y x b) (grind (arith, nat_tests))
    ]
  ]

-- the ballot of a number, if there is one
abbrev pub BallotOf : List ℕ → ℕ → Option Ballot → Type 0
BallotOf bs k r = MatchOption r (ballots_in bs ≤ k) (λ ballot. BallotAt bs k ballot.ranks.now)

-- where there are so many ballots, there is one
pub some_ballot : (bs : List ℕ) (k : ℕ) (r : Option Ballot) → k < ballots_in bs → BallotOf bs k r → IsSome r
some_ballot bs k None there gone = absurd (let z : ⊥ = omega arith in z)
some_ballot bs k (Some ballot) there of = refl

module _ (bs : List ℕ) (numbers : List (List ℕ)) (x y : ℕ) where
  abbrev ks : List ℕ
  ks = map (from_le_bytes w16) numbers

  abbrev ballot : ℕ → List ℕ
  ballot k = get_or (ballots_of bs) k []

  as_many : length (ballots_at bs ks) ≡ length numbers
  as_many = length-map ks ballot ∙ length-map numbers (from_le_bytes w16)

  -- what the drawn ballots from place i on say
  abbrev pub before_from : ℕ → Bool
  before_from i = before_by_ballots unranked (drop i (ballots_at bs ks)) x y

  -- the drawn ballot at place i decides before those behind it
  pub drawn_next : (i k : ℕ) (r : Option Ballot) (b : Ballot) →
      i < length numbers → k ≡ from_le_bytes w16 (get_or numbers i []) → BallotOf bs k r → r ≡ Some b →
      let p = ranks_of b.ranks.now in
      before_from i ≡ (over unranked p x y || (not (over unranked p y x) && before_from (i + 1)))
  drawn_next i k r b l e of is =
      let at_k : BallotAt bs k b.ranks.now = subst (BallotOf bs k) is of in
      let v : ℕ = candidates_in bs in
      let number : get_or ks i 0 ≡ k = get_or-map (from_le_bytes w16) numbers i [] 0 l ∙ sym e in
      let in_file : ballot k ≡ ranks_of (ballot_bytes v bs k) =
      get_or-map-range_with_len (λ j. ranks_of (ballot_bytes v bs j)) 0 (ballots_in bs) k k [] at_k.there (omega arith) in
      let drawn : get_or (ballots_at bs ks) i [] ≡ ranks_of b.ranks.now =
      get_or-map ballot ks i 0 [] (omega (arith, length-map numbers (from_le_bytes w16)))
      ∙ ap ballot number ∙ in_file ∙ ap ranks_of (sym at_k.bytes) in
      rw (drop_more (ballots_at bs ks) i [] (omega (arith, as_many)), drawn)

-- how many pass a test, as the candidates that are left by it
pub number_left : (f : ℕ → Bool) (n : ℕ) → length (filter f (range_with_len 0 n)) ≡ number f n
number_left f zero = refl
number_left f (suc n) =
    let e : suc n ≡ n + 1 = omega arith in
    let before : List ℕ = range_with_len 0 n in
    let last : length (filter f (n ∷ [])) ≡ cond (f n) 1 0 = elim (cases_Bool (f n)) [ inl p ↦ rw p | inr p ↦ rw p ] in
    ap (λ k. length (filter f (range_with_len 0 k))) e
    ∙ rw (counting_more n, filter-append f before (n ∷ []))
    (omega (arith, length-append (filter f before) (filter f (n ∷ [])), last, number_left f n))
