-- Files and votes: what is written as a file is read from it, and what is read was so written.
use Rattle.std.proofs.Common.{◌≡◌, ℕ, zero, suc, ◌+◌, ◌*◌, ◌/◌, ◌%◌, ◌<◌, ◌≤◌, List, [], ◌∷◌, map, length, get_or, take, drop, None, sym, ap, ◌∙◌, add-mul, zero-add, arith, take-append-drop}
use Rattle.std.specs.List.{range_with_len, flat_map}
use Rattle.std.proofs.lemmas.List.FromFn.{fill_by_all, length-map-range_with_len, get_or-map-range_with_len}
use Rattle.std.proofs.ByRecursion.{All-from_get_or}
use Rattle.std.proofs.lemmas.List.{drop-drop, drop_all, length-map, get_or-map, length-take, length-drop}
use Rattle.std.proofs.lemmas.Bool.Decides.{nat_tests}
use Rattle.ballots.specs.Format.{most_candidates, most_ballots, header_length, candidates_in, ballots_in, whole_length, ballot_bytes, file_of}
use Rattle.ballots.specs.Ballots.{ranks_of}
use Rattle.ballots.specs.Laws.{Vote, VotesAccepted, OnlyVotesAccepted}
use Rattle.ballots.specs.Refusals.{refusal}
use Rattle.ballots.proofs.Rows.{row_ends, length_joined, row_joined}

-- rows cut off one after the other are what they were cut from
rows_joined : (v a n : ℕ) (xs : List ℕ) → length xs ≡ (a + n) * v →
    flat_map (λ p. p) (map (λ i. take v (drop (i * v) xs)) (range_with_len a n)) ≡ drop (a * v) xs
rows_joined v a zero xs h = sym (drop_all (a * v) xs (omega (arith, let e : a + 0 ≡ a = omega arith in ap (λ k. k * v) e)))
rows_joined v a (suc n) xs h =
    let m : (a + 1) * v ≡ a * v + v = omega (arith, add-mul a 1 v) in
    let e : a + suc n ≡ (a + 1) + n = omega arith in
    let t = rows_joined v (a + 1) n xs (h ∙ ap (λ k. k * v) e) in
    let d : drop ((a + 1) * v) xs ≡ drop v (drop (a * v) xs) = ap (λ k. drop k xs) m ∙ sym (drop-drop v (a * v) xs) in
    rw (t, d) (take-append-drop v (drop (a * v) xs))

-- accepted are bytes with a right number of candidates that are as long as they say
pub accept : (bs : List ℕ) → 1 ≤ candidates_in bs → candidates_in bs ≤ most_candidates → length bs ≡ whole_length bs → refusal bs ≡ None
accept bs some few whole = grind (arith, nat_tests)

pub accepted : (bs : List ℕ) → refusal bs ≡ None →
    (1 ≤ candidates_in bs) × (candidates_in bs ≤ most_candidates) × (length bs ≡ whole_length bs)
accepted bs h = (grind (arith, nat_tests), grind (arith, nat_tests), grind (arith, nat_tests))

-- behind the header
drop_header : (v a b k : ℕ) (xs : List ℕ) → drop (header_length + k) (v ∷ (a ∷ (b ∷ xs))) ≡ drop k xs
drop_header v a b k xs = sym (drop-drop k header_length (v ∷ (a ∷ (b ∷ xs))))

pub ballots_in-file_of : (v : ℕ) (ps : List (List ℕ)) → length ps ≤ most_ballots → ballots_in (file_of v ps) ≡ length ps
ballots_in-file_of v ps few = omega arith

pub votes_accepted : VotesAccepted
votes_accepted v ps h =
    let n = ballots_in-file_of v ps h.counted in
    let rest : List ℕ = flat_map (λ p. p) ps in
    let whole : whole_length (file_of v ps) ≡ header_length + length ps * v = ap (λ k. header_length + k * v) n in (
      accept (file_of v ps) h.some h.few (omega (arith, length_joined (λ p. p) v ps h.each, whole)),
      sym (fill_by_all (λ i. ranks_of (ballot_bytes v (file_of v ps) i)) (map ranks_of ps) (ballots_in (file_of v ps)) []
          (length-map ps ranks_of ∙ sym n)
          (λ i l.
          let body = drop_header v (length ps % 256) (length ps / 256 % 256) (i * v) rest in
          let row = row_joined (λ p. p) v ps i [] h.each (omega arith) in
          get_or-map ranks_of ps i [] [] (omega arith) ∙ ap ranks_of (sym (ap (take v) body ∙ row)))),
    )

-- the ballots of accepted bytes, as they stand behind the header
vote_in : (v lo hi : ℕ) (xs : List ℕ) → lo < 256 → hi < 256 → 1 ≤ v → v ≤ most_candidates → length xs ≡ (lo + hi * 256) * v →
    (ps : List (List ℕ)) × Vote v ps × (v ∷ (lo ∷ (hi ∷ xs)) ≡ file_of v ps)
vote_in v lo hi xs low high some few long =
    let n : ℕ = lo + hi * 256 in
    let row : ℕ → List ℕ = λ i. take v (drop (i * v) xs) in
    let ps : List (List ℕ) = map row (range_with_len 0 n) in
    let count : length ps ≡ n = length-map-range_with_len row 0 n in
    let wide : (i : ℕ) → i < length ps → length (get_or ps i []) ≡ v =
    λ i l. ap length (get_or-map-range_with_len row 0 n i i [] (omega arith) (omega arith))
    ∙ simp (length-take, length-drop) (omega (arith, row_ends i n v (omega arith))) in
    let e : length ps % 256 ≡ lo = omega arith in
    let f : length ps / 256 % 256 ≡ hi = omega arith in
    let z : 0 * v ≡ 0 = omega arith in
    let j : flat_map (λ p. p) ps ≡ xs = rows_joined v 0 n xs (long ∙ ap (λ k. k * v) (sym (zero-add n))) ∙ ap (λ k. drop k xs) z in (
      ps,
      record { some = some; few = few; counted = omega arith; each = All-from_get_or (λ p. length p ≡ v) ps [] wide },
      rw (e, f, j),
    )

pub only_votes_accepted : OnlyVotesAccepted
only_votes_accepted [] h a = absurd (let f : ⊥ = omega (arith, (accepted [] a).0) in f)
only_votes_accepted (v ∷ []) h a = absurd (let f : ⊥ = omega (arith, (accepted (v ∷ []) a).2) in f)
only_votes_accepted (v ∷ (lo ∷ [])) h a = absurd (let f : ⊥ = omega (arith, (accepted (v ∷ (lo ∷ [])) a).2) in f)
only_votes_accepted (v ∷ (lo ∷ (hi ∷ xs))) h a =
    let ok = accepted (v ∷ (lo ∷ (hi ∷ xs))) a in
    vote_in v lo hi xs h.1.0 h.1.1.0 ok.0 ok.1 (omega (arith, ok.2))
