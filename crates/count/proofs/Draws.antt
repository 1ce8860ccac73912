-- The front of a draw decides as the whole draw does: of more numbers than there are ballots one is no ballot's or comes twice.
use Rattle.std.proofs.Common.{◌≡◌, ℕ, zero, suc, ◌+◌, ◌*◌, ◌/◌, ◌%◌, ◌<◌, ◌≤◌, eqb, get_or, List, ◌∷◌, length, take, drop, Some, None, Option, ◌⊎◌, inl, inr, refl, sym, ap, ◌∙◌, subst, arith}
use Rattle.std.proofs.lemmas.Bool.{cases_lt}
use Rattle.std.proofs.lemmas.Bool.Decides.{Decides-eqb, nat_tests}
use Rattle.std.proofs.lemmas.List.{length-take-le, length-map, take_all, take-take, take-map, drop-take}
use Rattle.std.proofs.lemmas.List.Folds.{Any-from_list_any}
use Rattle.std.proofs.lemmas.Map.Made.{IsDistinct-from_AllPairs}
use Rattle.std.proofs.lemmas.Map.Steps.{length-le_from_distinct_below}
use Rattle.std.specs.Int.{w16, from_le_bytes}
use Rattle.std.specs.Simd.{first_chunks}
use Rattle.ballots.specs.declared.refusal.Refusal.{Refusal}
use Rattle.ballots.specs.declared.refusal.Refusal.TheVariants.{Draw}
use Rattle.program.specs.Fronts.{draw_kept}
use Rattle.tiebreak.specs.Draws.{numbers_in, first_bad, draw_refusal, OfDifferentBallots, FirstBad}
use Rattle.tiebreak.proofs.Draws.{draws_accepted, draws_refused}

-- the first numbers of a draw are those of its front
chunks_front : (k : ℕ) (xs : List ℕ) → first_chunks 2 k (take (2 * k) xs) ≡ first_chunks 2 k xs
chunks_front zero xs = refl
chunks_front (suc k) xs =
    let e : 2 * suc k ≡ 2 + 2 * k = omega arith in
    rw (e, take-take 2 (2 + 2 * k) xs (omega arith), drop-take 2 (2 * k) xs, chunks_front k (drop 2 xs)) refl

length_chunks : (k : ℕ) (xs : List ℕ) → length (first_chunks 2 k xs) ≡ k
length_chunks zero xs = refl
length_chunks (suc k) xs = ap suc (length_chunks k (drop 2 xs))

take_chunks : (j k : ℕ) (xs : List ℕ) → j ≤ k → take j (first_chunks 2 k xs) ≡ first_chunks 2 j xs
take_chunks zero k xs l = grind arith
take_chunks (suc j) zero xs l = absurd (omega arith)
take_chunks (suc j) (suc k) xs l = ap (λ ys. take 2 xs ∷ ys) (take_chunks j k (drop 2 xs) (omega arith))

numbers_front : (k : ℕ) (draw : List ℕ) → 2 * k ≤ length draw → numbers_in (take (2 * k) draw) ≡ take k (numbers_in draw)
numbers_front k draw l =
    let half : length (take (2 * k) draw) / 2 ≡ k = omega (arith, length-take-le (2 * k) draw l) in
    rw (
      half,
      chunks_front k draw,
      take-map (from_le_bytes w16) k (first_chunks 2 (length draw / 2) draw),
      take_chunks k (length draw / 2) draw (omega arith),
    ) refl

-- no more numbers than there are ballots are those of different ballots
different_few : (n : ℕ) (ks : List ℕ) → OfDifferentBallots n ks → length ks ≤ n
different_few n ks d =
    length-le_from_distinct_below ks n (IsDistinct-from_AllPairs Decides-eqb ks d.once) (λ q h.
    let (i, k, l, at, same) = Any-from_list_any (eqb q) ks h in
    let low : get_or ks i k < n = d.exist i k l in grind (arith, nat_tests))

-- the first bad number of the front is that of the whole draw
bad_in_front : (n k : ℕ) (ks : List ℕ) → k ≤ length ks → (i : ℕ) → FirstBad n (take k ks) i → FirstBad n ks i
bad_in_front n k ks l i f =
    let low : i < k = omega (arith, f.there, length-take-le k ks l) in
    record {
      there = omega arith;
      before = rw (take-take i k ks (omega arith)) at f.before;
      here = rw (take-take (i + 1) k ks (omega arith)) at f.here;
    }

pub cases_Option : {A : Type 0} (o : Option A) → (o ≡ None) ⊎ ((a : A) × (o ≡ Some a))
cases_Option None = inl refl
cases_Option (Some a) = inr (a, refl)

first_decide :
    (n k : ℕ) (draw : List ℕ) → n < k → length draw % 2 ≡ 0 →
    (draw_refusal n (take (2 * k) draw) ≡ draw_refusal n draw) × (draw_refusal n draw ≡ None → take (2 * k) draw ≡ draw)
first_decide n k draw few even = elim (cases_lt (2 * k) (length draw)) [
  | inr short ↦ let e = take_all (2 * k) draw short in (ap (draw_refusal n) e, λ _. e)
  | inl long ↦
      let front : List ℕ = take (2 * k) draw in
      let numbers = numbers_front k draw (omega arith) in
      let whole : length front % 2 ≡ 0 = omega (arith, length-take-le (2 * k) draw (omega arith)) in
      let chunks : List (List ℕ) = first_chunks 2 (length draw / 2) draw in
      let many : k ≤ length (numbers_in draw) =
      omega (arith, length-map chunks (from_le_bytes w16), length_chunks (length draw / 2) draw) in
      elim (cases_Option (first_bad n (numbers_in front))) [
        | inl none ↦
            let good = (draws_accepted n front).0 (rw (whole, none) refl) in
            absurd (omega (arith, different_few n (numbers_in front) good.1, ap length numbers, length-take-le k (numbers_in draw) many))
        | inr (i, some) ↦
            let bad : draw_refusal n front ≡ Some (Draw i) = rw (whole, some) refl in
            let first : FirstBad n (take k (numbers_in draw)) i = rw numbers at ((draws_refused n i front).0 bad).1 in
            let all = (draws_refused n i draw).1 (even, bad_in_front n k (numbers_in draw) many i first) in
            (bad ∙ sym all, λ none. absurd (let z : ◌≡◌ {A = Option Refusal} (Some (Draw i)) None = sym all ∙ none in cc))
      ]
]

-- the front of a draw of whole numbers is refused as the whole draw is, and is the whole draw where that is accepted
pub kept_draw :
    (n : ℕ) (draw : List ℕ) → n < 65536 → length draw % 2 ≡ 0 →
    (draw_refusal n (take draw_kept draw) ≡ draw_refusal n draw) × (draw_refusal n draw ≡ None → take draw_kept draw ≡ draw)
kept_draw n draw few even =
    let e : 2 * 65536 ≡ draw_kept = refl in
    subst (λ m. (draw_refusal n (take m draw) ≡ draw_refusal n draw) × (draw_refusal n draw ≡ None → take m draw ≡ draw)) e
    (first_decide n 65536 draw few even)
