-- The ballots that a provisional count has taken.
use Rattle.std.proofs.Common.{◌≡◌, ℕ, ◌<◌, ◌≤◌, List, [], ◌∷◌, map, length, None, Ok, Err, Result, sym, ap, ◌∙◌, subst, arith, length-append}
use Rattle.std.specs.List.Sorted.{IsPermutation}
use Rattle.std.specs.Prelude.{OnOk}
use Rattle.std.proofs.ByRecursion.{All-push, all_shuffled}
use Rattle.std.proofs.lemmas.List.{map_push, length-map}
use Rattle.std.proofs.lemmas.List.FromFn.{length-map-range_with_len}
use Rattle.std.proofs.lemmas.Bool.Decides.{nat_tests}
use Rattle.std.proofs.lemmas.List.Sorted.{length_permutation, IsPermutation-map}
use Rattle.ballots.specs.declared.refusal.Refusal.{Refusal}
use Rattle.ballots.specs.Format.{most_candidates, most_ballots, candidates_in, ballots_in, ballot_bytes, ballots_of, file_of}
use Rattle.ballots.specs.Refusals.{refusal}
use Rattle.ballots.specs.Ballots.{ranks_of, unranked}
use Rattle.ballots.specs.Loans.{result_of}
use Rattle.ballots.specs.Laws.{Vote}
use Rattle.ballots.proofs.Loans.{result_of-ok}
use Rattle.ballots.proofs.Votes.{votes_accepted}
use Rattle.pairwise.specs.declared.grid.Grid.{Grid}
use Rattle.pairwise.specs.Counts.{count, win_by}
use Rattle.pairwise.specs.Pairwise.{counts_of, add_refusal, Empty, OneMore, PairwiseOf}
use Rattle.pairwise.specs.Grids.{cell, within}
use Rattle.pairwise.proofs.Cells.{number_for-within, zero_outside}
use Rattle.pairwise.proofs.Order.{count_order_free}
use Rattle.pairwise.proofs.Preferences.{counted_none, counted_push}
use Rattle.best.specs.Answers.{BestOf}
use Rattle.best.specs.Comparisons.{BestSet}
use Rattle.best.proofs.FileWins.{best_of_wins}
use Rattle.best.proofs.Striking.{one_answer}
use Rattle.provisional.specs.declared.Provisional.{Provisional}
use Rattle.provisional.specs.Running.{ballots_taken, Taken, TakesBallot, BestOfCounts, BestOfTaken, AsCounted}

-- no ballot is taken yet
pub none_taken : (v : ℕ) (c : Provisional) → Empty v c.pairwise → Taken v [] c
none_taken v c e = record {
  vote = record {
    some = omega (arith, e.candidates, c.pairwise.counts.some);
    few = omega (arith, e.candidates, c.pairwise.counts.few);
    counted = omega arith;
    each = tt;
  };
  ballots = e.ballots;
  candidates = e.candidates;
  counts = λ x y hx hy. e.counts x y hx hy ∙ sym (counted_none v x y);
}

-- one ballot more
takes :
    (c d : Provisional) (p : List ℕ) → add_refusal c.pairwise p ≡ None → OneMore c.pairwise p d.pairwise →
    TakesBallot c p d
takes c d p accepted more =
    let room : c.pairwise.ballots < most_ballots = grind (arith, nat_tests) in
    record {
      more = more;
      taken = λ v ps t. record {
        vote = record {
          some = t.vote.some;
          few = t.vote.few;
          counted = omega (arith, room, t.ballots, length-append ps (p ∷ []));
          each = All-push (λ q. length q ≡ v) ps p t.vote.each (more.long ∙ t.candidates);
        };
        ballots = omega (arith, more.ballots, t.ballots, length-append ps (p ∷ []));
        candidates = more.candidates ∙ t.candidates;
        counts = rw (map_push ranks_of ps p)
            (counted_push v (map ranks_of ps) p (cell c.pairwise.counts.cells) (cell d.pairwise.counts.cells)
            (more.long ∙ t.candidates) t.counts more.counts);
      };
    }

-- where it is not refused
pub takes_ok :
    (c d : Provisional) (p : List ℕ) (r : Result (Unit {0}) Refusal) → r ≡ result_of (add_refusal c.pairwise p) tt →
    OnOk r (OneMore c.pairwise p d.pairwise) → OnOk r (TakesBallot c p d)
takes_ok c d p (Err e) answer more = tt
takes_ok c d p (Ok u) answer more = takes c d p (result_of-ok (add_refusal c.pairwise p) tt u (sym answer)).0 more

-- a vote in another order is a vote
vote_shuffled : (v : ℕ) (ps qs : List (List ℕ)) → IsPermutation ps qs → Vote v ps → Vote v qs
vote_shuffled v ps qs h t = record {
  some = t.some;
  few = t.few;
  counted = omega (arith, length_permutation ps qs h, t.counted);
  each = all_shuffled (λ q. length q ≡ v) ps qs h t.each;
}

module _ (c : Provisional) (v : ℕ) (ps qs : List (List ℕ)) (t : Taken v ps c) (h : IsPermutation ps qs) where
  abbrev bs : List ℕ
  bs = file_of v qs

  is_file : (refusal bs ≡ None) × (ballots_of bs ≡ map ranks_of qs)
  is_file = votes_accepted v qs (vote_shuffled v ps qs h t.vote)

  -- the file has as many ballots as were taken
  pub as_many : ballots_taken c ≡ ballots_in bs
  as_many =
      let ballots : length (ballots_of bs) ≡ ballots_in bs =
      length-map-range_with_len (λ i. ranks_of (ballot_bytes (candidates_in bs) bs i)) 0 (ballots_in bs) in
      omega (arith, t.ballots, length_permutation ps qs h, length-map qs ranks_of, ap length is_file.1, ballots)

  -- and the counts are those of the file
  pairwise_taken : PairwiseOf bs c.pairwise
  pairwise_taken =
      let g : Grid = c.pairwise.counts in
      let few : v ≤ most_candidates = t.vote.few in
      let n : ℕ → ℕ → ℕ = count unranked (map ranks_of ps) in
      let free : (x y : ℕ) → count unranked (map ranks_of ps) x y ≡ count unranked (ballots_of bs) x y =
      λ x y.
      sym (count_order_free unranked (map ranks_of ps) (map ranks_of qs) x y (IsPermutation-map ranks_of ps qs h))
      ∙ ap (λ bs. count unranked bs x y) (sym is_file.1) in
      record {
        accepted = is_file.0;
        ballots = as_many;
        candidates = t.candidates;
        counts = ap (λ v. within v (cell g.cells)) t.candidates
            ∙ number_for-within v g.cells n few t.counts ∙ (λ i. within v (λ x y. free x y i));
        outside =
            subst
            (λ v. (x y : ℕ) → x < most_candidates → y < most_candidates → cell g.cells x y ≡ within v (cell g.cells) x y)
            (sym t.candidates) (zero_outside v g.cells n few t.counts);
      }

  -- so are the best
  pub best_taken : (s : ℕ) → BestOfCounts c s → BestOf bs s
  best_taken s b =
      let of : PairwiseOf bs c.pairwise = pairwise_taken in
      best_of_wins bs of.accepted
      (subst (λ (n : ℕ). BestSet (win_by (counts_of bs)) n s) of.candidates
      (subst (λ (n : ℕ → ℕ → ℕ). BestSet (win_by n) c.pairwise.counts.candidates s) of.counts b))

-- and what the whole count comes to
pub as_counted : (c : Provisional) (s : ℕ) → BestOfTaken c s → AsCounted c s
as_counted c s b v ps qs t h draw refused (Err e) _ = tt
as_counted c s b v ps qs t h draw refused (Ok o) (none, is) =
    let same = one_answer (file_of v qs) (Ok o.best) (Ok s) is.best (b v ps qs t h) in
    (cc, is.ballots ∙ sym (as_many c v ps qs t h))
