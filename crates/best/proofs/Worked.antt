-- The worked counts, by one test that is computed over all of them.
use Rattle.std.proofs.Common.{◌≡◌, ℕ, ◌<◌, Bool, true, ◌&&◌, eqb, ltb, [], get_or, sym, refl}
use Rattle.std.specs.Prelude.{Contains}
use Rattle.std.specs.Cmp.{nat_eq_equiv}
use Rattle.std.specs.List.{list_any, list_all}
use Rattle.std.proofs.lemmas.Bool.{and_parts, eqb-true, ltb-true}
use Rattle.std.proofs.lemmas.List.Elements.{All-contains}
use Rattle.std.proofs.lemmas.List.Sums.{AllPass-from_list_all}
use Rattle.std.proofs.lemmas.Map.Views.{list_any-from_Contains, Contains-from_any}
use Rattle.ballots.specs.Ballots.{unranked, over}
use Rattle.ballots.specs.Sets.{set_of, every}
use Rattle.ballots.proofs.Sets.{holds_set_of}
use Rattle.ballots.proofs.Everybody.{every_at}
use Rattle.pairwise.specs.Counts.{count, win}
use Rattle.paths.specs.Paths.{below}
use Rattle.paths.specs.Middles.{strength, via}
use Rattle.paths.proofs.Pairs.{two_pair, strength_strongest}
use Rattle.paths.proofs.Walks.{below_in}
use Rattle.best.specs.Comparisons.{best_by}
use Rattle.best.specs.Worked.{WorkedCount, worked_elections, IsRight, WorkedCounts}
use Rattle.best.proofs.Meanings.{best_meaning}

-- the strengths of a worked count are those that via computes
abbrev strengths_agree : WorkedCount → Bool
strengths_agree c = every (λ x. every (λ y.
    eqb (strength (win unranked c.ballots) c.candidates x y) (get_or (get_or c.strengths x []) y 0)) c.candidates) c.candidates

abbrev is_listed : WorkedCount → ℕ → Bool
is_listed c x = list_any (eqb x) c.best

-- its best are those of whom nobody is ahead
abbrev best_agrees : WorkedCount → Bool
best_agrees c =
    eqb (best_by (strength (win unranked c.ballots) c.candidates) c.candidates) (set_of (is_listed c) c.candidates)

abbrev all_candidates : WorkedCount → Bool
all_candidates c = list_all (λ x. ltb x c.candidates) c.best

abbrev agrees : WorkedCount → Bool
agrees c = strengths_agree c && (best_agrees c && all_candidates c)

-- a worked count that passes the test is right
agrees_right : (c : WorkedCount) → agrees c ≡ true → IsRight c
agrees_right c h =
    let v : ℕ = c.candidates in
    let w : ℕ → ℕ → ℕ = win unranked c.ballots in
    let strong : strengths_agree c ≡ true = (and_parts _ _ h).0 in
    let listing : (best_agrees c && all_candidates c) ≡ true = (and_parts (strengths_agree c) _ h).1 in
    let same : best_by (strength w v) v ≡ set_of (is_listed c) v = eqb-true _ _ (and_parts _ _ listing).0 in
    let inside : all_candidates c ≡ true = (and_parts (best_agrees c) _ listing).1 in
    let candidate : (x : ℕ) → Contains c.best x → x < v =
    λ x m. ltb-true x v (All-contains (λ x. ltb x v ≡ true) c.best x (AllPass-from_list_all (λ x. ltb x v) c.best inside) m) in
    record {
      strengths = λ x y xv yv ne.
          rw (sym (eqb-true _ _ (every_at _ v y (every_at _ v x strong xv) yv)))
          (strength_strongest w v x y (two_pair v x y xv yv ne));
      best = λ x. (
        (λ m.
            let xv = candidate x m in
            let listed : is_listed c x ≡ true = list_any-from_Contains nat_eq_equiv x c.best m in
            ((best_meaning w v).each x xv).0 (rw same (rw (holds_set_of (is_listed c) v x xv) listed))),
        λ b.
            let xv = below_in v x b.0 in
            let in_set = rw same at (((best_meaning w v).each x xv).1 b) in
            Contains-from_any eqb-true x c.best (rw (holds_set_of (is_listed c) v x xv) at in_set),
      );
    }

computed : list_all agrees worked_elections ≡ true
unfolding over count win via below
computed = refl

pub worked_counts : WorkedCounts
worked_counts k d l = agrees_right _ (AllPass-from_list_all agrees worked_elections computed k d l)
