-- The laws in a second wording, from those for lists of ballots: both speak of the same counts, wins and paths.
use Rattle.std.proofs.Common.{◌≡◌, ℕ, suc, ◌<◌, ◌≤◌, Bool, true, ◌∙◌, List, [], ◌∷◌, length, get_or, refl, sym, subst, arith}
use Rattle.std.specs.List.{AllZip}
use Rattle.std.proofs.lemmas.List.Elements.{All-from_get_or}
use Rattle.std.proofs.lemmas.Bool.Decides.{nat_tests}
use Rattle.ballots.specs.Ballots.{over}
use Rattle.pairwise.specs.Counts.{count, win}
use Rattle.paths.specs.Paths.{below, Path, step, on}
use Rattle.best.specs.Best.{Ahead, Best}
use Rattle.best.specs.Elections.{IsRaised, IsCloneSet}
use Rattle.best.specs.Laws.{with_only}
use Rattle.best.specs.SecondWording.{
  prefers,
  supporters,
  defeat,
  Chain,
  link,
  longer,
  Precedes,
  IsWinner,
  all_of,
  all_with_one,
  MovesUp,
  StayTogether,
  SomebodyWins,
  PrecedingGoesOn,
  InnerCircleWins,
  MovingUpDoesNoHarm,
  TurnedBallotsTurnTheResult,
  ClonesDoNotMatter,
}
use Rattle.best.proofs.Elections.{
  some_best_by_ballots,
  ahead_is_an_order_by_ballots,
  dominating_set_by_ballots,
  monotonicity_by_one_ballot,
  reversal_symmetry_by_ballots,
  clone_independence_by_ballots,
}

over-prefers : (last : ℕ) (p : List ℕ) (x y : ℕ) → over last p x y ≡ prefers last p x y
unfolding over prefers
over-prefers last p x y = refl

count-supporters : (last : ℕ) (ps : List (List ℕ)) (x y : ℕ) → count last ps x y ≡ supporters last ps x y
unfolding count supporters
count-supporters last [] x y = refl
count-supporters last (p ∷ ps) x y = rw (count-supporters last ps x y, over-prefers last p x y) refl

win-defeat : (last : ℕ) (ps : List (List ℕ)) (x y : ℕ) → win last ps x y ≡ defeat last ps x y
unfolding win defeat
win-defeat last ps x y = rw (count-supporters last ps x y, count-supporters last ps y x) refl

below-all_of : (v x : ℕ) → below v x ≡ all_of v x
unfolding below all_of
below-all_of v x = refl

with_only-all_with_one : (v : ℕ) (k : ℕ → Bool) (a x : ℕ) → with_only k a (below v) x ≡ all_with_one v k a x
unfolding with_only all_with_one below
with_only-all_with_one v k a x = refl

all_of_below : (v x : ℕ) → all_of v x ≡ true → x < v
unfolding all_of
all_of_below v x h = grind (arith, nat_tests)

-- chains are paths of wins
module _ {last : ℕ} {ps : List (List ℕ)} {stands here : ℕ → Bool} (same : (x : ℕ) → here x ≡ stands x) {m : ℕ} where
  to_path : {x y : ℕ} → Chain last ps stands m x y → Path (win last ps) here m x y
  to_path (link {x = x} {y = y} hx hy h) =
      step (same x ∙ hx) (same y ∙ hy) (subst (λ w. m ≤ w) (sym (win-defeat last ps x y)) h)
  to_path (longer {y = y} {z = z} p hz h) =
      on (to_path p) (same z ∙ hz) (subst (λ w. m ≤ w) (sym (win-defeat last ps y z)) h)

  from_path : {x y : ℕ} → Path (win last ps) here m x y → Chain last ps stands m x y
  from_path (step {x = x} {y = y} hx hy h) =
      link (sym (same x) ∙ hx) (sym (same y) ∙ hy) (subst (λ w. m ≤ w) (win-defeat last ps x y) h)
  from_path (on {y = y} {z = z} p hz h) =
      longer (from_path p) (sym (same z) ∙ hz) (subst (λ w. m ≤ w) (win-defeat last ps y z) h)

-- so winners are the best, and whoever precedes is ahead
module _ {last : ℕ} {ps : List (List ℕ)} {stands here : ℕ → Bool} (same : (x : ℕ) → here x ≡ stands x) where
  to_best : {x : ℕ} → IsWinner last ps stands x → Best (win last ps) here x
  to_best {x} h = (same x ∙ h.0, λ y m pos p. to_path same (h.1 y m pos (from_path same p)))

  from_best : {x : ℕ} → Best (win last ps) here x → IsWinner last ps stands x
  from_best {x} h = (sym (same x) ∙ h.0, λ y m pos p. from_path same (h.1 y m pos (to_path same p)))

  to_ahead : {x y : ℕ} → Precedes last ps stands x y → Ahead (win last ps) here x y
  to_ahead (m, pos, p, none) = (m, pos, to_path same p, λ q. none (from_path same q))

  from_ahead : {x y : ℕ} → Ahead (win last ps) here x y → Precedes last ps stands x y
  from_ahead (m, pos, p, none) = (m, pos, from_path same p, λ q. none (to_path same q))

pub somebody_wins : SomebodyWins
somebody_wins last v ps h = let (x, b) = some_best_by_ballots last v ps h in (x, from_best (below-all_of v) b)

pub preceding_goes_on : PrecedingGoesOn
preceding_goes_on last v ps x y z p q =
    from_ahead (below-all_of v)
    ((ahead_is_an_order_by_ballots last v ps).transitive x y z (to_ahead (below-all_of v) p) (to_ahead (below-all_of v) q))

pub inner_circle_wins : InnerCircleWins
inner_circle_wins last v x ps circle (a, av, ca) dom h =
    dominating_set_by_ballots last v a ps circle av ca
    (λ y z yv zv cy cz. rw (count-supporters last ps z y, count-supporters last ps y z) (dom y z yv zv cy cz))
    x (to_best (below-all_of v) h)

raised : {last v x : ℕ} {p q : List ℕ} → MovesUp last v x p q → IsRaised last v x p q
raised {last} {v} {x} {p} {q} r = record {
  still_over = λ y yv h. over-prefers last q x y ∙ r.still_preferred y yv (sym (over-prefers last p x y) ∙ h);
  none_more_over = λ y yv h. over-prefers last p y x ∙ r.nobody_gains y yv (sym (over-prefers last q y x) ∙ h);
  others = λ y z yv zv ny nz. over-prefers last q y z ∙ r.others_stay y z yv zv ny nz ∙ sym (over-prefers last p y z);
}

pub moving_up_does_no_harm : MovingUpDoesNoHarm
moving_up_does_no_harm last v x j ps q h r b =
    from_best (below-all_of v) (monotonicity_by_one_ballot last v x j ps q h (raised r) (to_best (below-all_of v) b))

-- what holds at each place
zip_each : (R : List ℕ → List ℕ → Type 0) (ps qs : List (List ℕ)) → length qs ≡ length ps →
    ((j : ℕ) → j < length ps → R (get_or ps j []) (get_or qs j [])) → AllZip R ps qs
zip_each R [] [] e f = tt
zip_each R [] (q ∷ qs) e f = omega arith
zip_each R (p ∷ ps) [] e f = omega arith
zip_each R (p ∷ ps) (q ∷ qs) e f = (f 0 (omega arith), zip_each R ps qs (omega arith) (λ j h. f (suc j) (omega arith)))

pub turned_ballots_turn_the_result : TurnedBallotsTurnTheResult
turned_ballots_turn_the_result last v x y ps qs e turned h =
    from_ahead (below-all_of v) (reversal_symmetry_by_ballots last v x y ps qs
    (zip_each _ ps qs e (λ j hj a b av bv.
    over-prefers last (get_or qs j []) a b ∙ turned j a b hj av bv ∙ sym (over-prefers last (get_or ps j []) b a)))
    (to_ahead (below-all_of v) h))

clone_set : (last v : ℕ) (k : ℕ → Bool) (p : List ℕ) → StayTogether last v k p → IsCloneSet last v k p
clone_set last v k p t x z y xv zv yv kx kz ky =
    let (for_k, for_y) = t x z y xv zv yv kx kz ky in (
      over-prefers last p x y ∙ for_k ∙ sym (over-prefers last p z y),
      over-prefers last p y x ∙ for_y ∙ sym (over-prefers last p y z),
    )

pub clones_do_not_matter : ClonesDoNotMatter
clones_do_not_matter last v a ps k av ka together =
    let one = clone_independence_by_ballots last v a ps k av ka
    (All-from_get_or (IsCloneSet last v k) ps [] (λ j h. clone_set last v k (get_or ps j []) (together j h))) in
    record {
      others = λ y yv ky. (
        (λ h. from_best (with_only-all_with_one v k a) ((one.others y ky).0 (to_best (below-all_of v) h))),
        λ h. from_best (below-all_of v) ((one.others y ky).1 (to_best (with_only-all_with_one v k a) h)),
      );
      members = (
        (λ (x, xv, kx, h). from_best (with_only-all_with_one v k a) (one.members.0 (x, kx, to_best (below-all_of v) h))),
        λ h.
            let (x, kx, b) = one.members.1 (to_best (with_only-all_with_one v k a) h) in
            let w : IsWinner last ps (all_of v) x = from_best (below-all_of v) b in
            (x, all_of_below v x w.0, kx, w),
      );
    }
