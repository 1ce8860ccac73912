use Rattle.std.proofs.Common.{◌≡◌, ℕ, ◌+◌, ◌*◌, replicate, List, subst, ◌∷◌, refl, ap, ◌∙◌, arith, length-set}
use Rattle.std.specs.List.{AllByRecursion}
use Rattle.std.proofs.lemmas.Bool.Decides.{nat_tests}
use Rattle.ballots.specs.Format.{most_candidates}
use Rattle.pairwise.specs.Grids.{cells}
use Rattle.pairwise.specs.Pairs.{pairs, to_come}
use Rattle.pairwise.specs.Pairwise.{win_in}
use Rattle.pairwise.proofs.Cells.{zeros}
use Rattle.pairwise.proofs.OrderedPairs.{pairs_each}
use Rattle.paths.specs.Paths.{IsPair}
use Rattle.paths.proofs.Grids.{grid_of}
use Rattle.certificate.proofs.Keeping.{Kept, kept_none, kept_next}
use Rattle.certificate.proofs.verdict.check_entries.Goals as goal

pub loop-x-init : goal.loop-x-init
loop-x-init c =
    let t = c.args.pairwise.now in
    let v = t.counts.candidates in
    let all : to_come c.into_iter-x-iterator.result ≡ pairs v = ap to_come c.into_iter-x-iterator.ensures.into_iter_gives ∙ c.of-x-items.ensures in
    record {
      each = rw all (pairs_each (λ xy. IsPair v xy.0 xy.1) v (λ x y xv yv ne. record { first = xv; second = yv; apart = ne }));
      left = rw all;
      place = rw all;
      same = grind arith;
      size = grind arith;
      kept = rw all (kept_none (win_in t) v (replicate cells 0) (λ a b. zeros cells (a * most_candidates + b)));
    }

pub loop-x-preserved : goal.loop-x-preserved
loop-x-preserved c =
    let t = c.args.pairwise.now in
    let v = t.counts.candidates in
    let next = c.in-Some.ensures.steps in
    let here : AllByRecursion (λ xy. IsPair v xy.0 xy.1) ((c.in-Some.x, c.in-Some.y) ∷ to_come c.next.new.self) = subst (AllByRecursion (λ xy. IsPair v xy.0 xy.1)) next c.loop-x.invariant.each in
    record {
      each = here.1;
      left = grind (arith, nat_tests);
      place = grind (arith, nat_tests);
      same = grind arith;
      size = length-set _ _ _ ∙ c.loop-x.invariant.size;
      kept = kept_next (win_in t) v c.in-Some.x c.in-Some.y _ _ _ t.counts.few c.loop-x.invariant.size here.0 c.in_ok-cells.ensures.strength
          (subst (λ (l : List (ℕ × ℕ)). Kept (win_in t) v l c.loop-x.cells) next c.loop-x.invariant.kept);
    }

pub returns-clause-strengths : goal.returns-clause-strengths
returns-clause-strengths c =
    let t = c.args.pairwise.now in
    let none = c.in-None.ensures.steps.0 in
    grid_of (win_in t) t.counts.candidates _ refl
    (λ a b am bm. subst (λ (l : List (ℕ × ℕ)). Kept (win_in t) t.counts.candidates l c.loop-x.cells) none c.loop-x.invariant.kept a b am bm tt)
