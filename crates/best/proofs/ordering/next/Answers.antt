use Rattle.std.proofs.Common.{◌≡◌, ℕ, Bool, ◌&&◌, Option, Some, None, ap, ◌∙◌, arith, rules, tests}
use Rattle.std.proofs.lemmas.Iterator.{YieldsList-from_range}
use Rattle.std.proofs.lemmas.Iterator.Consumers.{YieldsList-from_filter, fold_from_yields_List}
use Rattle.ballots.specs.Sets.{holds, members}
use Rattle.pairwise.specs.Grids.{number_for}
use Rattle.paths.specs.Middles.{strength}
use Rattle.paths.proofs.Grids.{numbers_are}
use Rattle.best.specs.Comparisons.{unbeaten_by}
use Rattle.best.specs.TieBreak.{before_by}
use Rattle.best.specs.inner.NextPlace.{earlier}
use Rattle.best.proofs.Firsts.{by_keys, first_below, first_folded}
use Rattle.best.proofs.Making.{next_found}
use Rattle.best.proofs.ordering.next.Goals as goal

pub returns : goal.returns
unfolding members
returns c =
    let t = c.args.strengths.now.wins in
    let g = c.grid-strengths.result.now in
    let n : ℕ = g.candidates in
    let left : ℕ → Bool = holds c.args.left in
    let before : ℕ → ℕ → Bool = before_by c.args.tie_break.now.keys in
    let first : (ℕ → ℕ → ℕ) → ℕ → Option ℕ = λ s v. first_below before (λ x. left x && unbeaten_by s v left x) v in
    let comes : ℕ → Bool = λ x. left x && unbeaten_by (number_for g) n left x in
    let folded : c.fold.result ≡ first (number_for g) n =
    fold_from_yields_List _ (λ found x. Some (earlier before found x)) None c.fold.result c.fold.ensures.ran
    (YieldsList-from_filter _ comes (YieldsList-from_range 0 n n (cc) (omega arith)) c.filter.ensures.closure
    (λ x r q k. search (rules, tests)))
    (λ found x b q k. search (rules, tests))
    ∙ first_folded before comes n in
    let grid = c.grid-strengths.ensures in
    next_found (number_for t) t.candidates before left c.fold.result (by_keys c.args.tie_break.now.keys)
    (folded ∙ ap (λ s. first s n) (numbers_are (number_for t) t.candidates grid)
    ∙ ap {B = Option ℕ} (λ v. first (strength (number_for t) t.candidates) v) grid.candidates)
