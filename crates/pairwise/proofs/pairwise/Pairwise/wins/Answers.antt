use Rattle.std.proofs.Common.{◌≡◌, ℕ, ◌+◌, ◌*◌, ◌/◌, ◌%◌, ◌<◌, refl, sym, ◌∙◌, arith, rules, tests}
use Rattle.std.proofs.lemmas.Bool.Decides.{nat_tests}
use Rattle.ballots.specs.Format.{most_candidates}
use Rattle.ballots.proofs.FromFn.{from_fn-at}
use Rattle.pairwise.specs.Grids.{cells, cell, within}
use Rattle.pairwise.specs.Pairwise.{win_in}
use Rattle.pairwise.specs.declared.pairwise.Pairwise.{Pairwise}
use Rattle.pairwise.proofs.Cells.{number_for-within, zero_outside}
use Rattle.pairwise.proofs.pairwise.Pairwise.wins.Goals as goal

-- outside the candidates there is no win
win_within : (t : Pairwise) (x y : ℕ) → win_in t x y ≡ within t.counts.candidates (win_in t) x y
win_within t x y = grind (arith, nat_tests)

pub returns : goal.returns
returns c =
    let t = c.args.self.now in
    let cs = c.from_fn.result in
    let win : ℕ → ℕ = λ at. win_in t (at / most_candidates) (at % most_candidates) in
    let each : (x y : ℕ) → x < most_candidates → y < most_candidates → cell cs x y ≡ within t.counts.candidates (win_in t) x y =
    λ x y xl yl. (
    let at : ℕ = x * most_candidates + y in
    let row : at / most_candidates ≡ x = omega arith in
    let column : at % most_candidates ≡ y = omega arith in
    let made = from_fn-at cs win cells at 0 c.from_fn.ensures.items (λ i r q k. search (rules, tests)) (omega arith) in
    rw (row, column) at made ∙ win_within t x y) in
    record {
      candidates = refl;
      pairs = number_for-within t.counts.candidates cs (win_in t) t.counts.few each ∙ (λ i x y. sym (win_within t x y) i);
      outside = zero_outside t.counts.candidates cs (win_in t) t.counts.few each;
    }
