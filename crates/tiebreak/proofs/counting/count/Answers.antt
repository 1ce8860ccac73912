use Rattle.std.proofs.Common.{◌≡◌, ℕ, ◌≤◌, List, length, drop, None, Ok, sym, refl, ap, ◌∙◌, subst, arith}
use Rattle.std.proofs.lemmas.Result.{err_from_is_err_and}
use Rattle.ballots.specs.Format.{candidates_in, ballots_in}
use Rattle.ballots.specs.Ballots.{unranked}
use Rattle.ballots.proofs.Loans.{result_of-ok}
use Rattle.pairwise.specs.Counts.{win_by}
use Rattle.pairwise.specs.Pairwise.{counts_of, PairwiseOf}
use Rattle.paths.specs.Strengths.{GridOf}
use Rattle.best.specs.Answers.{BestOf}
use Rattle.best.specs.Comparisons.{BestSet}
use Rattle.best.specs.declared.order.Order.{Order}
use Rattle.best.specs.Order.{OrderOf}
use Rattle.best.specs.TieBreak.{before_by}
use Rattle.best.proofs.FileWins.{best_of_wins, order_of_wins}
use Rattle.best.proofs.Striking.{answers_independent}
use Rattle.certificate.specs.declared.certification.Certified.{Certified}
use Rattle.certificate.specs.declared.counted.Counted.{Counted}
use Rattle.certificate.specs.Certified.{certified_by, certificate_by}
use Rattle.certificate.specs.Judge.{judge}
use Rattle.certificate.proofs.Certificates.{certificate_said}
use Rattle.certificate.proofs.Certifying.{by_counts, by_ballots, front_is, refused_is}
use Rattle.certificate.proofs.Exact.{said_accepted}
use Rattle.tiebreak.specs.declared.outcome.Outcome.{Outcome}
use Rattle.tiebreak.specs.Draws.{drawn_ballots, before_by_ballots}
use Rattle.tiebreak.specs.Outcomes.{count_refusal, OutcomeOf}
use Rattle.tiebreak.proofs.OutcomeParts.{Parts, counts_are, counted_answer, counted_slices, same_order, strengths_of_wins, trusted, report_says}
use Rattle.tiebreak.proofs.counting.count.Goals as goal

pub returns-in_err-certified-clause-outcome : goal.returns-in_err-certified-clause-outcome
returns-in_err-certified-clause-outcome c =
    let e = err_from_is_err_and c.from_residual-in_err-certified.result c.from_residual-in_err-certified.ensures.1 in
    let p : Parts c.args.bytes.now c.args.draw.now c.in_ok-file.file c.of-counted.result.pairwise = record {
      is = c.in_ok-file.ensures.file;
      of = subst (PairwiseOf c.in_ok-file.file.bytes.now) (sym c.of-counted.ensures) c.of.ensures;
      drawn = c.in_ok-draw.ensures.0;
    } in
    rw (e.1, e.2) (refused_is _ _ _ (counted_answer p c.args.table.now c.args.strengths.now c.args.sheet.now c.in_err-certified.ensures.answer))

pub returns-in_err-certified-clause-slices : goal.returns-in_err-certified-clause-slices
returns-in_err-certified-clause-slices c =
    let p : Parts c.args.bytes.now c.args.draw.now c.in_ok-file.file c.of-counted.result.pairwise = record {
      is = c.in_ok-file.ensures.file;
      of = subst (PairwiseOf c.in_ok-file.file.bytes.now) (sym c.of-counted.ensures) c.of.ensures;
      drawn = c.in_ok-draw.ensures.0;
    } in
    counted_slices p c.args.table.now c.args.strengths.now c.args.sheet.now c.in_err-certified.ensures.slices

pub returns : goal.returns
returns c =
    let bs : List ℕ = c.args.bytes.now in
    let draw : List ℕ = c.args.draw.now in
    let sheet : List ℕ = c.args.sheet.now in
    let v : ℕ = candidates_in bs in
    let certificate : List ℕ = certificate_by v (counts_of bs) in
    let found : Certified = certified_by (ballots_in bs) v (counts_of bs) in
    let refused = count_refusal bs draw c.args.table.now c.args.strengths.now sheet in
    let certified : Certified = c.in_ok-certified.certified in
    let me : Counted = c.of-counted.result in
    let keys : List ℕ = c.tie_break.result.keys in
    let full : Order = c.full_order-order.result in
    let (drawn, from, numbers) = c.in_ok-draw.ensures in
    let p : Parts bs draw c.in_ok-file.file me.pairwise = record {
      is = c.in_ok-file.ensures.file;
      of = subst (PairwiseOf c.in_ok-file.file.bytes.now) (sym c.of-counted.ensures) c.of.ensures;
      drawn = drawn;
    } in
    let counts : PairwiseOf bs me.pairwise = counts_are p in
    let answer = counted_answer p c.args.table.now c.args.strengths.now sheet c.in_ok-certified.ensures.answer in
    let slices = counted_slices p c.args.table.now c.args.strengths.now sheet c.in_ok-certified.ensures.slices in
    let (none, same) = result_of-ok refused found certified (sym answer) in
    let best : BestOf bs certified.best =
    best_of_wins bs counts.accepted
    (by_ballots (λ o b v n. BestSet (win_by n) v certified.best) counts c.in_ok-certified.ensures.best) in
    let order : OrderOf (win_by (counts_of bs)) v (before_by keys) full =
    by_ballots (λ o b v n. OrderOf (win_by n) v (before_by keys) full) counts
    (by_counts me (λ w v. OrderOf w v (before_by keys) full) c.full_order-order.ensures) in
    let o : Outcome = record {
      ballots = certified.ballots;
      best = certified.best;
      strengths = c.grid.result.now;
      order = full;
      length = certified.length;
    } in
    let outcome : OutcomeOf bs draw o = record {
      ballots = ap (λ k. k.ballots) (sym same);
      best = best;
      strengths =
          strengths_of_wins bs (by_ballots (λ o b v n. GridOf (win_by n) v c.grid.result.now) counts
          (by_counts me (λ w v. GridOf w v c.grid.result.now) c.grid.ensures));
      order = order_of_wins bs (before_by keys) (before_by_ballots unranked (drawn_ballots bs draw))
          (same_order p c.in_ok-draw.draw c.tie_break.result from numbers c.tie_break.ensures) order;
      length_is = ap (λ k. k.length) (sym same);
    } in
    let said = said_accepted bs certificate (λ i. (c.type_inv.bytes i).fits) (certificate_said bs counts.accepted) in
    let accepted = front_is (λ k. judge bs k ≡ None) refused found certificate sheet said refl answer slices.sheet_after in
    let some : 1 ≤ v = omega (arith, c.in_ok-file.file.some, p.of.candidates, c.in_ok-file.file.said_candidates, counts.candidates) in
    let (clones, one) = answers_independent bs (Ok certified.best) best in
    record {
      outcome = (none, outcome);
      slices = slices;
      report = report_says bs draw o (λ i. (c.type_inv.bytes i).fits) outcome;
      trusted =
          trusted bs draw o c.certify_strengths.new.sheet (drop (length certificate) sheet) some outcome
          (slices.sheet_after ∙ rw none) accepted;
      clones = clones;
      one = one;
    }
