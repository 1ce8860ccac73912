use Rattle.std.proofs.Common.{◌≡◌, ◌%◌, sym, ap, ◌∙◌, arith}
use Rattle.std.proofs.lemmas.Result.{err_from_is_err_and}
use Rattle.ballots.specs.Refusals.{refusal}
use Rattle.count.proofs.Whole.{ballots_refused, half_refused, whole_counted}
use Rattle.count.proofs.fronts.count_fronts.Goals as goal

pub returns-in_err-read : goal.returns-in_err-read
returns-in_err-read c = λ bytes all fronts.
    let e = err_from_is_err_and c.from_residual.result c.from_residual.ensures.1 in
    rw (e.1, e.2)
    (ballots_refused c.args.ballots.now c.args.draw.now bytes all (λ i. (c.type_inv.ballots i).fits) fronts
    c.args.table.now c.args.strengths.now c.args.sheet.now _ c.in_err-read.ensures.refused)

pub returns-then-odd : goal.returns-then-odd
returns-then-odd c = λ bytes all fronts.
    half_refused c.args.ballots.now c.args.draw.now bytes all (λ i. (c.type_inv.ballots i).fits) fronts
    c.args.table.now c.args.strengths.now c.args.sheet.now
    (sym (ap refusal c.in_ok-read.ensures.file) ∙ c.in_ok-read.field-0.accepted) (omega arith)

pub returns : goal.returns
returns c = λ bytes all fronts.
    let even : c.args.draw.now.length % 2 ≡ 0 = omega arith in
    whole_counted c.args.ballots.now c.args.draw.now bytes all (λ i. (c.type_inv.ballots i).fits) fronts even
    c.deref.result.now c.deref.ensures.value (record {
      outcome = c.count.ensures.outcome;
      slices = c.count.ensures.slices;
      report = c.count.ensures.report;
      trusted = c.count.ensures.trusted;
      clones = c.count.ensures.clones;
      one = c.count.ensures.one;
    })
