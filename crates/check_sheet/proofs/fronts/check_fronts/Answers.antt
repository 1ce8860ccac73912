use Rattle.check_sheet.proofs.Verdicts.{verdict_on_whole}
use Rattle.check_sheet.proofs.fronts.check_fronts.Goals as goal

pub returns : goal.returns
returns c =
    verdict_on_whole _ _ _ (λ i. (c.type_inv.ballots i).fits) (λ i. (c.type_inv.sheet i).fits)
    (record {
      verdict = c.check.ensures.verdict;
      truth = c.check.ensures.truth;
      exact = c.check.ensures.exact;
      path = c.check.ensures.path;
      cut = c.check.ensures.cut;
    })
