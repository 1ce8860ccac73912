use Rattle.std.proofs.Common.{◌∙◌, arith}
use Rattle.std.proofs.lemmas.Bool.Decides.{nat_tests}
use Rattle.pairwise.specs.Grids.{number_for}
use Rattle.pairwise.specs.Pairwise.{win_in}
use Rattle.certificate.specs.Judge.{sheet_refusal}
use Rattle.certificate.proofs.Keeping.{best_of_grid}
use Rattle.certificate.proofs.Tables.{table_length}
use Rattle.certificate.proofs.verdict.check_against.Goals as goal

pub returns : goal.returns
unfolding sheet_refusal
returns c =
    let t = c.args.pairwise.now in
    let v = t.counts.candidates in
    let long = table_length v (number_for t.counts) in
    let best = c.best_by.ensures ∙ best_of_grid (win_in t) v _ c.in_ok-strengths.ensures.strengths in
    grind (arith, nat_tests)
