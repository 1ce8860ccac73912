use Rattle.std.proofs.Common.{List, ℕ, sym, ap, ◌∙◌, subst}
use Rattle.ballots.specs.Loans.{result_of}
use Rattle.ballots.proofs.Loans.{result_of-ok}
use Rattle.pairwise.specs.Pairwise.{PairwiseOf}
use Rattle.certificate.proofs.Certifying.{refused_is}
use Rattle.certificate.proofs.Exact.{judged, accepted_true, accepted_said, said_accepted}
use Rattle.certificate.proofs.Refusing.{path_refused, cut_refused, refused_path, refused_cut}
use Rattle.certificate.proofs.verdict.check.Goals as goal

pub returns : goal.returns
returns c =
    let of = subst (λ (bs : List ℕ). PairwiseOf bs c.of-pairwise.result) c.in_ok-read.ensures.file c.of-pairwise.ensures in
    let v = c.check_against.ensures ∙ ap (λ o. result_of o tt) (judged _ _ _ of) in
    record {
      verdict = v;
      truth = λ h. accepted_true _ _ (result_of-ok _ _ _ (sym v ∙ h)).0;
      exact = (
        (λ h. accepted_said _ _ (λ i. (c.type_inv.sheet i).fits) (result_of-ok _ _ _ (sym v ∙ h)).0),
        λ s. v ∙ ap (λ o. result_of o tt) (said_accepted _ _ (λ i. (c.type_inv.bytes i).fits) s),
      );
      path = λ x y. (
        (λ h. path_refused _ _ x y (λ i. (c.type_inv.sheet i).fits) (refused_is _ tt _ (sym h ∙ v))),
        λ r. v ∙ ap (λ o. result_of o tt) (refused_path _ _ x y (λ i. (c.type_inv.bytes i).fits) r),
      );
      cut = λ x y. (
        (λ h. cut_refused _ _ x y (λ i. (c.type_inv.sheet i).fits) (refused_is _ tt _ (sym h ∙ v))),
        λ r. v ∙ ap (λ o. result_of o tt) (refused_cut _ _ x y (λ i. (c.type_inv.bytes i).fits) r),
      );
    }
