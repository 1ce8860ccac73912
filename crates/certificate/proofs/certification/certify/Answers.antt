use Rattle.std.proofs.Common.{◌≡◌, None, IfOk, sym, refl, subst}
use Rattle.std.specs.Option.{option_or}
use Rattle.ballots.specs.Loans.{result_of}
use Rattle.pairwise.specs.Counts.{win_by}
use Rattle.pairwise.specs.Pairwise.{PairwiseOf}
use Rattle.best.specs.Comparisons.{BestSet}
use Rattle.certificate.specs.Judge.{judge}
use Rattle.certificate.specs.Certified.{certified_by, room_refusal, Leaves}
use Rattle.certificate.proofs.Exact.{said_accepted}
use Rattle.certificate.proofs.Certifying.{by_ballots, front_is}
use Rattle.certificate.proofs.Certificates.{certificate_said}
use Rattle.certificate.proofs.certification.certify.Goals as goal

pub returns : goal.returns
returns c =
    let bs = c.args.bytes.now in
    let table = c.args.table.now in
    let strengths = c.args.strengths.now in
    let sheet = c.args.sheet.now in
    let r = c.certify_strengths.result in
    let left = c.certify_strengths.new in
    let counted = c.certify_strengths.ensures in
    let file = c.of-pairwise.ensures in
    let file = subst (λ t. PairwiseOf c.in_ok-read.field-0.bytes.now t) (sym c.of.ensures) file in
    let file = subst (λ b. PairwiseOf b c.of.result.pairwise) c.in_ok-read.ensures.file file in
    let answer =
    by_ballots (λ o b v n. r ≡ result_of (option_or o (room_refusal v n table strengths sheet)) (certified_by b v n)) file counted.answer in
    let slices =
    by_ballots
    (λ o b v n. Leaves (option_or o (room_refusal v n table strengths sheet)) v n table left.table strengths left.strengths sheet left.sheet)
    file counted.slices in
    record {
      answer = answer;
      slices = slices;
      best = by_ballots (λ o b v n. IfOk r (λ k. BestSet (win_by n) v k.best)) file counted.best;
      accepted =
          front_is (λ k. judge bs k ≡ None) _ _ _ sheet
          (said_accepted bs _ (λ i. (c.type_inv.bytes i).fits) (certificate_said bs file.accepted)) refl answer slices.sheet_after;
    }
