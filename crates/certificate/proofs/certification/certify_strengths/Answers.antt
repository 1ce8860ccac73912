use Rattle.ballots.specs.declared.refusal.Lent.TheVariants as lent
use Rattle.best.specs.Comparisons.{BestSet}
use Rattle.certificate.proofs.Certifying.{by_counts, copied_strengths, best_counted}
use Rattle.certificate.proofs.Certifying.{refused_is, leaves_all, copied_never, has_rooms, leaves_fronts}
use Rattle.certificate.proofs.certification.certify_strengths.Goals as goal

pub returns-in_err-check_room-clause-slices : goal.returns-in_err-check_room-clause-slices
returns-in_err-check_room-clause-slices c = leaves_all _ _ _ _ _ (refused_is _ tt _ c.in_err-check_room.ensures)

pub returns-in_err-copy_to-2 : goal.returns-in_err-copy_to-2
returns-in_err-copy_to-2 c =
    let room = has_rooms _ _ _ _ _ c.in_ok-check_room.ensures in
    absurd (copied_never lent.Strengths room.for_strengths (copied_strengths c.args.counted.now c.in_err-copy_to-2.ensures))

pub write_certificate-length-requires-clause-room : goal.write_certificate-length-requires-clause-room
write_certificate-length-requires-clause-room c = (has_rooms _ _ _ _ _ c.in_ok-check_room.ensures).for_sheet

pub write_certificate-length-requires-clause-best : goal.write_certificate-length-requires-clause-best
write_certificate-length-requires-clause-best c = best_counted c.args.counted.now c.best-best.ensures

pub returns : goal.returns
returns c =
    let me = c.args.counted.now in
    let room = has_rooms _ _ _ _ _ c.in_ok-check_room.ensures in
    let strengths = copied_strengths me c.in_ok-copy_to-2.ensures in
    let written = c.write_certificate-length.ensures in
    record {
      answer = rw (room.none, best_counted me c.best-best.ensures, written.length);
      slices = leaves_fronts _ _ _ _ _ room c.in_ok-copy_to.ensures strengths written.sheet;
      best = by_counts me (λ w v. BestSet w v c.best-best.result) c.best-best.ensures;
    }
