use Rattle.std.proofs.Common.{◌≤◌, length, sym, ap, arith}
use Rattle.ballots.specs.Loans.{result_of}
use Rattle.pairwise.specs.Grids.{number_for}
use Rattle.certificate.specs.Certified.{certificate_by}
use Rattle.certificate.proofs.Certificates.{none_is_longer}
use Rattle.certificate.proofs.Certifying.{short_table, short_strengths, short_sheet, all_room}
use Rattle.certificate.proofs.certification.check_room.Goals as goal
use Rattle.certificate.proofs.certification.check_room.Goals.{else-sheet-longest-via-then-sheet-longest+else-sheet-sheet_length, else-sheet-longest-via-else-sheet-longest}

pub returns-then-table-numbers : goal.returns-then-table-numbers
returns-then-table-numbers c =
    sym (ap (λ o. result_of o tt) (short_table _ _ _ _ _ c.if-table-numbers.true))

pub returns-then-strengths-numbers : goal.returns-then-strengths-numbers
returns-then-strengths-numbers c =
    sym (ap (λ o. result_of o tt) (short_strengths _ _ _ _ _ c.if-table-numbers.false c.if-strengths-numbers.true))

pub returns-then-sheet-sheet_length : goal.returns-then-sheet-sheet_length
returns-then-sheet-sheet_length c =
    let short = rw c.sheet_length.ensures at c.if-sheet-sheet_length.true in
    sym (ap (λ o. result_of o tt) (short_sheet _ _ _ _ _ c.if-table-numbers.false c.if-strengths-numbers.false short))

pub returns : goal.returns
returns c =
    let g = c.args.counted.now.pairwise.counts in
    let sheet = c.args.sheet.now in
    let long : length (certificate_by g.candidates (number_for g)) ≤ length sheet = elim c.else-sheet-longest.branch [
      | else-sheet-longest-via-then-sheet-longest+else-sheet-sheet_length w ↦ rw w.sheet_length.ensures at w.if-sheet-sheet_length.false
      | else-sheet-longest-via-else-sheet-longest w ↦
          omega (arith, c.longest.ensures, w.if-sheet-longest.false, none_is_longer g.candidates (number_for g))
    ] in
    sym (ap (λ o. result_of o tt) (all_room _ _ _ _ _ c.if-table-numbers.false c.if-strengths-numbers.false long))
