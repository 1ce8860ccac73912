use Rattle.std.proofs.Common.{◌≡◌, ◌+◌, ◌≤◌, length, refl, arith}
use Rattle.std.specs.List.{flat_map}
use Rattle.pairwise.specs.Grids.{number_for}
use Rattle.certificate.specs.declared.TheConstants.{LONGEST}
use Rattle.certificate.specs.declared.counted.Counted.{Counted}
use Rattle.certificate.specs.Layout.{set_size, table_size, entry_bytes}
use Rattle.certificate.specs.Certified.{entries_by}
use Rattle.certificate.specs.inner.Parts.{all_entries, certificate_in}
use Rattle.certificate.proofs.Certificates.{certificate_length, room_for_any}
use Rattle.certificate.proofs.Certifying.{by_counts}
use Rattle.certificate.proofs.counted.Counted.sheet_length.Goals as goal

module _ (me : Counted) where
  total : length (certificate_in me.pairwise) ≡ table_size me.pairwise.counts.candidates + length (all_entries me.strengths) + set_size
  total =
      let same = by_counts me (λ w v. length (flat_map entry_bytes (entries_by w v)) ≡ length (all_entries me.strengths)) refl in
      omega (arith, certificate_length me.pairwise.counts.candidates (number_for me.pairwise.counts), same)

  small : length (certificate_in me.pairwise) ≤ LONGEST
  small = room_for_any me.pairwise.counts.candidates (number_for me.pairwise.counts) me.pairwise.counts.few

pub overflow_add-result-2 : goal.overflow_add-result-2
overflow_add-result-2 c = omega (arith, total c.args.self.now, small c.args.self.now, c.entries_length-entries.ensures)

pub overflow_add-result-3 : goal.overflow_add-result-3
overflow_add-result-3 c = omega (arith, total c.args.self.now, small c.args.self.now, c.entries_length-entries.ensures)

pub returns : goal.returns
returns c = omega (arith, total c.args.self.now, c.entries_length-entries.ensures)
