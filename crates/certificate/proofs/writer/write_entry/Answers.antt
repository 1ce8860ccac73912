use Rattle.std.proofs.Common.{subst}
use Rattle.pairwise.specs.Grids.{number_for}
use Rattle.paths.proofs.Grids.{is_strength}
use Rattle.certificate.specs.Layout.{path_bytes, entry_bytes}
use Rattle.certificate.specs.inner.Progress.{Writes}
use Rattle.certificate.proofs.Writing.{writes_both}
use Rattle.certificate.proofs.writer.write_entry.Goals as goal

pub returns : goal.returns
unfolding entry_bytes path_bytes
returns c =
    let g = c.args.strengths.now.wins in
    let s = is_strength (number_for g) g.candidates c.at.ensures in
    subst (λ bs. Writes bs c.args.writer.now c.put-4.new.self) (cc)
    (writes_both c.put.ensures (writes_both c.put-2.ensures (writes_both c.put-3.ensures c.put-4.ensures)))
