use Rattle.std.proofs.Common.{sym, ◌∙◌}
use Rattle.certificate.proofs.Support.{tests_strength}
use Rattle.certificate.proofs.verdict.check_entry.Goals as goal

pub returns-clause-strength : goal.returns-clause-strength
returns-clause-strength c =
    tests_strength c.args.pairwise.now _ _ _ _ _ c.requires (sym c.is_path.ensures ∙ c.if-not-is_path.false) (sym c.is_cut.ensures ∙ c.if-not-is_cut.false)
