use Rattle.std.proofs.Common.{◌∙◌, rules, tests}
use Rattle.ballots.proofs.Everybody.{every_from_all}
use Rattle.pairwise.specs.Pairwise.{win_in}
use Rattle.certificate.proofs.Support.{is_calm, calm_pairs}
use Rattle.certificate.proofs.claims.is_tight.Goals as goal

pub returns : goal.returns
returns c =
    let t = c.args.pairwise.now in
    every_from_all (is_calm (win_in t) c.args.strength c.args.set t.counts.candidates) _ c.all.ensures.ran
    (λ a r q k. search (rules, tests))
    ∙ calm_pairs (win_in t) c.args.strength c.args.set t.counts.candidates
