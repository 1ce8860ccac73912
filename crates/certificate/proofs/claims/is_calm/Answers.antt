use Rattle.std.proofs.Common.{not, rules, tests}
use Rattle.ballots.proofs.Everybody.{every_from_all}
use Rattle.pairwise.specs.Pairwise.{win_in}
use Rattle.certificate.specs.Judge.{crosses}
use Rattle.certificate.proofs.claims.is_calm.Goals as goal

pub returns : goal.returns
returns c =
    every_from_all (λ b. not (crosses (win_in c.args.pairwise.now) c.args.strength c.args.set c.args.a b)) _ c.all.ensures.ran
    (λ b r q k. search (rules, tests))
