use Rattle.provisional.proofs.Taking.{takes_ok}
use Rattle.provisional.proofs.Provisional.add.Goals as goal

pub returns-clause-taken : goal.returns-clause-taken
returns-clause-taken c =
    takes_ok c.args.self.now record { pairwise = c.add.new.self } c.args.ballot.ranks.now
    c.add.result c.add.ensures.answer c.add.ensures.counted
