use Rattle.ballots.specs.Ballots.{over}
use Rattle.ballots.proofs.ballot.Ballot.over.Goals as goal

pub returns : goal.returns
unfolding over
returns c = rw (c.rank.ensures, c.rank-2.ensures)
