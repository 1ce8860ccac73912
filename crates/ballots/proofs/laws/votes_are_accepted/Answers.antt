use Rattle.ballots.proofs.Votes.{votes_accepted, only_votes_accepted}
use Rattle.ballots.proofs.laws.votes_are_accepted.Goals as goal

pub returns : goal.returns
returns c = record { all = votes_accepted; only = only_votes_accepted }
