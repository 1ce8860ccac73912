use Rattle.std.proofs.Common.{rules}
use Rattle.slow_count.proofs.wins.wins_of.Goals as goal

pub returns : goal.returns
returns c k low = let number = c.of.ensures k low in search rules
