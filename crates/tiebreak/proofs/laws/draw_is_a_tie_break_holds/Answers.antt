use Rattle.tiebreak.proofs.Deciding as Deciding
use Rattle.tiebreak.proofs.laws.draw_is_a_tie_break_holds.Goals as goal

pub returns : goal.returns
returns c = Deciding.ballots_make_a_tie_break
