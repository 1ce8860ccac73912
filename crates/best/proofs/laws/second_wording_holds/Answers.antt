use Rattle.best.proofs.Wordings.{
  somebody_wins,
  preceding_goes_on,
  inner_circle_wins,
  moving_up_does_no_harm,
  turned_ballots_turn_the_result,
  clones_do_not_matter,
}
use Rattle.best.proofs.laws.second_wording_holds.Goals as goal

pub returns : goal.returns
returns c =
    record {
      somebody = somebody_wins;
      preceding = preceding_goes_on;
      circle = inner_circle_wins;
      up = moving_up_does_no_harm;
      turned = turned_ballots_turn_the_result;
      clones = clones_do_not_matter;
    }
