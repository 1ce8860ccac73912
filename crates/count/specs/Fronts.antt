-- The count of files of which no more is kept than can matter. Assumes nothing.
use Rattle.std.specs.Prelude.{◌≡◌, ℕ, ◌^◌, ◌<◌, List, length, take, IfOk, Result}
use Rattle.ballots.specs.declared.refusal.Refusal.{Refusal}
use Rattle.ballots.specs.Format.{candidates_in}
use Rattle.pairwise.specs.Pairwise.{counts_of}
use Rattle.best.specs.Answers.{CloneIndependent, IndependentByOne}
use Rattle.certificate.specs.Certified.{Leaves}
use Rattle.program.specs.declared.front.Front.{Front}
use Rattle.program.specs.Fronts.{IsFront, ballots_kept, draw_kept}
use Rattle.tiebreak.specs.declared.outcome.Outcome.{Outcome}
use Rattle.tiebreak.specs.Outcomes.{count_refusal, ComesTo, Trusted, best_part}
use Rattle.tiebreak.specs.Reports.{report_of, ReportOf}

-- the ballots and the draw are what is kept of these bytes
pub record AreFronts (ballots : List ℕ) (draw : Front) (bytes all : List ℕ) : Type 0 where
  pub ballots_front : ballots ≡ take ballots_kept bytes
  pub draw_front : IsFront draw_kept all draw
  pub countable : length all < 2 ^ 64

-- r is what the whole count of these bytes with this draw answers, and the lent slices are as it leaves them
pub record CountsWhole (bytes draw table table' strengths strengths' sheet sheet' : List ℕ) (r : Result Outcome Refusal) : Type 0 where
  pub outcome : ComesTo bytes draw (count_refusal bytes draw table strengths sheet) r
  pub slices :
      Leaves (count_refusal bytes draw table strengths sheet) (candidates_in bytes) (counts_of bytes)
      table table' strengths strengths' sheet sheet'
  pub report : IfOk r (λ o. ReportOf bytes draw (report_of o))
  pub trusted : IfOk r (λ o. Trusted bytes sheet' o)
  pub clones : CloneIndependent bytes (best_part r)
  pub one : IndependentByOne bytes (best_part r)
