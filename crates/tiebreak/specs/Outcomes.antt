-- The whole count: why it is refused, and what it comes to. Assumes nothing.
use Rattle.std.specs.Prelude.{◌≡◌, ℕ, ◌<◌, ◌≤◌, true, List, length, take, Some, None, Ok, Err, Option, Result, slice_index}
use Rattle.std.specs.Option.{option_or}
use Rattle.ballots.specs.declared.refusal.Refusal.{Refusal}
use Rattle.ballots.specs.Format.{candidates_in, ballots_in, ballots_of}
use Rattle.ballots.specs.Ballots.{unranked}
use Rattle.ballots.specs.Refusals.{refusal}
use Rattle.ballots.specs.Sets.{holds}
use Rattle.pairwise.specs.Counts.{win}
use Rattle.pairwise.specs.Pairwise.{counts_of}
use Rattle.paths.specs.Paths.{below}
use Rattle.paths.specs.Strengths.{GridOf}
use Rattle.best.specs.Answers.{BestOf}
use Rattle.best.specs.Best.{Best}
use Rattle.best.specs.Order.{row_of, OrderOf}
use Rattle.certificate.specs.Certified.{room_refusal, certificate_by}
use Rattle.certificate.specs.Judge.{judge}
use Rattle.tiebreak.specs.declared.outcome.Outcome.{Outcome}
use Rattle.tiebreak.specs.Draws.{draw_refusal, drawn_ballots, before_by_ballots}

-- why the count is refused: the ballots, then the draw, then the slices that are lent for table, strengths and certificate
abbrev pub count_refusal : List ℕ → List ℕ → List ℕ → List ℕ → List ℕ → Option Refusal
count_refusal bytes draw table strengths sheet =
    option_or (refusal bytes)
    (option_or (draw_refusal (ballots_in bytes) draw)
    (room_refusal (candidates_in bytes) (counts_of bytes) table strengths sheet))

-- o is what the ballots come to, with the draw between equals
pub record OutcomeOf (bytes draw : List ℕ) (o : Outcome) : Type 0 where
  pub ballots : o.ballots ≡ ballots_in bytes
  pub best : BestOf bytes o.best
  pub strengths : GridOf (win unranked (ballots_of bytes)) (candidates_in bytes) o.strengths
  pub order : OrderOf (win unranked (ballots_of bytes)) (candidates_in bytes)
      (before_by_ballots unranked (drawn_ballots bytes draw)) o.order
  pub length_is : o.length ≡ length (certificate_by (candidates_in bytes) (counts_of bytes))

-- r is the outcome, or why the count is refused
abbrev pub ComesTo : List ℕ → List ℕ → Option Refusal → Result Outcome Refusal → Type 0
ComesTo bytes draw refused (Ok o) = (refused ≡ None) × OutcomeOf bytes draw o
ComesTo bytes draw refused (Err e) = refused ≡ Some e

-- what holds of every outcome: the certificate lies within the slice and the checker accepts it, somebody is among the best,
-- and the adopted candidate is one of them
pub record Trusted (bytes sheet : List ℕ) (o : Outcome) : Type 0 where
  pub within : o.length ≤ length sheet
  pub accepted : judge bytes (take o.length sheet) ≡ None
  pub somebody : (x : ℕ) × (x < candidates_in bytes) × (holds o.best x ≡ true)
  pub adopted : let first = slice_index (row_of o.order) 0 in
      Best (win unranked (ballots_of bytes)) (below (candidates_in bytes)) first

-- the set of the best in what is answered
abbrev pub best_part : Result Outcome Refusal → Result ℕ Refusal
best_part (Ok o) = Ok o.best
best_part (Err e) = Err e
