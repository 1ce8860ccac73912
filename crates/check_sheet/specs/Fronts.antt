-- The check of files of which the fronts are kept. Assumes nothing.
use Rattle.std.specs.Prelude.{◌≡◌, ◌↔◌, ℕ, List, take, Ok, Err, Result}
use Rattle.ballots.specs.declared.refusal.Refusal.{Refusal}
use Rattle.ballots.specs.declared.refusal.Refusal.TheVariants.{Path, Cut}
use Rattle.ballots.specs.Loans.{result_of}
use Rattle.certificate.specs.Judge.{judge}
use Rattle.certificate.specs.Truth.{TrueTo, AsSaid}
use Rattle.certificate.specs.Refused.{RefusedAtPath, RefusedAtCut}
use Rattle.program.specs.Fronts.{ballots_kept, sheet_kept}

-- the answer is the judge's, with all that it says of the ballots and the sheet
pub record VerdictOn (ballots sheet : List ℕ) (r : Result (Unit {0}) Refusal) : Type 0 where
  pub verdict : r ≡ result_of (judge ballots sheet) tt
  pub truth : r ≡ Ok tt → TrueTo ballots sheet
  pub exact : (r ≡ Ok tt) ↔ AsSaid ballots sheet
  pub path : (x y : ℕ) → (r ≡ Err (Path x y)) ↔ RefusedAtPath ballots sheet x y
  pub cut : (x y : ℕ) → (r ≡ Err (Cut x y)) ↔ RefusedAtCut ballots sheet x y

-- it is the verdict on any two files of which these are the fronts that are kept
abbrev pub VerdictOnWhole : List ℕ → List ℕ → Result (Unit {0}) Refusal → Type 0
VerdictOnWhole front_ballots front_sheet r =
    (ballots sheet : List ℕ) → front_ballots ≡ take ballots_kept ballots → front_sheet ≡ take sheet_kept sheet →
    VerdictOn ballots sheet r
