-- What holds of all certificates. Each is a statement, a type whose proof is owed. Assumes nothing.
use Rattle.std.specs.Prelude.{◌≡◌, ℕ, ◌≤◌, length}
use Rattle.ballots.specs.Format.{most_candidates}
use Rattle.certificate.specs.declared.TheConstants.{LONGEST}
use Rattle.certificate.specs.Layout.{longest}
use Rattle.certificate.specs.Certified.{certificate_by}

-- no certificate of v candidates is longer
abbrev pub NoneIsLonger : Type 0
NoneIsLonger = (v : ℕ) (n : ℕ → ℕ → ℕ) → length (certificate_by v n) ≤ longest v

-- the room that a caller lends is that of the most candidates
abbrev pub LongestIs : Type 0
LongestIs = LONGEST ≡ longest most_candidates

-- and is enough for the certificate of any counts of any number of candidates
abbrev pub RoomForAny : Type 0
RoomForAny = (v : ℕ) (n : ℕ → ℕ → ℕ) → v ≤ most_candidates → length (certificate_by v n) ≤ LONGEST
