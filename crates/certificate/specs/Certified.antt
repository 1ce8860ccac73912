-- The certificate that is written, and what the call leaves in the lent slices. Assumes nothing.
use Rattle.std.specs.Prelude.{◌≡◌, ℕ, List, map, length, Option}
use Rattle.std.specs.Option.{option_or}
use Rattle.ballots.specs.declared.refusal.Lent.TheVariants as lent
use Rattle.ballots.specs.declared.refusal.Refusal.{Refusal}
use Rattle.ballots.specs.Format.{candidates_in}
use Rattle.ballots.specs.Loans.{slice_after, no_room}
use Rattle.ballots.specs.Refusals.{refusal}
use Rattle.pairwise.specs.Counts.{win_by}
use Rattle.pairwise.specs.Grids.{rows}
use Rattle.pairwise.specs.Pairs.{pairs}
use Rattle.pairwise.specs.Pairwise.{counts_of}
use Rattle.paths.specs.Middles.{strength, row}
use Rattle.paths.specs.Cuts.{cut}
use Rattle.best.specs.Comparisons.{best_by}
use Rattle.certificate.specs.declared.certification.Certified.{Certified}
use Rattle.certificate.specs.Layout.{Entry, certificate_of}

-- what is claimed of the pair x, y by the wins w: the strength, a strongest path, and the cut that is nearest to x
abbrev pub entry_of : (ℕ → ℕ → ℕ) → ℕ → ℕ → ℕ → Entry
entry_of w v x y = record { strength = strength w v x y; path = row w v x y; cut = cut w v x y }

-- of every pair
abbrev pub entries_by : (ℕ → ℕ → ℕ) → ℕ → List Entry
entries_by w v = map (λ xy. entry_of w v xy.0 xy.1) (pairs v)

-- the certificate of v candidates with the counts n, and the strengths, row by row
unfoldable pub certificate_by : ℕ → (ℕ → ℕ → ℕ) → List ℕ
certificate_by v n = certificate_of v n (entries_by (win_by n) v) (best_by (strength (win_by n) v) v)

abbrev pub strengths_by : ℕ → (ℕ → ℕ → ℕ) → List ℕ
strengths_by v n = rows v (strength (win_by n) v)

-- why counts are not certified: a slice that is lent for the table, the strengths or the certificate is too short
abbrev pub room_refusal : ℕ → (ℕ → ℕ → ℕ) → List ℕ → List ℕ → List ℕ → Option Refusal
room_refusal v n table strengths sheet =
    option_or (no_room lent.Table (rows v n) table)
    (option_or (no_room lent.Strengths (strengths_by v n) strengths) (no_room lent.Sheet (certificate_by v n) sheet))

-- why the ballots in the bytes are refused, or else why their counts are not certified
abbrev pub certify_refusal : List ℕ → List ℕ → List ℕ → List ℕ → Option Refusal
certify_refusal bytes table strengths sheet =
    option_or (refusal bytes) (room_refusal (candidates_in bytes) (counts_of bytes) table strengths sheet)

-- what is answered: the number of ballots, the set of the best, and the length of the certificate
abbrev pub certified_by : ℕ → ℕ → (ℕ → ℕ → ℕ) → Certified
certified_by ballots v n =
    record { ballots = ballots; best = best_by (strength (win_by n) v) v; length = length (certificate_by v n) }

-- counts, strengths and certificate stand in front of what was lent; or the call is refused, and nothing is changed
pub record Leaves (refused : Option Refusal) (v : ℕ) (n : ℕ → ℕ → ℕ)
    (table table' strengths strengths' sheet sheet' : List ℕ) : Type 0 where
  pub table_after : table' ≡ slice_after refused table (rows v n)
  pub strengths_after : strengths' ≡ slice_after refused strengths (strengths_by v n)
  pub sheet_after : sheet' ≡ slice_after refused sheet (certificate_by v n)
