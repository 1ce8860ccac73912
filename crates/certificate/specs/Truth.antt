-- What an accepted certificate is: true to the ballots, and made of entries that are as said. Assumes nothing.
use Rattle.std.specs.Prelude.{◌≡◌, ℕ, ◌-◌, ◌⊎◌, List, [], length, None}
use Rattle.std.specs.List.{AllZip}
use Rattle.ballots.specs.Format.{candidates_in}
use Rattle.ballots.specs.Refusals.{refusal}
use Rattle.pairwise.specs.Counts.{win_by}
use Rattle.pairwise.specs.Pairs.{pairs}
use Rattle.pairwise.specs.Pairwise.{counts_of}
use Rattle.paths.specs.Paths.{below, Strongest}
use Rattle.paths.specs.Rows.{Shows}
use Rattle.paths.specs.Cuts.{Cut}
use Rattle.best.specs.Comparisons.{BestSet}
use Rattle.certificate.specs.Layout.{set_size, Entry, certificate_of}
use Rattle.certificate.specs.Reading.{set_at, entries_in}

-- the strengths of the entries, one for each pair of different candidates below v, are those of the strongest paths
abbrev pub StrengthsAreTrue : (ℕ → ℕ → ℕ) → ℕ → List Entry → Type 0
StrengthsAreTrue w v = AllZip (λ xy e. Strongest w v xy.0 xy.1 e.strength) (pairs v)

-- the strengths in the certificate are true, and its last bytes are the set of the best
pub record TrueTo (bytes sheet : List ℕ) : Type 0 where
  pub strengths :
      StrengthsAreTrue (win_by (counts_of bytes)) (candidates_in bytes) (entries_in (candidates_in bytes) sheet)
  pub best : BestSet (win_by (counts_of bytes)) (candidates_in bytes) (set_at sheet (length sheet - set_size))

-- the row is a path from x to y of the strength s, or it is of nobody and s is 0
abbrev pub ShowsStrength : (ℕ → ℕ → ℕ) → ℕ → ℕ → ℕ → ℕ → List ℕ → Type 0
ShowsStrength w v x y s row = ((row ≡ []) × (s ≡ 0)) ⊎ Shows w (below v) x y s row

-- the entry of the pair x, y is as said: its path shows the strength, and its cut bounds it
pub record Supports (w : ℕ → ℕ → ℕ) (v x y : ℕ) (e : Entry) : Type 0 where
  pub path : ShowsStrength w v x y e.strength e.path
  pub cut : Cut w v x y e.strength e.cut

-- each entry of the pairs is
abbrev pub AllSupported : (ℕ → ℕ → ℕ) → ℕ → List (ℕ × ℕ) → List Entry → Type 0
AllSupported w v = AllZip (λ xy e. Supports w v xy.0 xy.1 e)

-- the ballots are accepted, and the certificate has their table, entries that are as said, and the set of the best
pub record AsSaid (bytes sheet : List ℕ) : Type 0 where
  pub accepted : refusal bytes ≡ None
  pub entries : List Entry
  pub supported : AllSupported (win_by (counts_of bytes)) (candidates_in bytes) (pairs (candidates_in bytes)) entries
  pub set : ℕ
  pub best : BestSet (win_by (counts_of bytes)) (candidates_in bytes) set
  pub layout : sheet ≡ certificate_of (candidates_in bytes) (counts_of bytes) entries set
