-- What a certificate is that is refused at a path or at a cut: as said up to there, and not there. Assumes nothing.
use Rattle.std.specs.Prelude.{◌≡◌, ℕ, ◌^◌, ◌<◌, List, ◌∷◌, ◌++◌, None}
use Rattle.std.specs.List.{flat_map}
use Rattle.ballots.specs.Format.{candidates_in}
use Rattle.ballots.specs.Refusals.{refusal}
use Rattle.pairwise.specs.Counts.{win_by}
use Rattle.pairwise.specs.Pairs.{pairs}
use Rattle.pairwise.specs.Pairwise.{counts_of}
use Rattle.paths.specs.Cuts.{Cut}
use Rattle.certificate.specs.Layout.{number_size, set_size, Entry, path_bytes, entry_bytes, table_bytes}
use Rattle.certificate.specs.Truth.{ShowsStrength, AllSupported}

-- the ballots are accepted, and the certificate has their table, entries that are as said for the pairs before x, y,
-- and behind them the rest
pub record SaidBefore (bytes sheet : List ℕ) (x y : ℕ) (rest : List ℕ) : Type 0 where
  pub accepted : refusal bytes ≡ None
  pub before : List (ℕ × ℕ)
  pub after : List (ℕ × ℕ)
  pub order : pairs (candidates_in bytes) ≡ before ++ ((x, y) ∷ after)
  pub entries : List Entry
  pub supported : AllSupported (win_by (counts_of bytes)) (candidates_in bytes) before entries
  pub layout : sheet ≡ table_bytes (candidates_in bytes) (counts_of bytes) ++ (flat_map entry_bytes entries ++ rest)

-- next come the strength and the path of the pair x, y, and the path does not show the strength
pub record RefusedAtPath (bytes sheet : List ℕ) (x y : ℕ) : Type 0 where
  pub strength : ℕ
  pub fits : strength < 256 ^ number_size
  pub path : List ℕ
  pub rest : List ℕ
  pub said : SaidBefore bytes sheet x y (path_bytes strength path ++ rest)
  pub wrong : ¬ ShowsStrength (win_by (counts_of bytes)) (candidates_in bytes) x y strength path

-- next comes the entry of the pair x, y, whose path shows the strength and whose cut does not bound it
pub record RefusedAtCut (bytes sheet : List ℕ) (x y : ℕ) : Type 0 where
  pub entry : Entry
  pub fits : entry.cut < 256 ^ set_size
  pub rest : List ℕ
  pub said : SaidBefore bytes sheet x y (entry_bytes entry ++ rest)
  pub path : ShowsStrength (win_by (counts_of bytes)) (candidates_in bytes) x y entry.strength entry.path
  pub wrong : ¬ Cut (win_by (counts_of bytes)) (candidates_in bytes) x y entry.strength entry.cut
