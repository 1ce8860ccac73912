-- What holds of the paths of any wins. Each is a statement, a type whose proof is owed. Assumes nothing.
use Rattle.std.specs.Prelude.{◌≡◌, ◌≢◌, ℕ, ◌<◌, ◌≤◌, Bool, true, List, ◌∷◌}
use Rattle.paths.specs.Paths.{below, Within, Path, Strongest}
use Rattle.paths.specs.Middles.{via, path, strength, row}
use Rattle.paths.specs.Rows.{Shows, ShowsStrongest}
use Rattle.paths.specs.Cuts.{Cut}
use Rattle.paths.specs.Strengths.{StrengthOf}

-- each two candidates have one strength
abbrev pub OneStrength : Type 0
OneStrength =
    (w : ℕ → ℕ → ℕ) (n x y : ℕ) →
    StrengthOf w n x y (strength w n x y) × ((s : ℕ) → StrengthOf w n x y s → s ≡ strength w n x y)

-- via is the strength of the strongest path, also of that from a candidate back to itself, and nothing else is
abbrev pub ViaStrongest : Type 0
ViaStrongest =
    (w : ℕ → ℕ → ℕ) (n x y : ℕ) → x < n → y < n →
    Strongest w n x y (via w (below n) n x y) × ((s : ℕ) → Strongest w n x y s → s ≡ via w (below n) n x y)

-- where the strength is not 0, the row is a strongest path, with no candidate twice
abbrev pub RowShowsStrongest : Type 0
RowShowsStrongest =
    (w : ℕ → ℕ → ℕ) (n x y : ℕ) → 0 < strength w n x y →
    ShowsStrongest w (below n) n x y (strength w n x y) (row w n x y)

-- where there is a path between two candidates of any that stand, x and what follows it by path is a strongest one,
-- with no candidate twice
abbrev pub PathShown : Type 0
PathShown =
    (w : ℕ → ℕ → ℕ) (here : ℕ → Bool) (n x y : ℕ) → Within here n → here x ≡ true → here y ≡ true → x ≢ y →
    0 < via w here n x y → ShowsStrongest w here n x y (via w here n x y) (x ∷ path w here n x y)

-- no path from x to y is stronger than the wins across a cut between them
abbrev pub CutBounds : Type 0
CutBounds = (w : ℕ → ℕ → ℕ) (n x y s set m : ℕ) → Cut w n x y s set → Path w (below n) m x y → m ≤ s

-- a path of strength s, where s is not 0, and a cut of s show together that s is the strength
abbrev pub PathAndCut : Type 0
PathAndCut =
    (w : ℕ → ℕ → ℕ) (n x y s set : ℕ) (row : List ℕ) →
    (0 < s → Shows w (below n) x y s row) → Cut w n x y s set → Strongest w n x y s
