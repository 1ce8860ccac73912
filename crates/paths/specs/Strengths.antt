-- The strength, the path and the cut of two candidates, by the wins w among the candidates below n. Assumes nothing.
use Rattle.std.specs.Prelude.{◌≡◌, ℕ, ◌<◌, List, []}
use Rattle.pairwise.specs.declared.grid.Grid.{Grid}
use Rattle.pairwise.specs.Grids.{number_for, IsZeroOutside}
use Rattle.paths.specs.Paths.{below, IsPair, Strongest}
use Rattle.paths.specs.Rows.{ShowsStrongest}
use Rattle.paths.specs.Middles.{strength, row}
use Rattle.paths.specs.Cuts.{Cut, cut}

-- s is the strength from x to y: that of the strongest path, 0 where they are not two different candidates
pub record StrengthOf (w : ℕ → ℕ → ℕ) (n x y s : ℕ) : Type 0 where
  pub strongest : IsPair n x y → Strongest w n x y s
  pub none : ¬ IsPair n x y → s ≡ 0

-- the grid has the strength of each pair, and 0 in every other cell
pub record GridOf (w : ℕ → ℕ → ℕ) (n : ℕ) (g : Grid) : Type 0 where
  pub candidates : g.candidates ≡ n
  pub each : (x y : ℕ) → StrengthOf w n x y (number_for g x y)
  pub outside : IsZeroOutside g

-- the path is a strongest one from x to y, and empty where there is none
pub record PathOf (w : ℕ → ℕ → ℕ) (n x y : ℕ) (path : List ℕ) : Type 0 where
  pub is : path ≡ row w n x y
  pub shown : 0 < strength w n x y → ShowsStrongest w (below n) n x y (strength w n x y) path
  pub none : strength w n x y ≡ 0 → path ≡ []

-- the set is a cut that no win stronger than the strength leaves, empty where x and y are not two different candidates
pub record CutOf (w : ℕ → ℕ → ℕ) (n x y set : ℕ) : Type 0 where
  pub is : set ≡ cut w n x y
  pub cuts : IsPair n x y → Cut w n x y (strength w n x y) set
  pub none : ¬ IsPair n x y → set ≡ 0
