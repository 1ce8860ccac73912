-- How the strengths are found: from the wins, over one middle after the other, without the circles. Assumes nothing.
use Rattle.std.specs.Prelude.{◌≡◌, ℕ, ◌<◌, min, max, ◌&&◌, ◌||◌, List, ◌==◌, ◌≢◌, nat_lt, if◌then◌else◌}
use Rattle.ballots.specs.Format.{most_candidates}
use Rattle.ballots.specs.Sets.{holds}
use Rattle.pairwise.specs.Grids.{cell}

-- each cell has the win of its pair
abbrev pub HasWins : (ℕ → ℕ → ℕ) → List ℕ → Type 0
HasWins w cs = (x y : ℕ) → x < most_candidates → y < most_candidates → cell cs x y ≡ w x y

-- the strength from x to y with k in the middle
abbrev pub strength_over : List ℕ → ℕ → ℕ → ℕ → ℕ
strength_over cs k x y = min (cell cs x k) (cell cs k y)

-- the pair x, y has the greater of its strength and that over k, and k among its middles where that is greater;
-- all other pairs are as they were
pub record Tried (k x y : ℕ) (cs hs cs' hs' : List ℕ) : Type 0 where
  pub strength : cell cs' x y ≡ max (cell cs x y) (strength_over cs k x y)
  pub middles :
      (z : ℕ) → z < most_candidates →
      holds (cell hs' x y) z ≡ ((nat_lt (cell cs x y) (strength_over cs k x y) && z == k) || holds (cell hs x y) z)
  pub others :
      (a b : ℕ) → b < most_candidates → (a ≡ x → b ≢ y) →
      (cell cs' a b ≡ cell cs a b) × (cell hs' a b ≡ cell hs a b)

-- the cells of the candidates below n with themselves have 0, all other cells are as they were
abbrev pub Cleared : ℕ → List ℕ → List ℕ → Type 0
Cleared n cs cs' =
    (x y : ℕ) → x < most_candidates → y < most_candidates →
    cell cs' x y ≡ (if x == y && nat_lt x n then 0 else cell cs x y)
