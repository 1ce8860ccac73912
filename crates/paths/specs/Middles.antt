-- Strengths and paths as functions of the wins: one candidate after the other comes into the middle.
-- The laws say that they are those of strongest paths. Assumes nothing.
use Rattle.std.specs.Prelude.{ℕ, zero, suc, min, max, Bool, not, ◌&&◌, List, [], ◌∷◌, ◌++◌, ◌==◌, nat_lt, if◌then◌else◌}
use Rattle.paths.specs.Paths.{below}

-- the strength from x to y over candidates in the middle that are below k and stand: over k itself, or without it
unfoldable pub via : (ℕ → ℕ → ℕ) → (ℕ → Bool) → ℕ → ℕ → ℕ → ℕ
via w here zero x y = w x y
via w here (suc k) x y =
    if here k then max (via w here k x y) (min (via w here k x k) (via w here k k y)) else via w here k x y

-- x and y are two different candidates below n
abbrev pub pair : ℕ → ℕ → ℕ → Bool
pair n x y = nat_lt x n && (nat_lt y n && not (x == y))

-- the strength of the strongest path from x to y, 0 where they are not two different candidates below n
abbrev pub strength : (ℕ → ℕ → ℕ) → ℕ → ℕ → ℕ → ℕ
strength w n x y = if pair n x y then via w (below n) n x y else 0

-- with k in the middle the strength from x to y is above that over the candidates below k
unfoldable pub bettered : (ℕ → ℕ → ℕ) → (ℕ → Bool) → ℕ → ℕ → ℕ → Bool
bettered w here x y k = nat_lt (via w here k x y) (via w here (suc k) x y)

-- what follows x on the path to y over candidates in the middle that are below k:
-- over the last that bettered the pair, or y alone
unfoldable pub path : (ℕ → ℕ → ℕ) → (ℕ → Bool) → ℕ → ℕ → ℕ → List ℕ
path w here zero x y = y ∷ []
path w here (suc k) x y = if bettered w here x y k then path w here k x k ++ path w here k k y else path w here k x y

-- the row that shows the strength from x to y, empty where there is no path
abbrev pub row : (ℕ → ℕ → ℕ) → ℕ → ℕ → ℕ → List ℕ
row w n x y = if nat_lt 0 (strength w n x y) then x ∷ path w (below n) n x y else []
