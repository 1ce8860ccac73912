-- Paths joined, weakened, and carried over to other wins.
use Rattle.std.proofs.Common.{◌≡◌, ℕ, ◌<◌, ◌≤◌, Bool, true, le_trans, arith}
use Rattle.std.proofs.lemmas.Bool.{ltb-true, lt-ltb}
use Rattle.paths.specs.Paths.{below, Path, step, on}

pub in_below : (n x : ℕ) → x < n → below n x ≡ true
unfolding below
in_below n x h = lt-ltb x n h

pub below_in : (n x : ℕ) → below n x ≡ true → x < n
unfolding below
below_in n x h = ltb-true x n h

-- both ends of a path stand
pub starts : {w : ℕ → ℕ → ℕ} {here : ℕ → Bool} {m x y : ℕ} → Path w here m x y → here x ≡ true
starts (step hx hy h) = hx
starts (on p hz h) = starts p

pub ends : {w : ℕ → ℕ → ℕ} {here : ℕ → Bool} {m x y : ℕ} → Path w here m x y → here y ≡ true
ends (step hx hy h) = hy
ends (on p hz h) = hz

-- what holds along each win, and goes on from one to the next, holds along a path
pub along :
    {w : ℕ → ℕ → ℕ} {here : ℕ → Bool} {m x y : ℕ} (R : ℕ → ℕ → Type 0) →
    ((a b : ℕ) → here a ≡ true → here b ≡ true → m ≤ w a b → R a b) → ((a b c : ℕ) → R a b → R b c → R a c) →
    Path w here m x y → R x y
along R one next (step {x = x} {y = y} hx hy h) = one x y hx hy h
along R one next (on {x = x} {y = y} {z = z} p hz h) = next x y z (along R one next p) (one y z (ends p) hz h)

-- one path after another
pub join : {w : ℕ → ℕ → ℕ} {here : ℕ → Bool} {m x y z : ℕ} → Path w here m x y → Path w here m y z → Path w here m x z
join p (step hy hz h) = on p hz h
join p (on q hz h) = on (join p q) hz h

-- a path is a path of less strength too
pub weaken : {w : ℕ → ℕ → ℕ} {here : ℕ → Bool} {m l x y : ℕ} → l ≤ m → Path w here m x y → Path w here l x y
weaken l (step hx hy h) = step hx hy (le_trans l h)
weaken l (on p hz h) = on (weaken l p) hz (le_trans l h)

-- where the wins among those that stand are the same, so are the paths
pub rewin :
    {w v : ℕ → ℕ → ℕ} {here : ℕ → Bool} {m x y : ℕ} →
    ((a b : ℕ) → here a ≡ true → here b ≡ true → v a b ≡ w a b) → Path w here m x y → Path v here m x y
rewin {v = v} {here = here} {m = m} f =
    along (Path v here m) (λ a b ha hb h. step ha hb (omega (arith, f a b ha hb))) (λ a b c p q. join p q)

-- where every win is reversed, so is every path
pub reverse :
    {w v : ℕ → ℕ → ℕ} {here : ℕ → Bool} {m x y : ℕ} →
    ((a b : ℕ) → here a ≡ true → here b ≡ true → v b a ≡ w a b) → Path w here m x y → Path v here m y x
reverse {v = v} {here = here} {m = m} f =
    along (λ x y. Path v here m y x) (λ a b ha hb h. step hb ha (omega (arith, f a b ha hb))) (λ a b c p q. join q p)
