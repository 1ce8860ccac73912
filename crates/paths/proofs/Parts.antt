-- The path part by part: by the last middle that bettered the pair.
use Rattle.std.proofs.Common.{◌≡◌, ℕ, zero, suc, ◌+◌, ◌*◌, ◌<◌, ◌≤◌, Bool, true, false, List, [], ◌∷◌, ◌++◌, length, slice_index_or, Some, None, refl, ◌∙◌, inl, inr, arith, length-append}
use Rattle.std.proofs.lemmas.Bool.{cases_Bool, lt-ltb}
use Rattle.std.proofs.lemmas.Grind.{get_or_default_zero}
use Rattle.ballots.specs.Format.{most_candidates}
use Rattle.ballots.specs.Sets.{holds}
use Rattle.paths.specs.Paths.{below}
use Rattle.paths.specs.Rows.{ShowsStrongest}
use Rattle.paths.specs.Middles.{strength, bettered, path, row}
use Rattle.paths.specs.Strengths.{PathOf}
use Rattle.paths.specs.inner.Fields.{HasMiddles, last_below}
use Rattle.paths.proofs.Walks.{in_below, below_in}
use Rattle.paths.proofs.Pairs.{pair_two, strength_is, strength_pair}
use Rattle.paths.proofs.Rows.{path_shown}

-- the row by the last of the middles below the limit: y alone, or parted at that middle
module _ (w : ℕ → ℕ → ℕ) (here : ℕ → Bool) (x y : ℕ) where
  pub record Parted (limit k : ℕ) : Type 0 where
    pub low : k < limit
    pub row : path w here limit x y ≡ path w here k x k ++ path w here k k y
    pub long : length (path w here limit x y) ≡ length (path w here k x k) + length (path w here k k y)

  module _ (set v : ℕ) (is : (z : ℕ) → z < v → holds set z ≡ bettered w here x y z) where
    alone_below : (limit : ℕ) → limit ≤ v → None ≡ last_below set limit → path w here limit x y ≡ y ∷ []
    unfolding path
    alone_below zero l e = refl
    alone_below (suc n) l e =
        let b = is n (omega arith) in
        elim (cases_Bool (bettered w here x y n)) [
          | inl i ↦ absurd (let h : holds set n ≡ true = b ∙ i in let f : ◌≡◌ {A = ℕ} 0 1 = cc in omega arith)
          | inr o ↦ let h : holds set n ≡ false = b ∙ o in rw o (alone_below n (omega arith) (rw h at e))
        ]

    parted_below : (limit k : ℕ) → limit ≤ v → Some k ≡ last_below set limit → Parted limit k
    unfolding path
    parted_below zero k l e = absurd (let f : ◌≡◌ {A = ℕ} 0 1 = cc in omega arith)
    parted_below (suc n) k l e =
        let b = is n (omega arith) in
        elim (cases_Bool (bettered w here x y n)) [
          | inl i ↦
              let h : holds set n ≡ true = b ∙ i in
              let g : Some k ≡ Some n = rw h at e in
              let q : n ≡ k = cc in
              record {
                low = omega arith;
                row = rw (i, q);
                long = rw (i, q) (length-append (path w here k x k) (path w here k k y));
              }
          | inr o ↦
              let h : holds set n ≡ false = b ∙ o in
              let r = parted_below n k (omega arith) (rw h at e) in
              record { low = omega (arith, r.low); row = rw o r.row; long = rw o r.long }
        ]

-- the same of the set that is read from a cell of the middles
module _ (w : ℕ → ℕ → ℕ) (n : ℕ) (hs : List ℕ) (middles : HasMiddles w n hs) (x y read : ℕ) (xn : x < n) (yn : y < n)
    (fits : x * most_candidates + y < length hs) where
  abbrev set : ℕ
  set = slice_index_or hs (x * most_candidates + y) read

  set_is : (z : ℕ) → z < n → holds set z ≡ bettered w (below n) x y z
  set_is z zn = rw (get_or_default_zero hs (x * most_candidates + y) read fits) (middles x y z xn yn zn)

  pub alone : (limit : ℕ) → limit ≤ n → None ≡ last_below set limit → path w (below n) limit x y ≡ y ∷ []
  alone = alone_below w (below n) x y set n set_is

  pub parted : (limit k : ℕ) → limit ≤ n → Some k ≡ last_below set limit → Parted w (below n) x y limit k
  parted = parted_below w (below n) x y set n set_is

-- the row of a pair shows its strength
pub row_shows :
    (w : ℕ → ℕ → ℕ) (n x y : ℕ) → 0 < strength w n x y →
    ShowsStrongest w (below n) n x y (strength w n x y) (row w n x y)
row_shows w n x y some =
    let e = strength_pair w n x y some in
    let two = pair_two n x y e in
    let is = strength_is w n x y e in
    let hx = in_below n x two.first in
    let hy = in_below n y two.second in
    let shown = path_shown w (below n) n x y (below_in n) hx hy two.apart in
    rw (lt-ltb 0 (strength w n x y) some, is) (shown (rw is at some))

pub row_is : (w : ℕ → ℕ → ℕ) (n x y : ℕ) → 0 < strength w n x y → row w n x y ≡ x ∷ path w (below n) n x y
row_is w n x y some = rw (lt-ltb 0 (strength w n x y) some)

-- the row is the path of its pair
pub row_path : (w : ℕ → ℕ → ℕ) (n x y : ℕ) (found : List ℕ) → found ≡ row w n x y → PathOf w n x y found
row_path w n x y found e = record { is = e; shown = λ some. rw e (row_shows w n x y some); none = λ z. e ∙ rw z }
