-- Numbers added to the numbers of all pairs, which stand in rows of w, one row after the other.
use Rattle.std.proofs.Common.{◌≡◌, ℕ, ◌+◌, ◌*◌, ◌<◌, ◌≤◌, ◌∙◌, cond, ltb, List, length, get_or, inl, inr, arith}
use Rattle.std.proofs.lemmas.Bool.{cases_lt}
use Rattle.std.proofs.lemmas.Nat.{mul-add-lt, mul-le}
use Rattle.ballots.specs.Ballots.{rank_of}
use Rattle.pairwise.specs.Pairwise.{preference}
use Rattle.pairwise.proofs.Preferences.{preference_by_key}

-- what stands for the pair x, y
abbrev pub number : ℕ → List ℕ → ℕ → ℕ → ℕ
number w ns x y = get_or ns (x * w + y) 0

-- to rows before x there is added, the others are as they were
abbrev pub RowsAdded : ℕ → (ℕ → ℕ → ℕ) → ℕ → List ℕ → List ℕ → Type 0
RowsAdded w more x old new =
    ((a b : ℕ) → a < x → b < w → number w new a b ≡ number w old a b + more a b)
    × ((a b : ℕ) → x ≤ a → b < w → number w new a b ≡ number w old a b)

-- in row x there is added to the numbers before y, all others are as they were
abbrev pub RowAdded : ℕ → (ℕ → ℕ) → ℕ → ℕ → List ℕ → List ℕ → Type 0
RowAdded w more x y old new =
    ((k : ℕ) → k < x * w → get_or new k 0 ≡ get_or old k 0)
    × ((b : ℕ) → b < y → number w new x b ≡ number w old x b + more b)
    × ((k : ℕ) → x * w + y ≤ k → get_or new k 0 ≡ get_or old k 0)

-- one row more
pub row_more : (w x y : ℕ) (more : ℕ → ℕ → ℕ) (here : ℕ → ℕ) (old mid new : List ℕ) →
    ((b : ℕ) → b < w → here b ≡ more x b) → RowsAdded w more x old mid → y ≡ w → RowAdded w here x y mid new →
    RowsAdded w more (x + 1) old new
row_more w x y more here old mid new says rows all row = (
  (λ a b h k.
      elim (cases_lt a x) [
        | inl l ↦ row.0 _ (omega (arith, mul-add-lt a w b x l k)) ∙ rows.0 a b l k
        | inr l ↦
            let same : a ≡ x = omega arith in
            rw same (omega (arith, row.1 b (omega arith), rows.1 x b (omega arith) k, says b k))
      ]),
  λ a b h k. row.2 _ (omega (arith, mul-le (x + 1) w a w h (omega arith))) ∙ rows.1 a b (omega arith) k,
)

-- one more for each of the others above the key
abbrev pub above : ℕ → List ℕ → ℕ → ℕ
above key others b = cond (ltb key (get_or others b 0)) 1 0

-- by keys of a ballot in its candidates' order, these are its preferences
pub above_says : (w x : ℕ) (p ks others : List ℕ) (key : ℕ)
    → ((k : ℕ) → k < length p → get_or ks k 0 + 1 ≡ rank_of (get_or p k 0)) → ((k : ℕ) → length p ≤ k → get_or ks k 0 ≡ 0)
    → x < length p → key ≡ get_or ks x 0 → ((b : ℕ) → b < w → get_or others b 0 ≡ get_or ks b 0)
    → (b : ℕ) → b < w → above key others b ≡ preference p x b
above_says w x p ks others key ranked past h first second b k =
    rw (first, second b k) (preference_by_key p ks x b ranked past h)
