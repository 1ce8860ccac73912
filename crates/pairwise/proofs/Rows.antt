-- Rows of one length, copied one after the other.
use Rattle.std.proofs.Common.{◌≡◌, ℕ, ◌+◌, ◌*◌, ◌<◌, ◌≤◌, List, ◌++◌, map, length, take, drop, Err, sym, ◌∙◌, add-mul, arith}
use borrow.Rule.Slice.PartMut.{put_mid}
use Rattle.std.specs.List.{range_with_len, flat_map}
use Rattle.std.proofs.lemmas.List.{length-take, length-drop, get_or-take, get_or-drop}
use Rattle.std.proofs.lemmas.List.FromFn.{length-map-range_with_len, fill_by_all}
use Rattle.std.proofs.lemmas.Bool.{lt-ltb}
use Rattle.ballots.specs.declared.refusal.Lent.{Lent}
use Rattle.ballots.specs.declared.refusal.Refusal.TheVariants.{Short}
use Rattle.ballots.specs.Format.{most_candidates}
use Rattle.ballots.proofs.Rows.{rows_more, row_behind, length_rows}
use Rattle.pairwise.specs.Grids.{cells, cell, within, rows, Copied}
use Rattle.pairwise.proofs.Cells.{within-below}

length_row : (f : ℕ → ℕ → ℕ) (v x : ℕ) → length (map (f x) (range_with_len 0 v)) ≡ v
length_row f v x = length-map-range_with_len (f x) 0 v

pub length-rows : (v : ℕ) (f : ℕ → ℕ → ℕ) → length (rows v f) ≡ v * v
length-rows v f = length_rows (λ x. map (f x) (range_with_len 0 v)) v (length_row f v) v

-- the first x rows of width v, and behind them what was there
abbrev pub front_rows : ℕ → (ℕ → ℕ → ℕ) → ℕ → List ℕ → List ℕ
front_rows v f x old = flat_map (λ i. map (f i) (range_with_len 0 v)) (range_with_len 0 x) ++ drop (x * v) old

-- one row more
pub row_more : (v x k : ℕ) (f : ℕ → ℕ → ℕ) (old out row : List ℕ) → k ≡ v → row ≡ map (f x) (range_with_len 0 v)
    → out ≡ front_rows v f x old → put_mid (x * v) k out row ≡ front_rows v f (x + 1) old
row_more v x k f old out row ek er e =
    let front : List ℕ = flat_map (λ i. map (f i) (range_with_len 0 v)) (range_with_len 0 x) in
    let n : length front ≡ x * v = length_rows (λ i. map (f i) (range_with_len 0 v)) v (length_row f v) x in
    let m : (x + 1) * v ≡ x * v + v = omega (arith, add-mul x 1 v) in
    rw (e, ek, er, m, rows_more (λ i. map (f i) (range_with_len 0 v)) x) (row_behind front (map (f x) (range_with_len 0 v)) old (x * v) v n)

-- no row is copied where there is no room for all
pub copied_short : (lent : Lent) (v : ℕ) (f : ℕ → ℕ → ℕ) (old : List ℕ) → length old < v * v →
    Copied lent (rows v f) old old (Err (Short lent))
copied_short lent v f old short =
    let n = length-rows v f in
    let t = lt-ltb (length old) (v * v) short in
    record { answer = rw (n, t); after = rw (n, t) }

-- a row of cells, as it lies in the grid
pub row_cells : (v x : ℕ) (cs : List ℕ) → v ≤ most_candidates → length cs ≡ cells → x < v →
    take v (drop (x * most_candidates) cs) ≡ map (within v (cell cs) x) (range_with_len 0 v)
row_cells v x cs few long lt =
    fill_by_all (within v (cell cs) x) (take v (drop (x * most_candidates) cs)) v 0 (simp (length-take, length-drop) (omega arith))
    (λ y l. get_or-take v (drop (x * most_candidates) cs) y 0 l
    ∙ (get_or-drop (x * most_candidates) cs y 0 ∙ sym (within-below v x y (cell cs) lt l)))
