-- The order of the ballots does not matter.
use Rattle.std.proofs.Common.{◌≡◌, ℕ, ◌+◌, cond, List, [], ◌∷◌, sum_by, sym, refl, ap, ◌∙◌}
use Rattle.std.specs.List.Sorted.{IsPermutation}
use Rattle.std.proofs.lemmas.List.Sums.{sum_by-cons}
use Rattle.std.proofs.lemmas.List.Sorted.{sum_by-IsPermutation}
use Rattle.ballots.specs.Format.{candidates_in, ballots_of}
use Rattle.ballots.specs.Ballots.{unranked, over}
use Rattle.pairwise.specs.Counts.{count}
use Rattle.pairwise.specs.Grids.{within, number_for, rows}
use Rattle.pairwise.specs.Pairwise.{counts_of}
use Rattle.pairwise.specs.Laws.{CountOrderFree, TableOrderFree}

-- a count is a sum over the ballots
count_is_sum : (last : ℕ) (ps : List (List ℕ)) (x y : ℕ) → count last ps x y ≡ sum_by (λ p. cond (over last p x y) 1 0) ps
unfolding count
count_is_sum last [] x y = refl
count_is_sum last (p ∷ ps) x y =
    let rest = count_is_sum last ps x y in
    ap (λ n. cond (over last p x y) 1 0 + n) rest ∙ sym (sum_by-cons (λ p. cond (over last p x y) 1 0) p ps)

-- so their order does not matter
pub count_order_free : CountOrderFree
count_order_free last ps qs x y h =
    count_is_sum last qs x y
    ∙ (sum_by-IsPermutation (λ p. cond (over last p x y) 1 0) ps qs h ∙ sym (count_is_sum last ps x y))

-- so the counts of files of as many candidates with the same ballots in another order are one function
counts_order_free : (bs cs : List ℕ) → candidates_in cs ≡ candidates_in bs → IsPermutation (ballots_of bs) (ballots_of cs) →
    counts_of cs ≡ counts_of bs
counts_order_free bs cs e h = λ i x y. within (e i) (λ x y. count_order_free unranked (ballots_of bs) (ballots_of cs) x y h i) x y

pub table_order_free : TableOrderFree
table_order_free bs cs t u ht hu e h = λ i. rows (few i) (counts i)
  where
    few : u.counts.candidates ≡ t.counts.candidates
    few = hu.candidates ∙ (e ∙ sym ht.candidates)

    counts : number_for u.counts ≡ number_for t.counts
    counts = hu.counts ∙ (counts_order_free bs cs e h ∙ sym ht.counts)
