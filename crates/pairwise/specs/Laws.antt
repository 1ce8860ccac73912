-- What holds of the counts of any vote. Each is a statement, a type whose proof is owed. Assumes nothing.
use Rattle.std.specs.Prelude.{◌≡◌, ℕ, ◌<◌, Bool, true, List, None}
use Rattle.std.specs.List.Sorted.{IsPermutation}
use Rattle.ballots.specs.Format.{candidates_in, ballots_of}
use Rattle.ballots.specs.Ballots.{unranked}
use Rattle.ballots.specs.Refusals.{refusal}
use Rattle.ballots.specs.Strikes.{new_number, struck_file}
use Rattle.pairwise.specs.declared.pairwise.Pairwise.{Pairwise}
use Rattle.pairwise.specs.Counts.{count}
use Rattle.pairwise.specs.Grids.{table}
use Rattle.pairwise.specs.Pairwise.{PairwiseOf}

-- the order of the ballots does not matter to a count
abbrev pub CountOrderFree : Type 0
CountOrderFree =
    (last : ℕ) (ps qs : List (List ℕ)) (x y : ℕ) → IsPermutation ps qs → count last qs x y ≡ count last ps x y

-- nor to the table: two files of as many candidates whose ballots are the same in another order have one table
abbrev pub TableOrderFree : Type 0
TableOrderFree =
    (bs cs : List ℕ) (t u : Pairwise) → PairwiseOf bs t → PairwiseOf cs u →
    candidates_in cs ≡ candidates_in bs → IsPermutation (ballots_of bs) (ballots_of cs) →
    table u.counts ≡ table t.counts

-- of the candidates that stay, as many ballots of the struck file put the one over the other as of the file itself
abbrev pub StruckCounts : Type 0
StruckCounts =
    (keep : ℕ → Bool) (bs : List ℕ) (x y : ℕ) → refusal bs ≡ None → x < candidates_in bs → y < candidates_in bs →
    keep x ≡ true → keep y ≡ true →
    count unranked (ballots_of (struck_file keep bs)) (new_number keep x) (new_number keep y)
    ≡ count unranked (ballots_of bs) x y
