-- Lists that stand several times one after the other.
use Rattle.std.proofs.Common.{◌≡◌, ℕ, zero, suc, List, ◌++◌, rules, append_assoc}
use Rattle.std.specs.Prelude.{replicate}
use Rattle.std.specs.List.{flat_map}

-- once more behind them is once more in all
pub repeated_append : (bs : List ℕ) (n : ℕ) →
    flat_map (λ r. r) (replicate n bs) ++ bs ≡ flat_map (λ r. r) (replicate (suc n) bs)
repeated_append bs zero = search rules
repeated_append bs (suc n) = search (rules, append_assoc, repeated_append bs n)
