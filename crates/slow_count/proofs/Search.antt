-- The search through all paths, step by step.
use Rattle.std.proofs.Common.{◌≡◌, ℕ, zero, suc, ◌+◌, ◌-◌, ◌^◌, Bool, true, List, arith}
use Rattle.std.proofs.lemmas.Bool.Decides.{nat_tests}
use Rattle.std.specs.Prelude.{slice_set}
use Rattle.slow_count.specs.declared.table.TheConstants.{MOST}
use Rattle.slow_count.specs.declared.table.Table.{Table}
use Rattle.slow_count.specs.Strengths.{most_below, onward, strongest}

-- a path that ends here
pub strongest_here : (w : Table) (y left : ℕ) (visited : List Bool) (x : ℕ) → x ≡ y →
    2 ^ 32 - 1 ≡ strongest w y left visited x
unfolding strongest
strongest_here w y zero visited x e = grind (arith, nat_tests)
strongest_here w y (suc left) visited x e = grind (arith, nat_tests)

-- no candidate is left to go on to
pub strongest_end : (w : Table) (y left : ℕ) (visited : List Bool) (x : ℕ) → ¬ (x ≡ y) → left ≡ 0 →
    0 ≡ strongest w y left visited x
unfolding strongest
strongest_end w y zero visited x ne e = grind (arith, nat_tests)
strongest_end w y (suc left) visited x ne e = grind (arith, nat_tests)

-- some candidate is
pub strongest_onward : (w : Table) (y left rest : ℕ) (visited : List Bool) (x : ℕ) → ¬ (x ≡ y) → left ≡ rest + 1 →
    most_below (onward w (λ z. strongest w y rest (slice_set visited z true) z) visited x) MOST
    ≡ strongest w y left visited x
unfolding strongest
strongest_onward w y zero rest visited x ne e = absurd (let z : ⊥ = omega arith in z)
strongest_onward w y (suc left) rest visited x ne e =
    let same : left ≡ rest = omega arith in rw same (grind (arith, nat_tests))
