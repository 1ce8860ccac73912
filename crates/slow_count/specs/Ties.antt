-- What decides between equals. Assumes nothing.
use Rattle.std.specs.Prelude.{ℕ, Bool, ◌&&◌, ◌||◌, List, ◌==◌, nat_lt, slice_index}
use Rattle.slow_count.specs.declared.tie.Tie.{Tie}
use Rattle.slow_count.specs.declared.tie.Tie.TheVariants.{Keys, Drawn}
use Rattle.slow_count.specs.Draws.{drawn_before}

-- x is before y: by keys the smaller key comes first, and equal keys by number
abbrev pub before : Tie → List ℕ → ℕ → ℕ → Bool
before (Keys keys) bs x y =
    let k = slice_index keys.now x in
    let l = slice_index keys.now y in
    nat_lt k l || (k == l && nat_lt x y)
before (Drawn draw) bs x y = drawn_before bs x y draw.numbers.now
