-- Counts that are still growing, in two parts. Assumes nothing.
use Rattle.std.specs.Prelude.{ℕ, ◌+◌}
use Rattle.pairwise.specs.declared.counter.Counter.{Counter}
use Rattle.pairwise.specs.Grids.{cell}
use Rattle.pairwise.specs.inner.Recent.{byte}

-- what both parts count for the pair x, y
abbrev pub count_in : Counter → ℕ → ℕ → ℕ
count_in c x y = cell c.counts x y + byte c.recent x y
