-- The certificate of pairwise counts, part by part. Assumes nothing.
use Rattle.std.specs.Prelude.{ℕ, List}
use Rattle.std.specs.List.{flat_map}
use Rattle.pairwise.specs.declared.pairwise.Pairwise.{Pairwise}
use Rattle.pairwise.specs.Grids.{number_for}
use Rattle.pairwise.specs.Pairwise.{win_in}
use Rattle.paths.specs.declared.strengths.Strengths.{Strengths}
use Rattle.paths.specs.Middles.{strength}
use Rattle.best.specs.Comparisons.{best_by}
use Rattle.certificate.specs.Layout.{entry_bytes, table_bytes}
use Rattle.certificate.specs.Certified.{entry_of, entries_by, certificate_by}

-- the number of candidates and the table
abbrev pub table_of : Pairwise → List ℕ
table_of t = table_bytes t.counts.candidates (number_for t.counts)

-- the entry of the pair x, y, and those of all pairs, by the strengths of some wins
abbrev pub entry_by : Strengths → ℕ → ℕ → List ℕ
entry_by s x y = entry_bytes (entry_of (number_for s.wins) s.wins.candidates x y)

abbrev pub all_entries : Strengths → List ℕ
all_entries s = flat_map entry_bytes (entries_by (number_for s.wins) s.wins.candidates)

-- the set of the best
abbrev pub best_in : Pairwise → ℕ
best_in t = best_by (strength (win_in t) t.counts.candidates) t.counts.candidates

-- the whole
abbrev pub certificate_in : Pairwise → List ℕ
certificate_in t = certificate_by t.counts.candidates (number_for t.counts)
