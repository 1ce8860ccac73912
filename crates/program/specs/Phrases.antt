-- Words and numbers. Assumes nothing.
use Rattle.std.specs.Prelude.{ℕ, List, ◌++◌, decimal}

-- a number behind words, and what follows it
abbrev pub numbered : List ℕ → ℕ → List ℕ → List ℕ
numbered words number rest = words ++ (decimal number ++ rest)
