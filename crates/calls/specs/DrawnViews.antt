-- The word of a draw. Assumes nothing.
use Rattle.std.specs.Prelude.{ℕ, List}
use Rattle.calls.specs.declared.drawn.Drawn.{Drawn}

abbrev pub drawn_word : Drawn → List ℕ
drawn_word d = d.word.now
