-- Texts in pieces. Assumes nothing.
use Rattle.std.specs.Prelude.{ℕ, List, ◌++◌}
use Rattle.program.specs.declared.said.Text.{Text}

-- the text that the pieces make
abbrev pub text_of : Text → List ℕ
text_of t = t.0.now ++ (t.1.now ++ (t.2.now ++ (t.3.now ++ (t.4.bytes ++ t.5.now))))
