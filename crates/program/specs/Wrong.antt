-- How a program ends whose words cannot be read. Assumes nothing.
use Rattle.std_io.specs.declared.io.kind.ErrorKind.{ErrorKind}
use Rattle.std_io.specs.declared.io.kind.ErrorKind.TheVariants.{OutOfMemory}
use Rattle.program.specs.declared.ending.Ending.{Ending}
use Rattle.program.specs.declared.ending.Ending.TheVariants.{WrongCall, NoMemory}

-- memory is out, or a word is no text
abbrev pub words_ending : ErrorKind → Ending
words_ending OutOfMemory = NoMemory
words_ending _ = WrongCall
