-- What every program may be asked: what it says of itself. Assumes nothing.
use Rattle.std.specs.Prelude.{ℕ, if◌then◌else◌, List, Some, None, Option, codes, bytes_eq}
use Rattle.calls.specs.declared.call.Asks.{Asks}
use Rattle.calls.specs.declared.call.Asks.TheVariants.{Help, Version}

-- what a flag that every program has asks for
abbrev pub asks_of : List ℕ → Option Asks
asks_of w =
    if bytes_eq w (codes "--help") then Some Help
    else if bytes_eq w (codes "--version") then Some Version else None
