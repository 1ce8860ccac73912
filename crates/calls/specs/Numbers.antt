-- Numbers in words. Assumes nothing.
use Rattle.std.specs.Prelude.{ℕ, not, ◌&&◌, if◌then◌else◌, List, length, Some, None, Option, ◌==◌, nat_lt}
use Rattle.std.specs.Str.{all_ascii_digits}
use Rattle.std.specs.Str.Parse.{digits_value}

-- the number below 65536 that a word is: digits alone, one at the least
abbrev pub number_of : List ℕ → Option ℕ
number_of w =
    if all_ascii_digits w && not (length w == 0) && nat_lt (digits_value 10 w) 65536 then Some (digits_value 10 w) else None
