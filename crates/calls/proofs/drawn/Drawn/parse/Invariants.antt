use Rattle.std.proofs.Common.{◌≡◌, true, map, is_some}
use Rattle.std.specs.List.{list_all}
use Rattle.calls.specs.Numbers.{number_of}
use Rattle.calls.proofs.drawn.Drawn.parse.Given as goal

abbrev pub invariant-loop-piece : goal.invariant-loop-piece
invariant-loop-piece l = list_all (λ piece. is_some (number_of piece)) (map (λ x. x.now) l.yielded) ≡ true
