use Rattle.std.proofs.Common.{◌≡◌, map}
use Rattle.std.specs.List.{filter_map}
use Rattle.calls.specs.Numbers.{number_of}
use Rattle.calls.specs.Drawn.{draw_bytes}
use Rattle.calls.proofs.drawn.Drawn.bytes.Given as goal

abbrev pub invariant-loop-piece : goal.invariant-loop-piece
invariant-loop-piece l = l.bytes.items ≡ draw_bytes (filter_map number_of (map (λ x. x.now) l.yielded))
