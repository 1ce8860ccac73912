use Rattle.std.proofs.Common.{◌≡◌, ◌++◌, map, string_bytes, codes, decimal}
use Rattle.std.specs.List.{filter_map, flat_map}
use Rattle.calls.specs.Numbers.{number_of}
use Rattle.calls.proofs.drawn.Drawn.line.Given as goal

abbrev pub invariant-loop-piece : goal.invariant-loop-piece
invariant-loop-piece l =
    string_bytes l.line ≡ codes "drawn" ++ flat_map (λ n. codes " " ++ decimal n) (filter_map number_of (map (λ x. x.now) l.yielded))
