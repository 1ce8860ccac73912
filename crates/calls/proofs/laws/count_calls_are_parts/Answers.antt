use Rattle.calls.proofs.Calls.{count_calls_are_parts}
use Rattle.calls.proofs.laws.count_calls_are_parts.Goals as goal

pub returns : goal.returns
returns c = count_calls_are_parts
