use Rattle.calls.proofs.Calls.{check_calls_are_parts}
use Rattle.calls.proofs.laws.check_calls_are_parts.Goals as goal

pub returns : goal.returns
returns c = check_calls_are_parts
