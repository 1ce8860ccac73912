use Rattle.std.proofs.Common.{◌∙◌, rules}
use Rattle.calls.proofs.Digits.{number_is, no_plus}
use Rattle.calls.proofs.numbers.number.Goals as goal

pub returns : goal.returns
returns c = c.ok.ensures.value ∙ number_is c.args.word.now c.parse.result c.parse.ensures.value.0 (no_plus c.args.word.now (search rules))
