use Rattle.std.proofs.Common.{◌<◌, [], sym, ◌∙◌, arith}
use Rattle.std.proofs.lemmas.Bool.Decides.{nat_tests}
use Rattle.ballots.specs.Format.{ballots_in}
use Rattle.tiebreak.proofs.Deciding.{some_ballot, drawn_next}
use Rattle.tiebreak.proofs.draw.Draw.puts_before.Goals as goal
use Rattle.tiebreak.proofs.draw.Draw.puts_before.Goals.{then-is_over-via-then-is_over, then-is_over-via-else-is_over+then-over}

pub unwrap-ballot-requires : goal.unwrap-ballot-requires
unwrap-ballot-requires c =
    let d = c.args.self.now in
    let there : c.from-number.result < ballots_in d.file.bytes.now =
    omega (arith, d.exist c.loop-number.number-index [] (omega arith), d.file.said_ballots) in
    some_ballot d.file.bytes.now c.from-number.result c.get.result there c.get.ensures

pub returns-then-is_over : goal.returns-then-is_over
returns-then-is_over c =
    let d = c.args.self.now in
    let number = c.from-number.ensures ∙ c.from_le_bytes.ensures in
    let next =
    drawn_next d.file.bytes.now d.numbers.now c.args.x c.args.y c.loop-number.number-index c.from-number.result
    c.get.result c.unwrap-ballot.result (omega arith) number c.get.ensures c.unwrap-ballot.ensures in
    sym (sym c.loop-number.invariant ∙ next ∙ elim c.then-is_over.branch [
      | then-is_over-via-then-is_over w ↦ grind (arith, nat_tests)
      | then-is_over-via-else-is_over+then-over w ↦ grind (arith, nat_tests)
    ])

pub loop-number-preserved : goal.loop-number-preserved
loop-number-preserved c =
    let d = c.args.self.now in
    let number = c.from-number.ensures ∙ c.from_le_bytes.ensures in
    let next =
    drawn_next d.file.bytes.now d.numbers.now c.args.x c.args.y c.loop-number.number-index c.from-number.result
    c.get.result c.unwrap-ballot.result (omega arith) number c.get.ensures c.unwrap-ballot.ensures in
    sym (next ∙ grind (arith, nat_tests)) ∙ c.loop-number.invariant
