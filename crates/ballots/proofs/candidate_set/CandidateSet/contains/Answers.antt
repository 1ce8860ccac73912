use Rattle.std.proofs.Common.{sym, ap, eqb, ◌∙◌, arith}
use Rattle.std.proofs.lemmas.Bool.{le-ltb}
use Rattle.std.proofs.lemmas.Nat.Bits.{shr_and_one}
use Rattle.ballots.specs.Sets.{room}
use Rattle.ballots.proofs.Sets.{holds_is, holds_past}
use Rattle.ballots.proofs.candidate_set.CandidateSet.contains.Goals as goal

pub returns-else-candidate-lt-ROOM : goal.returns-else-candidate-lt-ROOM
returns-else-candidate-lt-ROOM c =
    le-ltb c.args.candidate room (omega arith)
    ∙ sym (holds_past c.args.self room c.args.candidate (omega arith) (omega arith))

pub returns-then-candidate-lt-ROOM : goal.returns-then-candidate-lt-ROOM
returns-then-candidate-lt-ROOM c =
    let bits = c.self.inside.bits in
    rw (← c.self.view_is) (ap (λ b. eqb b 1) (shr_and_one bits c.args.candidate) ∙ sym (holds_is bits c.args.candidate))
