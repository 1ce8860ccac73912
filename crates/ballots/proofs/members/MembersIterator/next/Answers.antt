use Rattle.std.proofs.Common.{◌≡◌, arith, rules}
use Rattle.ballots.specs.Sets.{holds, room}
use Rattle.ballots.proofs.Numbering.{members-nobody, members-first}
use Rattle.ballots.proofs.Sets.{holds_past}
use Rattle.ballots.proofs.members.MembersIterator.next.Goals as goal

pub returns-in_err-first-clause-steps : goal.returns-in_err-first-clause-steps
returns-in_err-first-clause-steps c =
    let e : c.args.self.now.left ≡ 0 = c.in_err-first.ensures in
    let none = members-nobody (holds 0) room (λ z l. holds_past 0 0 z (omega arith) (omega arith)) in
    rw (c.from_residual.ensures, e) (none, none)

pub returns-clause-steps : goal.returns-clause-steps
returns-clause-steps c =
    let h = c.in_ok-first.ensures in
    members-first (holds c.args.self.now.left) (holds c.remove.new.self) room c.in_ok-first.first
    h.low h.member h.smallest c.remove.ensures.members

pub returns-clause-goes : goal.returns-clause-goes
returns-clause-goes c =
    let h = c.in_ok-first.ensures in
    let e = members-first (holds c.args.self.now.left) (holds c.remove.new.self) room c.in_ok-first.first
    h.low h.member h.smallest c.remove.ensures.members in
    search (rules, e)
