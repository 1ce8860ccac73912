use Rattle.std.proofs.Common.{◌≡◌, true, false, length, ap, arith, rules}
use Rattle.ballots.specs.Sets.{holds}
use Rattle.ballots.proofs.Numbering.{members-zero, members-in, members-out, new_number_le}
use Rattle.ballots.proofs.striking.staying.Goals as goal
use Rattle.ballots.proofs.striking.staying.Goals.{then-contains, else-contains}

pub loop-x-init : goal.loop-x-init
loop-x-init c = rw (members-zero (holds c.args.keep)) (search rules)

pub push-requires : goal.push-requires
push-requires c = (omega arith, omega (arith, ap length c.loop-x.invariant, new_number_le (holds c.args.keep) c.loop-x.x))

pub loop-x-preserved : goal.loop-x-preserved
loop-x-preserved c = elim c.if-contains.branch [
  | then-contains w ↦
      let k : holds c.args.keep c.loop-x.x ≡ true = cc in
      rw (members-in (holds c.args.keep) c.loop-x.x k, w.staying-is, w.push.ensures.items, c.loop-x.invariant)
  | else-contains w ↦
      let k : holds c.args.keep c.loop-x.x ≡ false = cc in
      rw (members-out (holds c.args.keep) c.loop-x.x k, w.staying-is, c.loop-x.invariant)
]
