use Rattle.std.proofs.Common.{ℕ, List, get_or, arith}
use Rattle.std.proofs.lemmas.List.{take_more, take_more_set, length-map, get_or-map}
use Rattle.ballots.specs.Strikes.{ranks_at}
use Rattle.ballots.proofs.striking.strike_ballot.Goals as goal

pub loop-place-preserved : goal.loop-place-preserved
loop-place-preserved c =
    let all : List ℕ = ranks_at c.args.staying.now c.args.ballot.ranks.now in
    let rank : ℕ → ℕ = λ x. get_or c.args.ballot.ranks.now x 0 in
    let long = length-map c.args.staying.now rank in
    rw (
      take_more_set c.loop-place.out c.loop-place.place (rank (get_or c.args.staying.now c.loop-place.place 0)) (omega arith),
      take_more all c.loop-place.place 0 (omega arith),
      get_or-map rank c.args.staying.now c.loop-place.place 0 0 (omega arith),
      c.loop-place.invariant,
    )
