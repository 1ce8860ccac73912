use Rattle.std.proofs.Common.{length, refl, arith}
use Rattle.std.proofs.lemmas.List.{get_or-take}
use Rattle.pairwise.specs.inner.Recent.{row_length}
use Rattle.pairwise.proofs.AddedRows.{row_more, above_says}
use Rattle.pairwise.proofs.additions.add_ballot.Goals as goal

pub loop-x-preserved : goal.loop-x-preserved
loop-x-preserved c =
    let ranks = c.args.ballot.ranks.now in
    let keys = c.keys_of-keys in
    let first = get_or-take (length ranks) keys.result c.loop-x.x 0 (omega arith) in
    let says = above_says row_length c.loop-x.x ranks keys.result _ _ keys.ensures.ranked keys.ensures.past (omega arith) first
    (λ y h. refl) in
    row_more row_length c.loop-x.x c.loop-y.y _ _ _ _ _ says c.loop-x.invariant (omega arith) c.loop-y.invariant
