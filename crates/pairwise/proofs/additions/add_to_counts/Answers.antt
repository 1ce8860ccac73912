use Rattle.std.proofs.Common.{length, arith}
use Rattle.std.proofs.lemmas.List.{get_or-take}
use Rattle.ballots.specs.Format.{most_candidates}
use Rattle.pairwise.proofs.AddedRows.{row_more, above_says}
use Rattle.pairwise.proofs.additions.add_to_counts.Goals as goal

pub loop-x-preserved : goal.loop-x-preserved
loop-x-preserved c =
    let ranks = c.args.ballot.ranks.now in
    let keys = c.keys_of-keys in
    let first = get_or-take (length ranks) keys.result c.loop-x.x 0 (omega arith) in
    let says = above_says most_candidates c.loop-x.x ranks keys.result _ _ keys.ensures.ranked keys.ensures.past (omega arith) first
    (λ y h. get_or-take most_candidates keys.result y 0 h) in
    row_more most_candidates c.loop-x.x c.loop-y.y _ _ _ _ _ says c.loop-x.invariant (omega arith) c.loop-y.invariant
