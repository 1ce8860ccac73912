use Rattle.std.proofs.Common.{◌∙◌, ap, sym, lit<}
use Rattle.std.specs.Int.{w16, to_le_bytes}
use Rattle.std.specs.List.{filter_map}
use Rattle.std.proofs.lemmas.Iterator.Splits.{YieldsList-from_str_split}
use Rattle.std.proofs.lemmas.Iterator.Consumers.{YieldsList-at, YieldsList-end}
use Rattle.calls.specs.Numbers.{number_of}
use Rattle.calls.specs.Drawn.{draw_bytes}
use Rattle.calls.proofs.Pieces.{numbers_more, no_number_more}
use Rattle.calls.proofs.drawn.Drawn.bytes.Goals as goal

pub loop-piece-preserved-in-Continue-1 : goal.loop-piece-preserved-in-Continue-1
loop-piece-preserved-in-Continue-1 c =
    let e = numbers_more (to_le_bytes w16) c.loop-piece.yielded c.in-Some.piece c.in-Some-number.number c.in-Some-number.ensures in
    let i = c.in_ok-extend_from_slice.ensures.items in
    let b = c.to_le_bytes.ensures in
    let k = c.loop-piece.invariant in cc

pub loop-piece-preserved : goal.loop-piece-preserved
loop-piece-preserved c = c.loop-piece.invariant ∙ sym (no_number_more (to_le_bytes w16) c.loop-piece.yielded c.in-Some.piece c.in_default.ensures)

pub returns : goal.returns
returns c =
    let t = YieldsList-end (YieldsList-at c.into_iter-piece-iterator.ensures.into_iter_gives (YieldsList-from_str_split 44 c.args.self.word.now (lit< tt) c.split-piece-items.ensures.text c.split-piece-items.ensures.has_more c.split-piece-items.ensures.pattern)) c.loop-piece.yielded _ c.loop-piece.yielded_by _ _ c.in-None.is c.next.ensures.steps in
    c.loop-piece.invariant ∙ ap (λ ws. draw_bytes (filter_map number_of ws)) t.0
