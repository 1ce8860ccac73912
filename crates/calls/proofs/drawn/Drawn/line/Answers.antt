use Rattle.std.proofs.Common.{[], ◌∷◌, ◌++◌, codes, decimal, ◌∙◌, ap, sym, lit<}
use Rattle.std.specs.List.{filter_map, flat_map}
use Rattle.std.proofs.lemmas.Iterator.Splits.{YieldsList-from_str_split}
use Rattle.std.proofs.lemmas.Iterator.Consumers.{YieldsList-at, YieldsList-end}
use Rattle.calls.specs.Numbers.{number_of}
use Rattle.calls.proofs.Pieces.{numbers_more, no_number_more}
use Rattle.calls.proofs.drawn.Drawn.line.Goals as goal

pub loop-piece-preserved-in-Continue-branch-2 : goal.loop-piece-preserved-in-Continue-branch-2
loop-piece-preserved-in-Continue-branch-2 c =
    c.in_ok-write.ensures.bytes
    ∙ ap (λ t. t ++ (codes " " ++ decimal c.in-Some-number.number)) c.loop-piece.invariant
    ∙ ap (λ t. codes "drawn" ++ t) (sym (numbers_more (λ n. codes " " ++ decimal n) c.loop-piece.yielded c.in-Some.piece c.in-Some-number.number c.in-Some-number.ensures))

pub loop-piece-preserved : goal.loop-piece-preserved
loop-piece-preserved c =
    c.loop-piece.invariant
    ∙ ap (λ t. codes "drawn" ++ t) (sym (no_number_more (λ n. codes " " ++ decimal n) c.loop-piece.yielded c.in-Some.piece c.in_default.ensures))

pub returns : goal.returns
returns c =
    let t = YieldsList-end (YieldsList-at c.into_iter-piece-iterator.ensures.into_iter_gives (YieldsList-from_str_split 44 c.args.self.word.now (lit< tt) c.split-piece-items.ensures.text c.split-piece-items.ensures.has_more c.split-piece-items.ensures.pattern)) c.loop-piece.yielded _ c.loop-piece.yielded_by _ _ c.in-None.is c.next.ensures.steps in
    c.in_ok-push_str.ensures.bytes
    ∙ ap (λ t. t ++ (10 ∷ [])) c.loop-piece.invariant
    ∙ ap (λ ws. codes "drawn" ++ (flat_map (λ n. codes " " ++ decimal n) (filter_map number_of ws) ++ (10 ∷ []))) t.0
