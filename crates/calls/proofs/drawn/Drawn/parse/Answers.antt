use Rattle.std.proofs.Common.{ℕ, List, length, is_some, ◌∙◌, ap, sym, lit<}
use Rattle.std.specs.List.{list_all, slice_split}
use Rattle.std.proofs.lemmas.Iterator.Splits.{YieldsList-from_str_split}
use Rattle.std.proofs.lemmas.Iterator.Consumers.{YieldsList-at, YieldsList-turn, YieldsList-end}
use Rattle.std.proofs.lemmas.List.Folds.{list_all_at}
use Rattle.calls.specs.Numbers.{number_of}
use Rattle.calls.specs.Drawn.{is_comma}
use Rattle.calls.proofs.drawn.Drawn.parse.Goals as goal

pub returns-in_err-number : goal.returns-in_err-number
returns-in_err-number c =
    let t = YieldsList-turn (YieldsList-at c.into_iter-piece-iterator.ensures.into_iter_gives (YieldsList-from_str_split 44 c.args.word.now (lit< tt) c.split-piece-items.ensures.text c.split-piece-items.ensures.has_more c.split-piece-items.ensures.pattern)) c.loop-piece.yielded _ c.loop-piece.yielded_by _ _ c.in-Some.piece c.in-Some.is c.next.ensures.steps in
    let p = λ (piece : List ℕ). is_some (number_of piece) in
    let none = ap (λ o. is_some o) (sym c.in_err-number.ensures) in
    rw c.from_residual.ensures (list_all_at p (slice_split is_comma c.args.word.now) (length c.loop-piece.yielded) c.in-Some.piece.now t.0 (ap p (sym t.1) ∙ none))

pub invariant_of-result : goal.invariant_of-result
invariant_of-result c =
    let t = YieldsList-end (YieldsList-at c.into_iter-piece-iterator.ensures.into_iter_gives (YieldsList-from_str_split 44 c.args.word.now (lit< tt) c.split-piece-items.ensures.text c.split-piece-items.ensures.has_more c.split-piece-items.ensures.pattern)) c.loop-piece.yielded _ c.loop-piece.yielded_by _ _ c.in-None.is c.next.ensures.steps in
    let h = ap (list_all (λ piece. is_some (number_of piece))) t.0 in
    record { numbers = sym h ∙ c.loop-piece.invariant }
