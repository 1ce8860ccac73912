use Rattle.std.proofs.Common.{refl, rules, map, string_bytes, sym, ap, ◌∙◌}
use Rattle.calls.specs.declared.grammar.Grammar.TheVariants.{Count}
use Rattle.calls.specs.Parts.{parts_of}
use Rattle.calls.specs.CountCalls.{take, asked, meaning}
use Rattle.calls.specs.CountViews.{seen}
use Rattle.calls.proofs.Taking.{Reads, all_taken, not_taken}
use Rattle.calls.proofs.counts.CountRequest.parse.Goals as goal

reads : Reads take asked meaning
reads = record { ends = λ s. refl; goes_on = λ s p ps. refl }

pub returns-in_err-try_fold : goal.returns-in_err-try_fold
returns-in_err-try_fold c =
    let n = not_taken _ {seen = seen} reads (record { taken = λ f h a b p k. search rules; refused = λ f h a p k. search rules }) _ c.try_fold.new.self _ _ _ c.in_err-try_fold.was c.try_fold.ensures.ran in
    rw c.from_residual.ensures (ap (λ s. meaning s (parts_of Count (map string_bytes c.args.words.now))) (sym c.nothing.ensures) ∙ n)

pub returns : goal.returns
returns c =
    let n = all_taken _ {seen = seen} reads (record { taken = λ f h a b p k. search rules; refused = λ f h a p k. search rules }) _ c.try_fold.new.self _ _ _ _ c.in_ok-try_fold.was c.try_fold.ensures.ran in
    rw (ap (λ s. meaning s (parts_of Count (map string_bytes c.args.words.now))) (sym c.nothing.ensures) ∙ n) c.end.ensures
