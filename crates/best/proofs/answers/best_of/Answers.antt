use Rattle.std.proofs.Common.{ℕ, List, Ok, subst}
use Rattle.best.specs.Answers.{BestOf}
use Rattle.best.proofs.Striking.{answers_independent}
use Rattle.best.proofs.answers.best_of.Goals as goal

pub returns : goal.returns
returns c =
    let s : ℕ = c.best_of_file.result in
    let b = subst (λ (bs : List ℕ). BestOf bs s) c.in_ok-file.ensures.file c.best_of_file.ensures in
    let (clones, one) = answers_independent c.args.bytes.now (Ok s) b in
    record { answer = b; clones = clones; one = one }
