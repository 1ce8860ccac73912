use Rattle.std.proofs.Common.{◌≡◌, ℕ, List, take, None, Ok, Some, Result, ap, ◌∙◌, subst}
use Rattle.ballots.specs.declared.refusal.Refusal.{Refusal}
use Rattle.ballots.specs.Refusals.{refusal}
use Rattle.ballots.specs.Sets.{holds}
use Rattle.ballots.specs.Strikes.{Strikes}
use Rattle.ballots.proofs.StruckWriting.{StruckFront, struck_front}
use Rattle.best.specs.Answers.{BestOf}
use Rattle.best.proofs.Striking.{both_agree}
use Rattle.best.proofs.answers.best_of_both.Goals as goal

-- what was struck, of the bytes that were read
front : (keep : ℕ) {bs read out new : List ℕ} {n : ℕ} {r : Result ℕ Refusal} → read ≡ bs → refusal read ≡ None → r ≡ Ok n →
    Strikes read (holds keep) out new r → StruckFront (holds keep) bs out n new
front keep {bs} {read} {out} {new} {n} {r} same none was s =
    struck_front (holds keep) bs out new n (rw same at none)
    (subst (λ (r : Result ℕ Refusal). Strikes bs (holds keep) out new r) was (rw same at s))

-- the struck file is not refused
pub returns-in_err-kept-clause-answers : goal.returns-in_err-kept-clause-answers
returns-in_err-kept-clause-answers c =
    let f : StruckFront (holds c.args.keep) c.args.bytes.now c.args.out.now c.in_ok-length.length c.strike.new.out =
    front c.args.keep c.in_ok-file.ensures.file c.in_ok-file.file.accepted c.in_ok-length.was c.strike.ensures in
    let yes : refusal (take c.in_ok-length.length c.strike.new.out) ≡ Some c.in_err-kept.field-0.0 = c.in_err-kept.ensures.answer in
    let no : refusal (take c.in_ok-length.length c.strike.new.out) ≡ None = ap refusal f.front ∙ f.accepted in
    cc

pub returns-clause-answers : goal.returns-clause-answers
returns-clause-answers c =
    let bs : List ℕ = c.args.bytes.now in
    let f : StruckFront (holds c.args.keep) bs c.args.out.now c.in_ok-length.length c.strike.new.out =
    front c.args.keep c.in_ok-file.ensures.file c.in_ok-file.file.accepted c.in_ok-length.was c.strike.ensures in
    let accepted : refusal bs ≡ None = rw c.in_ok-file.ensures.file at c.in_ok-file.file.accepted in (
      rw accepted f.not_refused,
      both_agree bs (holds c.args.keep) c.best_of_file-all.result c.in_ok-kept.kept
          (subst (λ (bs : List ℕ). BestOf bs c.best_of_file-all.result) c.in_ok-file.ensures.file c.best_of_file-all.ensures)
          (subst (λ (bs : List ℕ). BestOf bs c.in_ok-kept.kept) f.front c.in_ok-kept.ensures.answer),
    )
