use Rattle.std.proofs.Common.{ℕ, Bool, ◌∙◌, lt-ltb, arith, rules, tests}
use Rattle.std.proofs.lemmas.Iterator.{YieldsList-from_range}
use Rattle.std.proofs.lemmas.Iterator.Consumers.{YieldsList-from_filter, count_from_yields_List}
use Rattle.tiebreak.specs.inner.Drawing.{before_of}
use Rattle.tiebreak.proofs.Deciding.{number_left}
use Rattle.tiebreak.proofs.draw.Draw.key.Goals as goal

pub returns : goal.returns
returns c =
    let v : ℕ = c.args.self.now.file.candidates in
    let before_x : ℕ → Bool = λ y. before_of c.args.self.now y c.args.x in
    rw (lt-ltb c.args.x v (omega arith))
    (count_from_yields_List c.filter.result c.count.result c.count.ensures.ran
    (YieldsList-from_filter _ before_x (YieldsList-from_range 0 v v (cc) (omega arith)) c.filter.ensures.closure
    (λ x r q k. search (rules, tests)))
    ∙ number_left before_x v)
