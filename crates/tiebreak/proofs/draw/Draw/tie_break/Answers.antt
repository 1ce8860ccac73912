use Rattle.std.proofs.Common.{◌≡◌, ℕ, ◌<◌, ◌≤◌, Bool, cond, ltb, get_or, ◌∙◌, lt-ltb, inl, inr, arith, rules, tests}
use Rattle.std.proofs.lemmas.Bool.{cases_lt, le-ltb}
use Rattle.std.proofs.lemmas.List.{get_or_past}
use Rattle.ballots.specs.Ballots.{unranked}
use Rattle.ballots.specs.Format.{most_candidates}
use Rattle.ballots.specs.Sets.{number}
use Rattle.ballots.proofs.FromFn.{from_fn-at}
use Rattle.tiebreak.specs.inner.Drawing.{before_of}
use Rattle.tiebreak.proofs.Deciding.{ballots_make_a_tie_break, keys_order}
use Rattle.tiebreak.proofs.draw.Draw.tie_break.Goals as goal

pub returns : goal.returns
returns c =
    let before : ℕ → ℕ → Bool = before_of c.args.self.now in
    let v : ℕ = c.args.self.now.file.candidates in
    let few : v ≤ most_candidates = c.args.self.now.file.few in
    let key : ℕ → ℕ = λ x. cond (ltb x v) (number (λ y. before y x) v) 0 in
    let each : (x : ℕ) → x < most_candidates → get_or c.from_fn.result x 0 ≡ key x =
    λ x l. from_fn-at c.from_fn.result key most_candidates x 0 c.from_fn.ensures.items (λ i r q k. search (rules, tests)) l in
    let at : (x : ℕ) → x < v → get_or c.from_fn.result x 0 ≡ number (λ y. before y x) v =
    λ x l. each x (omega arith) ∙ rw (lt-ltb x v l) in
    record {
      keys = at;
      behind = λ x l. elim (cases_lt x most_candidates) [
        | inl few ↦ each x few ∙ rw (le-ltb x v l)
        | inr past ↦ get_or_past c.from_fn.result x 0 (omega (arith, c.from_fn.ensures.items.long))
      ];
      order = λ x y xv yv. keys_order before (ballots_make_a_tie_break unranked _) c.from_fn.result v x y xv yv (at x xv) (at y yv);
    }
