-- The outcome of the whole count, from what its parts answer.
use Rattle.std.proofs.Common.{◌≡◌, ℕ, ◌<◌, ◌≤◌, Bool, true, List, [], ◌∷◌, ◌++◌, get_or, take, None, Option, Result, sym, ap, ◌∙◌, subst, arith, length-append, ◌^◌, ltb, inl, inr}
use Rattle.std.specs.Option.{option_or}
use Rattle.ballots.specs.declared.file.BallotFile.{BallotFile}
use Rattle.ballots.specs.declared.refusal.Refusal.{Refusal}
use Rattle.ballots.specs.Format.{candidates_in, ballots_in, ballots_of, most_candidates}
use Rattle.ballots.specs.Ballots.{unranked}
use Rattle.ballots.specs.Loans.{result_of}
use Rattle.ballots.specs.Sets.{holds}
use Rattle.pairwise.specs.declared.pairwise.Pairwise.{Pairwise}
use Rattle.pairwise.specs.Counts.{win, count, win_by}
use Rattle.pairwise.specs.Grids.{number_for}
use Rattle.pairwise.specs.Pairwise.{counts_of, PairwiseOf}
use Rattle.paths.specs.Paths.{below}
use Rattle.paths.proofs.Walks.{in_below, below_in, rewin}
use Rattle.best.specs.declared.tie_break.TieBreak.{TieBreak}
use Rattle.best.specs.Best.{Ahead, Best}
use Rattle.best.specs.Comparisons.{BestSet}
use Rattle.best.specs.Order.{row_of, FullOrder, all_but}
use Rattle.best.specs.TieBreak.{before_by}
use Rattle.best.proofs.Maximal.{some_best}
use Rattle.best.proofs.Places.{first_is_best}
use Rattle.certificate.specs.declared.certification.Certified.{Certified}
use Rattle.certificate.specs.Certified.{room_refusal, certified_by, certificate_by, Leaves}
use Rattle.certificate.specs.Judge.{judge}
use Rattle.certificate.proofs.Certifying.{by_ballots}
use Rattle.tiebreak.specs.declared.draw.Draw.{Draw}
use Rattle.tiebreak.specs.declared.outcome.Outcome.{Outcome}
use Rattle.tiebreak.specs.Draws.{draw_refusal, numbers_in, drawn_ballots, before_by_ballots}
use Rattle.tiebreak.specs.inner.Drawing.{numbers_of, TieBreakOf}
use Rattle.tiebreak.specs.Outcomes.{count_refusal, OutcomeOf, Trusted}
use Rattle.std.specs.List.{AllByRecursion}
use Rattle.std.proofs.ByRecursion.{All-weaker}
use Rattle.std.proofs.lemmas.Bool.{cases_Bool}
use Rattle.std.proofs.lemmas.Bool.Decides.{nat_tests}
use Rattle.std.proofs.lemmas.List.Elements.{All-from_recursion}
use Rattle.ballots.proofs.StruckFiles.{length_ballots}
use Rattle.pairwise.specs.declared.grid.Grid.{Grid}
use Rattle.pairwise.proofs.Preferences.{count_le}
use Rattle.pairwise.proofs.Wins.{win-counts_of}
use Rattle.paths.specs.Strengths.{GridOf}
use Rattle.tiebreak.specs.Reports.{Says, report_of, ReportOf}
use Rattle.tiebreak.proofs.Reports.{said}

-- a file whose bytes are these, its counts, and a draw from it that is not refused
pub record Parts (bs draw : List ℕ) (file : BallotFile) (t : Pairwise) : Type 0 where
  pub is : file.bytes.now ≡ bs
  pub of : PairwiseOf file.bytes.now t
  pub drawn : draw_refusal file.ballots draw ≡ None

module _ {bs draw : List ℕ} {file : BallotFile} {t : Pairwise} (p : Parts bs draw file t) where
  pub counts_are : PairwiseOf bs t
  counts_are = subst (λ b. PairwiseOf b t) p.is p.of

  drawn_well : draw_refusal t.ballots draw ≡ None
  drawn_well = subst (λ n. draw_refusal n draw ≡ None) (file.said_ballots ∙ sym p.of.ballots) p.drawn

  -- the tie-break order of the draw is the order of the ballots that are drawn
  pub same_order :
      (d : Draw) (tie : TieBreak) → d.file ≡ file → numbers_of d ≡ numbers_in draw → TieBreakOf d tie →
      (x y : ℕ) → x < candidates_in bs → y < candidates_in bs →
      before_by tie.keys x y ≡ before_by_ballots unranked (drawn_ballots bs draw) x y
  same_order d tie from numbers same x y xv yv =
      let bytes : d.file.bytes.now ≡ bs = ap (λ (f : BallotFile). f.bytes.now) from ∙ p.is in
      let v : d.file.candidates ≡ candidates_in bs = d.file.said_candidates ∙ ap candidates_in bytes in
      same.order x y (omega (arith, v)) (omega (arith, v)) ∙ rw (bytes, numbers)

  -- the count is answered and refused as the certificate is, and so it leaves the slices
  module _ (table strengths sheet : List ℕ) where
    abbrev refused : Option Refusal → ℕ → ℕ → (ℕ → ℕ → ℕ) → Option Refusal
    refused o b v n = option_or o (option_or (draw_refusal b draw) (room_refusal v n table strengths sheet))

    pub counted_answer :
        {r : Result Certified Refusal} → (let v = t.counts.candidates in let n = number_for t.counts in
        r ≡ result_of (room_refusal v n table strengths sheet) (certified_by t.ballots v n)) →
        r ≡ result_of (count_refusal bs draw table strengths sheet)
        (certified_by (ballots_in bs) (candidates_in bs) (counts_of bs))
    counted_answer {r} a =
        by_ballots (λ o b v n. r ≡ result_of (refused o b v n) (certified_by b v n)) counts_are (rw drawn_well a)

    pub counted_slices :
        {table' strengths' sheet' : List ℕ} → (let v = t.counts.candidates in let n = number_for t.counts in
        Leaves (room_refusal v n table strengths sheet) v n table table' strengths strengths' sheet sheet') →
        Leaves (count_refusal bs draw table strengths sheet) (candidates_in bs) (counts_of bs)
        table table' strengths strengths' sheet sheet'
    counted_slices {table'} {strengths'} {sheet'} l =
        by_ballots (λ o b v n. Leaves (refused o b v n) v n table table' strengths strengths' sheet sheet')
        counts_are (rw drawn_well l)

-- somebody is among the best
somebody : (w : ℕ → ℕ → ℕ) (v s : ℕ) → 1 ≤ v → BestSet w v s → (x : ℕ) × (x < v) × (holds s x ≡ true)
somebody w v s some b =
    let (x, best) = some_best w (below v) v 0 (below_in v) (in_below v 0 some) in
    let xv = below_in v x best.0 in
    (x, xv, (b.each x xv).1 best)

-- a full order of somebody begins with one that is among the best
first_place : (w : ℕ → ℕ → ℕ) (v : ℕ) (before : ℕ → ℕ → Bool) (row : List ℕ) → 1 ≤ v →
    FullOrder (Ahead w (below v)) before (below v) row → Best w (below v) (get_or row 0 0)
first_place w v before [] some h = absurd (h 0 (in_below v 0 some))
first_place w v before (x ∷ xs) some h = first_is_best w (below v) before v x xs (below_in v) h

-- the certificate in front of the sheet is accepted
pub trusted :
    (bs draw : List ℕ) (o : Outcome) (sheet rest : List ℕ) → 1 ≤ candidates_in bs → OutcomeOf bs draw o →
    sheet ≡ certificate_by (candidates_in bs) (counts_of bs) ++ rest → judge bs (take o.length sheet) ≡ None →
    Trusted bs sheet o
trusted bs draw o sheet rest some is e accepted = record {
  within = rw (e, length-append) (omega (arith, is.length_is));
  accepted = accepted;
  somebody = somebody (win unranked (ballots_of bs)) (candidates_in bs) o.best some is.best.best;
  adopted = first_place (win unranked (ballots_of bs)) (candidates_in bs) _ (row_of o.order) some is.order.row;
}

-- the wins by the counts of a file are those of its ballots
module _ (bs : List ℕ) where
  wins_are : (x y : ℕ) → below (candidates_in bs) x ≡ true → below (candidates_in bs) y ≡ true →
      win unranked (ballots_of bs) x y ≡ win_by (counts_of bs) x y
  wins_are x y hx hy = sym (win-counts_of bs x y (below_in (candidates_in bs) x hx) (below_in (candidates_in bs) y hy))

  pub strengths_of_wins :
      {g : Grid} → GridOf (win_by (counts_of bs)) (candidates_in bs) g →
      GridOf (win unranked (ballots_of bs)) (candidates_in bs) g
  strengths_of_wins h = record {
    candidates = h.candidates;
    each = λ x y. record {
      strongest = λ p. let s = (h.each x y).strongest p in record {
        shown = λ l. rewin wins_are (s.shown l);
        greatest = λ m path. s.greatest m (rewin (λ a b ha hb. sym (wins_are a b ha hb)) path);
      };
      none = (h.each x y).none;
    };
    outside = h.outside;
  }

-- no win is stronger than two bytes can tell
wins_small : (bs : List ℕ) → ((i : ℕ) → get_or bs i 0 < 256) → (x y : ℕ) → win unranked (ballots_of bs) x y < 2 ^ 64
unfolding win
wins_small bs small x y =
    let n : ℕ → ℕ → ℕ = count unranked (ballots_of bs) in
    let fits : n x y < 2 ^ 64 = omega (arith, count_le (ballots_of bs) x y, length_ballots bs, small 1, small 2) in
    elim (cases_Bool (ltb (n y x) (n x y))) [ inl t ↦ rw t fits | inr t ↦ rw t (omega arith) ]

-- whoever is in a full order stands
full_stands :
    (ahead : ℕ → ℕ → Type 0) (before : ℕ → ℕ → Bool) (left : ℕ → Bool) (row : List ℕ) → FullOrder ahead before left row →
    AllByRecursion (λ x. left x ≡ true) row
full_stands ahead before left [] h = tt
full_stands ahead before left (x ∷ xs) (next, rest) =
    let others = full_stands ahead before (all_but x left) xs rest in (
      next.is_left,
      All-weaker (λ z. all_but x left z ≡ true) (λ z. left z ≡ true) (λ z h. grind (arith, nat_tests)) xs others,
    )

-- so the report says what the ballots come to
pub report_says :
    (bs draw : List ℕ) (o : Outcome) → ((i : ℕ) → get_or bs i 0 < 256) → OutcomeOf bs draw o →
    ReportOf bs draw (report_of o)
report_says bs draw o small is =
    let w : ℕ → ℕ → ℕ = win unranked (ballots_of bs) in
    let v : ℕ = o.strengths.candidates in
    let same : candidates_in bs ≡ v = sym is.strengths.candidates in
    let before : ℕ → ℕ → Bool = before_by_ballots unranked (drawn_ballots bs draw) in
    let places : List ℕ = row_of o.order in
    let grid : GridOf w v o.strengths = subst (λ n. GridOf w n o.strengths) same is.strengths in
    let best : BestSet w v o.best = subst (λ n. BestSet w n o.best) same is.best.best in
    let order : FullOrder (Ahead w (below v)) before (below v) places =
    subst (λ n. FullOrder (Ahead w (below n)) before (below n) places) same is.order.row in
    let few : v ≤ most_candidates = o.strengths.few in
    let places_small : AllByRecursion (λ x. x < 2 ^ 64) places =
    All-weaker (λ x. below v x ≡ true) (λ x. x < 2 ^ 64) (λ x h. omega (arith, below_in v x h)) places
    (full_stands (Ahead w (below v)) before (below v) places order) in
    let ballots_small : o.ballots < 2 ^ 64 = omega (arith, is.ballots, small 1, small 2) in
    let says : Says o.ballots w v before (report_of o) =
    said w o grid (wins_small bs small) ballots_small (All-from_recursion (λ x. x < 2 ^ 64) places places_small)
    before best order in
    subst (λ n. Says (ballots_in bs) w n before (report_of o)) is.strengths.candidates
    (subst (λ n. Says n w v before (report_of o)) is.ballots says)
