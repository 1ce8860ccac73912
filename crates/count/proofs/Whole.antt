-- The count of the fronts is that of the whole files.
use Rattle.std.proofs.Common.{◌≡◌, ℕ, ◌%◌, ◌<◌, List, get_or, length, Some, None, Ok, Err, Option, Result, inl, inr, refl, sym, ◌∙◌, subst, arith}
use Rattle.ballots.specs.declared.refusal.Refusal.{Refusal}
use Rattle.ballots.specs.declared.refusal.Refusal.TheVariants.{Length}
use Rattle.ballots.specs.Format.{ballots_in}
use Rattle.ballots.specs.Refusals.{refusal}
use Rattle.ballots.proofs.Loans.{neither}
use Rattle.program.specs.declared.front.Front.{Front}
use Rattle.program.proofs.Kept.{kept_ballots}
use Rattle.tiebreak.specs.declared.outcome.Outcome.{Outcome}
use Rattle.tiebreak.specs.Draws.{draw_refusal}
use Rattle.tiebreak.specs.Outcomes.{count_refusal}
use Rattle.count.specs.Fronts.{AreFronts, CountsWhole}
use Rattle.count.proofs.Draws.{cases_Option, kept_draw}

-- a count that is refused changes nothing
pub refused_whole :
    (bytes draw table strengths sheet : List ℕ) (e : Refusal) → count_refusal bytes draw table strengths sheet ≡ Some e →
    CountsWhole bytes draw table table strengths strengths sheet sheet (Err e)
refused_whole bytes draw table strengths sheet e r = record {
  outcome = r;
  slices = record { table_after = rw r refl; strengths_after = rw r refl; sheet_after = rw r refl };
  report = tt;
  trusted = tt;
  clones = tt;
  one = tt;
}

-- and nothing is said of it but why
refused_alike :
    (one draw other drawn table table' strengths strengths' sheet sheet' : List ℕ) (r : Result Outcome Refusal) (e : Refusal) →
    count_refusal one draw table strengths sheet ≡ Some e → count_refusal other drawn table strengths sheet ≡ Some e →
    CountsWhole one draw table table' strengths strengths' sheet sheet' r →
    CountsWhole other drawn table table' strengths strengths' sheet sheet' r
refused_alike one draw other drawn table table' strengths strengths' sheet sheet' (Ok o) e some same counted =
    absurd (let z : ◌≡◌ {A = Option Refusal} (Some e) None = sym some ∙ counted.outcome.0 in cc)
refused_alike one draw other drawn table table' strengths strengths' sheet sheet' (Err f) e some same counted = record {
  outcome = same ∙ sym some ∙ counted.outcome;
  slices = record {
    table_after = rw same (rw some at counted.slices.table_after);
    strengths_after = rw same (rw some at counted.slices.strengths_after);
    sheet_after = rw same (rw some at counted.slices.sheet_after);
  };
  report = tt;
  trusted = tt;
  clones = tt;
  one = tt;
}

module _ (ballots : List ℕ) (draw : Front) (bytes all : List ℕ) (small : (i : ℕ) → get_or ballots i 0 < 256) (fronts : AreFronts ballots draw bytes all) where
  few : ballots_in ballots < 65536
  few = omega (arith, small 1, small 2)

  kept : (refusal ballots ≡ refusal bytes) × (refusal bytes ≡ None → ballots ≡ bytes)
  kept =
      let e = fronts.ballots_front in
      subst (λ front. (refusal front ≡ refusal bytes) × (refusal bytes ≡ None → front ≡ bytes)) (sym e)
      (kept_ballots bytes (rw e at few))

  length_counted : draw.length ≡ length all
  length_counted = omega (arith, fronts.draw_front.length_is, fronts.countable)

  -- the ballots are refused
  pub ballots_refused :
      (table strengths sheet : List ℕ) (e : Refusal) → refusal ballots ≡ Some e →
      CountsWhole bytes all table table strengths strengths sheet sheet (Err e)
  ballots_refused table strengths sheet e r =
      refused_whole bytes all table strengths sheet e (let same = sym kept.0 ∙ r in rw same refl)

  -- the draw ends in half a number
  pub half_refused :
      (table strengths sheet : List ℕ) → refusal ballots ≡ None → draw.length % 2 ≡ 1 →
      CountsWhole bytes all table table strengths strengths sheet sheet (Err (Length draw.length))
  half_refused table strengths sheet none odd =
      let same = sym kept.0 ∙ none in
      let half : length all % 2 ≡ 1 = omega (arith, length_counted) in
      refused_whole bytes all table strengths sheet (Length draw.length) (rw (same, half, length_counted) refl)

  -- a draw of whole numbers
  module _ (even : draw.length % 2 ≡ 0) where
    kept_of_draw :
        refusal bytes ≡ None →
        (draw_refusal (ballots_in bytes) draw.bytes.items ≡ draw_refusal (ballots_in bytes) all)
        × (draw_refusal (ballots_in bytes) all ≡ None → draw.bytes.items ≡ all)
    kept_of_draw none =
        let e = fronts.draw_front.bytes in
        let n : ℕ = ballots_in bytes in
        subst (λ front. (draw_refusal n front ≡ draw_refusal n all) × (draw_refusal n all ≡ None → front ≡ all)) (sym e)
        (kept_draw n all (subst (λ bs. ballots_in bs < 65536) (kept.1 none) few) (omega (arith, length_counted)))

    -- the fronts are refused as the whole files are
    same_refusal :
        (table strengths sheet : List ℕ) →
        count_refusal ballots draw.bytes.items table strengths sheet ≡ count_refusal bytes all table strengths sheet
    same_refusal table strengths sheet = elim (cases_Option (refusal bytes)) [
      | inl none ↦
          let e = kept.1 none in
          let d = (kept_of_draw none).0 in
          rw (e, none, d) refl
      | inr (r, some) ↦ let same = kept.0 ∙ some in rw (same, some) refl
    ]

    -- and are the whole files where these are accepted
    are_whole :
        (table strengths sheet : List ℕ) → count_refusal bytes all table strengths sheet ≡ None →
        (ballots ≡ bytes) × (draw.bytes.items ≡ all)
    are_whole table strengths sheet accepted =
        let (none, rest) = neither _ _ accepted in
        let (good, _) = neither _ _ rest in
        (kept.1 none, (kept_of_draw none).1 good)

    -- so what holds of the count of the fronts holds of that of the whole files
    pub whole_counted :
        (front : List ℕ) → front ≡ draw.bytes.items → {table table' strengths strengths' sheet sheet' : List ℕ} {r : Result Outcome Refusal} →
        CountsWhole ballots front table table' strengths strengths' sheet sheet' r →
        CountsWhole bytes all table table' strengths strengths' sheet sheet' r
    whole_counted front same {table} {table'} {strengths} {strengths'} {sheet} {sheet'} {r} counted =
        let counted' = subst (λ ds. CountsWhole ballots ds table table' strengths strengths' sheet sheet' r) same counted in
        elim (cases_Option (count_refusal bytes all table strengths sheet)) [
          | inl none ↦
              let (b, d) = are_whole table strengths sheet none in
              subst (λ bs. CountsWhole bs all table table' strengths strengths' sheet sheet' r) b
              (subst (λ ds. CountsWhole ballots ds table table' strengths strengths' sheet sheet' r) d counted')
          | inr (e, some) ↦
              let refused = same_refusal table strengths sheet ∙ some in
              refused_alike ballots draw.bytes.items bytes all table table' strengths strengths' sheet sheet' r e refused some counted'
        ]
