-- The verdict on what is kept of the files is the verdict on the whole files.
use Rattle.std.proofs.Common.{◌≡◌, ℕ, ◌<◌, ◌≤◌, List, ◌++◌, get_or, take, drop, Some, None, Option, Result, sym, refl, ap, ◌∙◌, subst, append_assoc, arith}
use Rattle.std.specs.List.{flat_map}
use Rattle.std.specs.Option.{option_or}
use Rattle.std.proofs.lemmas.List.{take-append-drop}
use Rattle.ballots.specs.declared.refusal.Refusal.{Refusal}
use Rattle.ballots.specs.Format.{most_candidates, candidates_in}
use Rattle.ballots.specs.Loans.{result_of}
use Rattle.ballots.specs.Refusals.{refusal}
use Rattle.ballots.proofs.Loans.{neither, result_of-ok}
use Rattle.ballots.proofs.Votes.{accepted}
use Rattle.pairwise.specs.Pairwise.{counts_of}
use Rattle.certificate.specs.Layout.{path_bytes, entry_bytes, table_bytes}
use Rattle.certificate.specs.Judge.{sheet_refusal, judge}
use Rattle.certificate.specs.Refused.{SaidBefore, RefusedAtPath, RefusedAtCut}
use Rattle.certificate.specs.Truth.{AsSaid}
use Rattle.certificate.proofs.Exact.{accepted_true, said_accepted}
use Rattle.certificate.proofs.Refusing.{refused_path, refused_cut}
use Rattle.program.specs.Fronts.{ballots_kept, sheet_kept}
use Rattle.check_sheet.specs.Fronts.{VerdictOn, VerdictOnWhole}
use Rattle.program.proofs.Kept.{kept_ballots}
use Rattle.check_sheet.proofs.Sheets.{most, kept_refused, kept_whole}

-- what is as said up to a pair still is with more behind it
module _ (bytes sheet : List ℕ) (x y : ℕ) (more : List ℕ) where
  said_longer : (rest : List ℕ) → SaidBefore bytes sheet x y rest → SaidBefore bytes (sheet ++ more) x y (rest ++ more)
  said_longer rest s =
      let table : List ℕ = table_bytes (candidates_in bytes) (counts_of bytes) in
      let es : List ℕ = flat_map entry_bytes s.entries in
      record {
        accepted = s.accepted;
        before = s.before;
        after = s.after;
        order = s.order;
        entries = s.entries;
        supported = s.supported;
        layout =
            ap (λ l. l ++ more) s.layout
            ∙ (append_assoc table (es ++ rest) more ∙ ap (λ l. table ++ l) (append_assoc es rest more));
      }

  path_longer : RefusedAtPath bytes sheet x y → RefusedAtPath bytes (sheet ++ more) x y
  path_longer r =
      record {
        strength = r.strength;
        fits = r.fits;
        path = r.path;
        rest = r.rest ++ more;
        said =
            subst (SaidBefore bytes (sheet ++ more) x y) (append_assoc (path_bytes r.strength r.path) r.rest more) (said_longer _ r.said);
        wrong = r.wrong;
      }

  cut_longer : RefusedAtCut bytes sheet x y → RefusedAtCut bytes (sheet ++ more) x y
  cut_longer r =
      record {
        entry = r.entry;
        fits = r.fits;
        rest = r.rest ++ more;
        said =
            subst (SaidBefore bytes (sheet ++ more) x y) (append_assoc (entry_bytes r.entry) r.rest more) (said_longer _ r.said);
        path = r.path;
        wrong = r.wrong;
      }

-- where there is a first reason to refuse, the second is not looked at
second_same : (a b c : Option Refusal) → (a ≡ None → b ≡ c) → option_or a b ≡ option_or a c
second_same None b c h = h refl
second_same (Some e) b c h = refl

abbrev Small : List ℕ → Type 0
Small bs = (i : ℕ) → get_or bs i 0 < 256

-- fronts of files that are refused as these, and are these where they are accepted
module _ (front_ballots front_sheet ballots more : List ℕ) (small : Small front_ballots)
    (refused : refusal front_ballots ≡ refusal ballots)
    (whole : refusal ballots ≡ None → front_ballots ≡ ballots)
    (sheet_refused : (v : ℕ) (n : ℕ → ℕ → ℕ) → v ≤ most_candidates →
    sheet_refusal v n front_sheet ≡ sheet_refusal v n (front_sheet ++ more))
    (whole_sheet : (v : ℕ) (n : ℕ → ℕ → ℕ) → v ≤ most_candidates →
    sheet_refusal v n front_sheet ≡ None → front_sheet ≡ front_sheet ++ more)
  where
    abbrev sheet : List ℕ
    sheet = front_sheet ++ more

    judged : judge front_ballots front_sheet ≡ judge ballots sheet
    judged =
        ap (λ o. option_or o (sheet_refusal (candidates_in front_ballots) (counts_of front_ballots) front_sheet)) refused
        ∙ second_same (refusal ballots) _ _ (λ none.
        ap (λ bs. sheet_refusal (candidates_in bs) (counts_of bs) front_sheet) (whole none)
        ∙ sheet_refused (candidates_in ballots) (counts_of ballots) (accepted ballots none).1)

    all_small : refusal ballots ≡ None → Small ballots
    all_small none = subst Small (whole none) small

    accepted_front : refusal front_ballots ≡ None → front_ballots ≡ ballots
    accepted_front none = whole (sym refused ∙ none)

    verdict_on : (r : Result (Unit {0}) Refusal) → VerdictOn front_ballots front_sheet r → VerdictOn ballots sheet r
    verdict_on r on =
        let v = on.verdict ∙ ap (λ o. result_of o tt) judged in
        record {
          verdict = v;
          truth = λ h. accepted_true ballots sheet (result_of-ok _ _ _ (sym v ∙ h)).0;
          exact = (
            (λ h.
                let p = neither (refusal front_ballots) _ (result_of-ok _ _ _ (sym on.verdict ∙ h)).0 in
                let same = whole_sheet (candidates_in front_ballots) (counts_of front_ballots) (accepted front_ballots p.0).1 p.1 in
                subst (AsSaid ballots) same (subst (λ bs. AsSaid bs front_sheet) (accepted_front p.0) (on.exact.0 h))),
            λ s. v ∙ ap (λ o. result_of o tt) (said_accepted ballots sheet (all_small s.accepted) s),
          );
          path = λ x y. (
            (λ h.
                let front = (on.path x y).0 h in
                path_longer ballots front_sheet x y more
                (subst (λ bs. RefusedAtPath bs front_sheet x y) (accepted_front front.said.accepted) front)),
            λ r. v ∙ ap (λ o. result_of o tt) (refused_path ballots sheet x y (all_small r.said.accepted) r),
          );
          cut = λ x y. (
            (λ h.
                let front = (on.cut x y).0 h in
                cut_longer ballots front_sheet x y more
                (subst (λ bs. RefusedAtCut bs front_sheet x y) (accepted_front front.said.accepted) front)),
            λ r. v ∙ ap (λ o. result_of o tt) (refused_cut ballots sheet x y (all_small r.said.accepted) r),
          );
        }

enough : most < sheet_kept
enough = omega arith

pub verdict_on_whole : (front_ballots front_sheet : List ℕ) (r : Result (Unit {0}) Refusal) →
    Small front_ballots → Small front_sheet → VerdictOn front_ballots front_sheet r → VerdictOnWhole front_ballots front_sheet r
verdict_on_whole front_ballots front_sheet r small small_sheet on ballots sheet kept kept_sheet =
    let small_kept : Small (take ballots_kept ballots) = subst Small kept small in
    let small_kept_sheet : Small (take sheet_kept sheet) = subst Small kept_sheet small_sheet in
    let decided = kept_ballots ballots (omega (arith, small_kept 1, small_kept 2)) in
    let parts : take sheet_kept sheet ++ drop sheet_kept sheet ≡ sheet = take-append-drop sheet_kept sheet in
    subst (λ s. VerdictOn ballots s r) parts
    (verdict_on (take ballots_kept ballots) (take sheet_kept sheet) ballots (drop sheet_kept sheet) small_kept decided.0 decided.1
    (λ v n few. kept_refused v n few sheet_kept enough sheet small_kept_sheet ∙ ap (sheet_refusal v n) (sym parts))
    (λ v n few none. kept_whole v n few sheet_kept enough sheet small_kept_sheet none ∙ sym parts)
    r
    (subst (λ bs. VerdictOn bs (take sheet_kept sheet) r) kept (subst (λ s. VerdictOn front_ballots s r) kept_sheet on)))
