-- What a call that certifies answers, and what it leaves in the slices that it is lent.
use Rattle.std.proofs.Common.{◌≡◌, ℕ, ◌*◌, ◌<◌, ◌≤◌, true, false, ltb, List, ◌++◌, arith, Result, subst, length, take, drop, Some, None, Ok, Err, IfOk, Option, sym, refl, ap, ◌∙◌}
use Rattle.ballots.specs.declared.refusal.Lent.TheVariants as lent
use Rattle.ballots.specs.declared.refusal.Refusal.{Refusal}
use Rattle.ballots.specs.declared.refusal.Refusal.TheVariants.{Short}
use Rattle.pairwise.specs.Counts.{win_by}
use Rattle.pairwise.specs.Grids.{number_for, rows, Copied}
use Rattle.paths.specs.Middles.{strength}
use Rattle.best.specs.Comparisons.{best_by, BestSet}
use Rattle.best.proofs.Meanings.{is_best}
use Rattle.certificate.specs.declared.counted.Counted.{Counted}
use Rattle.certificate.specs.Certified.{strengths_by, entries_by, certificate_by, room_refusal, Leaves}
use Rattle.std.proofs.lemmas.Bool.{lt-ltb, le-ltb}
use Rattle.std.proofs.lemmas.Bool.Decides.{nat_tests}
use Rattle.std.proofs.lemmas.List.{take_at}
use Rattle.std.specs.List.{flat_map}
use Rattle.certificate.specs.Layout.{entry_bytes, set_bytes, certificate_of}
use Rattle.certificate.specs.inner.Parts.{table_of, all_entries, best_in, certificate_in}
use Rattle.ballots.specs.declared.refusal.Lent.{Lent}
use Rattle.ballots.specs.Format.{candidates_in, ballots_in}
use Rattle.ballots.specs.Loans.{result_of, slice_after, no_room}
use Rattle.ballots.specs.Refusals.{refusal}
use Rattle.ballots.proofs.Loans.{result_of-ok, neither}
use Rattle.pairwise.specs.declared.pairwise.Pairwise.{Pairwise}
use Rattle.pairwise.specs.Pairwise.{counts_of, PairwiseOf}
use Rattle.pairwise.proofs.Rows.{length-rows}
use Rattle.certificate.specs.declared.certification.Certified.{Certified}

module _ (c : Counted) where
  abbrev n : ℕ → ℕ → ℕ
  n = number_for c.pairwise.counts

  abbrev v : ℕ
  v = c.pairwise.counts.candidates

  pub by_counts : (P : (ℕ → ℕ → ℕ) → ℕ → Type 0) → P (number_for c.strengths.wins) c.strengths.wins.candidates → P (win_by n) v
  by_counts P p = subst (λ w. P w v) c.by_wins (subst (λ k. P (number_for c.strengths.wins) k) c.few p)

  -- the certificate in three parts
  pub in_parts : certificate_in c.pairwise ≡ table_of c.pairwise ++ (all_entries c.strengths ++ set_bytes (best_in c.pairwise))
  unfolding certificate_by certificate_of
  in_parts =
      ap (λ es. table_of c.pairwise ++ (es ++ set_bytes (best_in c.pairwise)))
      (by_counts (λ w v. flat_map entry_bytes (entries_by w v) ≡ all_entries c.strengths) refl)

  -- the strengths that are copied, and the set of the best
  pub copied_strengths : {old new : List ℕ} {r : Result (Unit {0}) Refusal} →
      Copied lent.Strengths (rows c.strengths.wins.candidates (strength (number_for c.strengths.wins) c.strengths.wins.candidates)) old new r →
      Copied lent.Strengths (strengths_by v n) old new r
  copied_strengths {old} {new} {r} h = by_counts (λ w v. Copied lent.Strengths (rows v (strength w v)) old new r) h

  pub best_counted : {set : ℕ} → BestSet (number_for c.strengths.wins) c.strengths.wins.candidates set → set ≡ best_by (strength (win_by n) v) v
  best_counted {set} h = by_counts (λ w v. set ≡ best_by (strength w v) v) (is_best (number_for c.strengths.wins) c.strengths.wins.candidates h)

-- whether there is room for the table, the strengths and the certificate
module _ (v : ℕ) (n : ℕ → ℕ → ℕ) (table strengths sheet : List ℕ) where
  too_few : (f : ℕ → ℕ → ℕ) (slice : List ℕ) → length slice < v * v → ltb (length slice) (length (rows v f)) ≡ true
  too_few f slice h = lt-ltb (length slice) (length (rows v f)) (rw (length-rows v f) h)

  enough : (f : ℕ → ℕ → ℕ) (slice : List ℕ) → v * v ≤ length slice → ltb (length slice) (length (rows v f)) ≡ false
  enough f slice h = le-ltb (length slice) (length (rows v f)) (rw (length-rows v f) h)

  abbrev s : ℕ → ℕ → ℕ
  s = strength (win_by n) v

  pub short_table : length table < v * v → room_refusal v n table strengths sheet ≡ Some (Short lent.Table)
  short_table t = rw (too_few n table t)

  pub short_strengths : v * v ≤ length table → length strengths < v * v → room_refusal v n table strengths sheet ≡ Some (Short lent.Strengths)
  short_strengths t r = rw (enough n table t, too_few s strengths r)

  module _ (t : v * v ≤ length table) (r : v * v ≤ length strengths) where
    pub short_sheet : length sheet < length (certificate_by v n) → room_refusal v n table strengths sheet ≡ Some (Short lent.Sheet)
    short_sheet h = rw (enough n table t, enough s strengths r, lt-ltb (length sheet) (length (certificate_by v n)) h)

    pub all_room : length (certificate_by v n) ≤ length sheet → room_refusal v n table strengths sheet ≡ None
    all_room h = rw (enough n table t, enough s strengths r, le-ltb (length sheet) (length (certificate_by v n)) h)

-- a call that is refused answers why, and leaves all as it was
pub refused_is : {A : Type 0} (o : Option Refusal) (a : A) (e : Refusal) → Err e ≡ result_of o a → o ≡ Some e
refused_is None a e h = absurd (cc)
refused_is (Some f) a e h = cc

pub leaves_all : {o : Option Refusal} {e : Refusal} (v : ℕ) (n : ℕ → ℕ → ℕ) (table strengths sheet : List ℕ) → o ≡ Some e →
    Leaves o v n table table strengths strengths sheet sheet
leaves_all v n table strengths sheet is = rw is (record { table_after = refl; strengths_after = refl; sheet_after = refl })

-- a call that is not refused has room for each part, and writes it to the front
pub copied_never : (lent : Lent) {numbers old new : List ℕ} {e : Refusal} → no_room lent numbers old ≡ None →
    Copied lent numbers old new (Err e) → ⊥
copied_never lent none f = let h = f.answer ∙ ap (λ o. result_of o tt) none in absurd (cc)

pub record HasRooms (v : ℕ) (n : ℕ → ℕ → ℕ) (table strengths sheet : List ℕ) : Type 0 where
  pub none : room_refusal v n table strengths sheet ≡ None
  pub for_table : no_room lent.Table (rows v n) table ≡ None
  pub for_strengths : no_room lent.Strengths (strengths_by v n) strengths ≡ None
  pub for_sheet : length (certificate_by v n) ≤ length sheet

module _ (v : ℕ) (n : ℕ → ℕ → ℕ) (table strengths sheet : List ℕ) where
  pub has_rooms : Ok tt ≡ result_of {A = Unit {0}} (room_refusal v n table strengths sheet) tt → HasRooms v n table strengths sheet
  has_rooms h =
      let none = (result_of-ok (room_refusal v n table strengths sheet) tt tt (sym h)).0 in
      let last = no_room lent.Sheet (certificate_by v n) sheet in
      let first = neither (no_room lent.Table (rows v n) table) _ none in
      let second = neither (no_room lent.Strengths (strengths_by v n) strengths) last first.1 in
      record { none = none; for_table = first.0; for_strengths = second.0; for_sheet = grind (arith, nat_tests) }

  pub leaves_fronts : {table' strengths' sheet' : List ℕ} → HasRooms v n table strengths sheet →
      Copied lent.Table (rows v n) table table' (Ok tt) → Copied lent.Strengths (strengths_by v n) strengths strengths' (Ok tt) →
      sheet' ≡ slice_after None sheet (certificate_by v n) →
      Leaves (room_refusal v n table strengths sheet) v n table table' strengths strengths' sheet sheet'
  leaves_fronts r t s w =
      rw r.none (record {
        table_after = t.after ∙ ap (λ o. slice_after o table (rows v n)) r.for_table;
        strengths_after = s.after ∙ ap (λ o. slice_after o strengths (strengths_by v n)) r.for_strengths;
        sheet_after = w;
      })

-- what is said of the table of ballots that are accepted, said of the ballots
pub by_ballots :
    {bs : List ℕ} {t : Pairwise} (P : Option Refusal → ℕ → ℕ → (ℕ → ℕ → ℕ) → Type 0) → PairwiseOf bs t →
    P None t.ballots t.counts.candidates (number_for t.counts) → P (refusal bs) (ballots_in bs) (candidates_in bs) (counts_of bs)
by_ballots {bs} {t} P h p =
    subst (λ o. P o (ballots_in bs) (candidates_in bs) (counts_of bs)) (sym h.accepted)
    (subst (λ b. P None b (candidates_in bs) (counts_of bs)) h.ballots
    (subst (λ v. P None t.ballots v (counts_of bs)) h.candidates (subst (λ n. P None t.ballots t.counts.candidates n) h.counts p)))

-- and what holds of the front that is written holds of the first bytes, as many as are answered
pub front_is :
    (P : List ℕ → Type 0) (refused : Option Refusal) (answer : Certified) (front sheet : List ℕ) {sheet' : List ℕ} {r : Result Certified Refusal} →
    P front → answer.length ≡ length front → r ≡ result_of refused answer → sheet' ≡ slice_after refused sheet front →
    IfOk r (λ c. P (take c.length sheet'))
front_is P None answer front sheet p long is after =
    rw (is, after, long) (rw (take_at front (drop (length front) sheet) (length front) refl) p)
front_is P (Some e) answer front sheet p long is after = rw is tt
