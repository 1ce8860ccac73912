-- Where a certificate is refused at the path or the cut of a pair: it is as said up to there, and not there.
use Rattle.std.proofs.Common.{nat_eq, nat_le, slice_index, ◌≡◌, ℕ, ◌+◌, ◌<◌, ◌≤◌, Bool, true, false, if◌then◌else◌, List, [], ◌∷◌, ◌++◌, length, get_or, drop, Some, None, Option, ◌⊎◌, sym, refl, ap, ◌∙◌, subst, inl, inr, arith}
use Rattle.std.specs.List.{flat_map, AllByRecursion}
use Rattle.std.specs.Option.{option_or}
use Rattle.std.proofs.lemmas.Bool.{cases_Bool, le-leb, false≢true}
use Rattle.std.proofs.lemmas.Bool.Decides.{nat_tests}
use Rattle.ballots.specs.declared.refusal.Refusal.{Refusal}
use Rattle.ballots.specs.declared.refusal.Refusal.TheVariants.{Length, Candidates, Short, Draw, Table, Path, Cut, Best}
use Rattle.ballots.specs.Ballots.{unranked}
use Rattle.ballots.specs.Format.{candidates_in, ballots_of, whole_length}
use Rattle.ballots.specs.Refusals.{refusal}
use Rattle.ballots.proofs.Loans.{neither}
use Rattle.ballots.proofs.Votes.{accepted}
use Rattle.pairwise.specs.Counts.{count, win_by}
use Rattle.pairwise.specs.Pairs.{pairs}
use Rattle.pairwise.specs.Pairwise.{counts_of}
use Rattle.paths.specs.Paths.{IsPair}
use Rattle.paths.specs.Middles.{strength}
use Rattle.best.specs.Comparisons.{best_by}
use Rattle.certificate.specs.Layout.{set_size, Entry, entry_bytes, table_bytes, table_size}
use Rattle.certificate.specs.Reading.{number_at, set_at, path_place, cut_place, entry_end, entry_at, entries_from, entries_end}
use Rattle.certificate.specs.Judge.{unless, ends_before, bytes_refusal, is_path, is_cut, entry_refusal, entries_refusal, end_refusal, sheet_refusal, judge}
use Rattle.certificate.specs.Refused.{SaidBefore, RefusedAtPath, RefusedAtCut}
use Rattle.certificate.proofs.Bytes.{next, stands_here, stands_there, number_fits, set_fits}
use Rattle.certificate.proofs.Entries.{path_there, entry_there, path_here, entry_here, entries_here, entries_supported, supported_entries}
use Rattle.certificate.proofs.Exact.{all_pairs, strength_small, fits, wins_small}
use Rattle.certificate.proofs.Support.{beyond, path_true, true_path, cut_true, true_cut}
use Rattle.certificate.proofs.Tables.{table_length}

-- a refusal at the path or at the cut of a pair
abbrev of_pair : Refusal → Bool
of_pair (Length at) = false
of_pair Candidates = false
of_pair (Short lent) = false
of_pair (Draw place) = false
of_pair (Table at) = false
of_pair (Path x y) = true
of_pair (Cut x y) = true
of_pair Best = false

-- if anything, something else is refused
abbrev Elsewhere : Option Refusal → Type 0
Elsewhere o = (e : Refusal) → o ≡ Some e → of_pair e ≡ false

else_none : Elsewhere None
else_none e h = absurd (cc)

else_some : (f : Refusal) → of_pair f ≡ false → Elsewhere (Some f)
else_some f other e h = subst (λ g. of_pair g ≡ false) (cc) other

else_if : (test : Bool) (f : Refusal) (rest : Option Refusal) → of_pair f ≡ false → Elsewhere rest →
    Elsewhere (if test then Some f else rest)
else_if true f rest other more = else_some f other
else_if false f rest other more = more

else_unless : (test : Bool) (f : Refusal) → of_pair f ≡ false → Elsewhere (unless test f)
else_unless true f other = else_none
else_unless false f other = else_some f other

else_ends : (sheet : List ℕ) (p : ℕ) → Elsewhere (ends_before sheet p)
else_ends sheet p = else_unless _ (Length (length sheet)) refl

else_or : (a b : Option Refusal) → Elsewhere a → Elsewhere b → Elsewhere (option_or a b)
else_or None b first second = second
else_or (Some f) b first second = first

of_ballots : (bytes : List ℕ) → Elsewhere (refusal bytes)
of_ballots bytes =
    else_if _ (Length 0) _ refl (else_if _ Candidates _ refl (else_if _ (Length (length bytes)) _ refl
    (else_if _ (Length (whole_length bytes)) _ refl else_none)))

of_bytes : (sheet : List ℕ) (p : ℕ) (bs : List ℕ) → Elsewhere (bytes_refusal sheet p bs)
of_bytes sheet p [] = else_none
of_bytes sheet p (b ∷ bs) =
    let byte = else_unless (nat_eq (slice_index sheet p) b) (Table p) refl in
    else_or (ends_before sheet (p + 1)) _ (else_ends sheet (p + 1)) (else_or _ _ byte (of_bytes sheet (p + 1) bs))

of_end : (best : ℕ) (sheet : List ℕ) (p : ℕ) → Elsewhere (end_refusal best sheet p)
of_end best sheet p =
    let set = else_unless (nat_eq (set_at sheet p) best) Best refl in
    let behind = else_unless (nat_le (length sheet) (p + set_size)) (Length (p + set_size)) refl in
    else_or (ends_before sheet (p + set_size)) _ (else_ends sheet (p + set_size)) (else_or _ _ set behind)

-- of two refusals, where only one can be of a pair
second_is : (a b : Option Refusal) (e : Refusal) → Elsewhere a → of_pair e ≡ true → option_or a b ≡ Some e →
    (a ≡ None) × (b ≡ Some e)
second_is None b e other is h = (refl, h)
second_is (Some f) b e other is h = absurd (false≢true (sym (other e h) ∙ is))

first_is : (a b : Option Refusal) (e : Refusal) → Elsewhere b → of_pair e ≡ true → option_or a b ≡ Some e → a ≡ Some e
first_is None b e other is h = absurd (false≢true (sym (other e h) ∙ is))
first_is (Some f) b e other is h = h

either_is : (a b : Option Refusal) (e : Refusal) → option_or a b ≡ Some e → (a ≡ Some e) ⊎ ((a ≡ None) × (b ≡ Some e))
either_is None b e h = inr (refl, h)
either_is (Some f) b e h = inl h

-- entries of which one is refused
module _ (w : ℕ → ℕ → ℕ) (v : ℕ) (sheet : List ℕ) where
  -- the path of the entry that starts at p is there and fails; or it passes, and the cut is there and fails
  record PathFails (p x y : ℕ) : Type 0 where
    within : cut_place sheet p ≤ length sheet
    path : is_path w x y (number_at sheet p) (entry_at sheet p).path ≡ false

  record CutFails (p x y : ℕ) : Type 0 where
    within : entry_end sheet p ≤ length sheet
    path : is_path w x y (number_at sheet p) (entry_at sheet p).path ≡ true
    cut : is_cut w v x y (number_at sheet p) (entry_at sheet p).cut ≡ false

  path_fails : (p x y a b : ℕ) → entry_refusal w v sheet p x y ≡ Some (Path a b) → PathFails p x y × (x ≡ a) × (y ≡ b)
  unfolding entry_refusal
  path_fails p x y a b h = (
    record { within = grind (arith, nat_tests); path = grind (arith, nat_tests) },
    grind (arith, nat_tests),
    grind (arith, nat_tests),
  )

  cut_fails : (p x y a b : ℕ) → entry_refusal w v sheet p x y ≡ Some (Cut a b) → CutFails p x y × (x ≡ a) × (y ≡ b)
  unfolding entry_refusal
  cut_fails p x y a b h = (
    record { within = grind (arith, nat_tests); path = grind (arith, nat_tests); cut = grind (arith, nat_tests) },
    grind (arith, nat_tests),
    grind (arith, nat_tests),
  )

  fails_path : (p x y : ℕ) → PathFails p x y → entry_refusal w v sheet p x y ≡ Some (Path x y)
  unfolding entry_refusal
  fails_path p x y f =
      let l = f.within in
      rw (f.path, le-leb (path_place p) (length sheet) (omega arith), le-leb (cut_place sheet p) (length sheet) l)

  fails_cut : (p x y : ℕ) → CutFails p x y → entry_refusal w v sheet p x y ≡ Some (Cut x y)
  unfolding entry_refusal
  fails_cut p x y f =
      let l = f.within in
      let path = le-leb (path_place p) (length sheet) (omega arith) in
      let cut = le-leb (cut_place sheet p) (length sheet) (omega arith) in
      rw (f.path, f.cut, path, cut, le-leb (entry_end sheet p) (length sheet) l)

  -- the first of the entries from p on that is refused
  record FirstRefused (p : ℕ) (xys : List (ℕ × ℕ)) (e : Refusal) : Type 0 where
    x : ℕ
    y : ℕ
    before : List (ℕ × ℕ)
    after : List (ℕ × ℕ)
    order : xys ≡ before ++ ((x, y) ∷ after)
    none : entries_refusal w v sheet p before ≡ None
    here : entry_refusal w v sheet (entries_end sheet p before) x y ≡ Some e

  first_refused :
      (p : ℕ) (xys : List (ℕ × ℕ)) (e : Refusal) → entries_refusal w v sheet p xys ≡ Some e → FirstRefused p xys e
  first_refused p [] e h = absurd (cc)
  first_refused p (xy ∷ xys) e h = elim (either_is (entry_refusal w v sheet p xy.0 xy.1) _ e h) [
    | inl here ↦ record { x = xy.0; y = xy.1; before = []; after = xys; order = refl; none = refl; here = here }
    | inr more ↦
        let r = first_refused (entry_end sheet p) xys e more.1 in
        record {
          x = r.x;
          y = r.y;
          before = xy ∷ r.before;
          after = r.after;
          order = ap (λ l. xy ∷ l) r.order;
          none = rw more.0 r.none;
          here = r.here;
        }
  ]

  refused_first : (p : ℕ) (before : List (ℕ × ℕ)) (x y : ℕ) (after : List (ℕ × ℕ)) (e : Refusal) →
      entries_refusal w v sheet p before ≡ None → entry_refusal w v sheet (entries_end sheet p before) x y ≡ Some e →
      entries_refusal w v sheet p (before ++ ((x, y) ∷ after)) ≡ Some e
  refused_first p [] x y after e none here = rw here
  refused_first p (xy ∷ xys) x y after e none here =
      let q = neither (entry_refusal w v sheet p xy.0 xy.1) _ none in
      rw q.0 (refused_first (entry_end sheet p) xys x y after e q.1 here)

-- what holds of all pairs holds of those before x, y, and of it
each_before : (P : ℕ × ℕ → Type 0) (before : List (ℕ × ℕ)) (x y : ℕ) (after : List (ℕ × ℕ)) →
    AllByRecursion P (before ++ ((x, y) ∷ after)) → AllByRecursion P before × P (x, y)
each_before P [] x y after h = (tt, h.0)
each_before P (xy ∷ xys) x y after h = let r = each_before P xys x y after h.1 in ((h.0, r.0), r.1)

module _ (bytes sheet : List ℕ) where
  abbrev v : ℕ
  v = candidates_in bytes

  abbrev n : ℕ → ℕ → ℕ
  n = counts_of bytes

  abbrev w : ℕ → ℕ → ℕ
  w = win_by n

  abbrev f : ℕ → ℕ → ℕ
  f = count unranked (ballots_of bytes)

  abbrev start : ℕ
  start = table_size v

  abbrev Two : ℕ × ℕ → Type 0
  Two xy = IsPair v xy.0 xy.1

  pairs_before : (before : List (ℕ × ℕ)) (x y : ℕ) (after : List (ℕ × ℕ)) → pairs v ≡ before ++ ((x, y) ∷ after) →
      AllByRecursion Two before × IsPair v x y
  pairs_before before x y after order =
      each_before Two before x y after (subst (AllByRecursion Two) order (all_pairs v))

  -- the entries start where the table ends
  table_end : 0 + length (table_bytes v n) ≡ start
  table_end = omega (arith, table_length v n)

  -- a certificate that is refused at a pair is as said up to the place of its entry
  record Fault (e : Refusal) : Type 0 where
    x : ℕ
    y : ℕ
    place : ℕ
    two : IsPair v x y
    said : SaidBefore bytes sheet x y (drop place sheet)
    here : entry_refusal w v sheet place x y ≡ Some e

  fault : ((i : ℕ) → get_or sheet i 0 < 256) → (e : Refusal) → of_pair e ≡ true → judge bytes sheet ≡ Some e → Fault e
  unfolding sheet_refusal
  fault small e is h =
      let best : ℕ = best_by (strength w v) v in
      let table : List ℕ = table_bytes v n in
      let file = second_is (refusal bytes) _ e (of_ballots bytes) is h in
      let front = second_is (bytes_refusal sheet 0 table) _ e (of_bytes sheet 0 table) is file.1 in
      let end = of_end best sheet (entries_end sheet start (pairs v)) in
      let entries = first_is (entries_refusal w v sheet start (pairs v)) _ e end is front.1 in
      let r = first_refused w v sheet start (pairs v) e entries in
      let each = pairs_before r.before r.x r.y r.after r.order in
      let place : ℕ = entries_end sheet start r.before in
      let es : List ℕ = flat_map entry_bytes (entries_from sheet start r.before) in
      let behind : drop (0 + length table) sheet ≡ es ++ drop place sheet =
      ap (λ p. drop p sheet) table_end ∙ entries_here w v (beyond v f) sheet small start r.before r.none in
      record {
        x = r.x;
        y = r.y;
        place = place;
        two = each.1;
        said = record {
          accepted = file.0;
          before = r.before;
          after = r.after;
          order = r.order;
          entries = entries_from sheet start r.before;
          supported = entries_supported w v (beyond v f) sheet start r.before each.0 r.none;
          layout = stands_here sheet 0 table front.0 ∙ ap (λ z. table ++ z) behind;
        };
        here = r.here;
      }

  -- and one that is as said up to some pair is refused as the entry of the pair is
  module _ (small : (i : ℕ) → get_or bytes i 0 < 256) (x y : ℕ) (rest : List ℕ) (said : SaidBefore bytes sheet x y rest)
    where
      abbrev place : ℕ
      place = entries_end sheet start said.before

      each : AllByRecursion Two said.before × IsPair v x y
      each = pairs_before said.before x y said.after said.order

      reaches : (entries_refusal w v sheet start said.before ≡ None) × (drop place sheet ≡ rest)
      reaches =
          let es : List ℕ = flat_map entry_bytes said.entries in
          let front : drop start sheet ≡ es ++ rest =
          ap (λ p. drop p sheet) (sym table_end) ∙ next sheet 0 (table_bytes v n) (es ++ rest) said.layout in
          let fit = fits v f sheet (accepted bytes said.accepted).1 (wins_small bytes small) in
          supported_entries w v (beyond v f) sheet start said.before said.entries rest fit each.0 said.supported front

      judged_here : (e : Refusal) → entry_refusal w v sheet place x y ≡ Some e → judge bytes sheet ≡ Some e
      unfolding sheet_refusal
      judged_here e here =
          let first = refused_first w v sheet start said.before x y said.after e reaches.0 here in
          let entries : entries_refusal w v sheet start (pairs v) ≡ Some e =
          ap (entries_refusal w v sheet start) said.order ∙ first in
          rw (said.accepted, stands_there sheet 0 (table_bytes v n) _ said.layout, entries)

  module _ (x y : ℕ) where
    pub path_refused :
        ((i : ℕ) → get_or sheet i 0 < 256) → judge bytes sheet ≡ Some (Path x y) → RefusedAtPath bytes sheet x y
    path_refused small h =
        let k = fault small (Path x y) refl h in
        let (fails, first, second) = path_fails w v sheet k.place k.x k.y x y k.here in
        let e : Entry = entry_at sheet k.place in
        subst (λ a. RefusedAtPath bytes sheet a y) first
        (subst (λ b. RefusedAtPath bytes sheet k.x b) second
        (record {
          strength = e.strength;
          path = e.path;
          rest = drop (cut_place sheet k.place) sheet;
          said = subst (SaidBefore bytes sheet k.x k.y) (path_here sheet small k.place fails.within) k.said;
          fits = number_fits sheet small k.place;
          wrong = λ shows.
              false≢true (sym fails.path ∙ true_path w v (beyond v f) k.x k.y e.strength e.path k.two.apart shows);
        }))

    pub cut_refused :
        ((i : ℕ) → get_or sheet i 0 < 256) → judge bytes sheet ≡ Some (Cut x y) → RefusedAtCut bytes sheet x y
    cut_refused small h =
        let k = fault small (Cut x y) refl h in
        let (fails, first, second) = cut_fails w v sheet k.place k.x k.y x y k.here in
        let e : Entry = entry_at sheet k.place in
        subst (λ a. RefusedAtCut bytes sheet a y) first
        (subst (λ b. RefusedAtCut bytes sheet k.x b) second
        (record {
          entry = e;
          rest = drop (entry_end sheet k.place) sheet;
          said = subst (SaidBefore bytes sheet k.x k.y) (entry_here sheet small k.place fails.within) k.said;
          fits = set_fits sheet small (cut_place sheet k.place);
          path = path_true w v (beyond v f) k.x k.y e.strength e.path k.two.first fails.path;
          wrong = λ c. false≢true (sym fails.cut ∙ true_cut w v (beyond v f) k.x k.y e.strength e.cut c);
        }))

    module _ (small : (i : ℕ) → get_or bytes i 0 < 256) where
      pub refused_path : RefusedAtPath bytes sheet x y → judge bytes sheet ≡ Some (Path x y)
      refused_path r =
          let pair = (each small x y _ r.said).1 in
          let p : ℕ = entries_end sheet start r.said.before in
          let t = path_there sheet p r.strength r.path r.rest r.fits (reaches small x y _ r.said).1 in
          let fails : is_path w x y r.strength r.path ≡ false = elim (cases_Bool (is_path w x y r.strength r.path)) [
            | inl passes ↦ absurd (r.wrong (path_true w v (beyond v f) x y r.strength r.path pair.first passes))
            | inr fails ↦ fails
          ] in
          judged_here small x y _ r.said (Path x y)
          (fails_path w v sheet p x y (record { within = t.within; path = rw (t.strength, t.path) fails }))

      pub refused_cut : RefusedAtCut bytes sheet x y → judge bytes sheet ≡ Some (Cut x y)
      refused_cut r =
          let pair = (each small x y _ r.said).1 in
          let p : ℕ = entries_end sheet start r.said.before in
          let e : Entry = r.entry in
          let few = (accepted bytes r.said.accepted).1 in
          let number = strength_small v f sheet few (wins_small bytes small) x y e.strength e.path r.path in
          let t = entry_there sheet p e r.rest (number, r.fits) (reaches small x y _ r.said).1 in
          let fails : is_cut w v x y e.strength e.cut ≡ false = elim (cases_Bool (is_cut w v x y e.strength e.cut)) [
            | inl passes ↦ absurd (r.wrong (cut_true w v (beyond v f) x y e.strength e.cut passes))
            | inr fails ↦ fails
          ] in
          let path = true_path w v (beyond v f) x y e.strength e.path pair.apart r.path in
          judged_here small x y _ r.said (Cut x y)
          (fails_cut w v sheet p x y
          (record { within = t.within; path = rw (t.strength, t.path) path; cut = rw (t.strength, t.cut) fails }))
