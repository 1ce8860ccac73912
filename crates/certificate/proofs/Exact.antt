-- What is accepted is true and as said, and what is as said is accepted.
use Rattle.std.proofs.Common.{◌≡◌, ℕ, ◌+◌, ◌-◌, ◌*◌, ◌^◌, ◌<◌, ◌≤◌, ltb, List, [], ◌∷◌, ◌++◌, length, get_or, drop, None, sym, ap, ◌∙◌, inl, inr, append-nil, arith, pow_mono}
use Rattle.std.specs.List.{flat_map, AllByRecursion, AllZip}
use Rattle.std.proofs.lemmas.Bool.{cases_Bool, le-leb, eq-eqb}
use Rattle.std.proofs.lemmas.Bool.Decides.{nat_tests}
use Rattle.std.proofs.lemmas.List.{drop_all, length-drop}
use Rattle.ballots.specs.Format.{most_candidates, candidates_in, ballots_of}
use Rattle.ballots.specs.Ballots.{unranked}
use Rattle.ballots.specs.Refusals.{refusal}
use Rattle.ballots.proofs.Loans.{neither}
use Rattle.ballots.proofs.StruckFiles.{length_ballots}
use Rattle.ballots.proofs.Votes.{accepted}
use Rattle.pairwise.specs.declared.pairwise.Pairwise.{Pairwise}
use Rattle.pairwise.specs.Counts.{count, win_by}
use Rattle.pairwise.specs.Grids.{within, number_for}
use Rattle.pairwise.specs.Pairs.{pairs}
use Rattle.pairwise.specs.Pairwise.{counts_of, PairwiseOf}
use Rattle.pairwise.proofs.Cells.{within_le}
use Rattle.pairwise.proofs.OrderedPairs.{pairs_each}
use Rattle.pairwise.proofs.Preferences.{count_le}
use Rattle.paths.specs.Paths.{IsPair, Strongest}
use Rattle.paths.specs.Rows.{weakest}
use Rattle.paths.specs.Middles.{strength}
use Rattle.best.specs.Comparisons.{best_by, BestSet}
use Rattle.best.proofs.Meanings.{best_meaning, is_best}
use Rattle.certificate.specs.Layout.{number_size, set_size, set_bytes, Entry, entry_bytes, table_bytes, table_size, certificate_of}
use Rattle.certificate.specs.Reading.{set_at, entries_in, entries_end}
use Rattle.certificate.specs.Judge.{bytes_refusal, entries_refusal, end_refusal, sheet_refusal, judge}
use Rattle.certificate.specs.Truth.{StrengthsAreTrue, TrueTo, ShowsStrength, Supports, AllSupported, AsSaid}
use Rattle.certificate.proofs.Bytes.{next, stands_here, stands_there, set_there, set_here}
use Rattle.certificate.proofs.Entries.{Fits, entries_here, entries_supported, supported_entries}
use Rattle.certificate.proofs.Support.{beyond, supports_strongest}
use Rattle.certificate.proofs.Tables.{table_length}

-- the pairs are pairs
pub all_pairs : (v : ℕ) → AllByRecursion (λ xy. IsPair v xy.0 xy.1) (pairs v)
all_pairs v = pairs_each (λ xy. IsPair v xy.0 xy.1) v (λ x y xv yv ne. record { first = xv; second = yv; apart = ne })

-- the certificate ends with the set of the best
ended : (best p : ℕ) (sheet : List ℕ) → end_refusal best sheet p ≡ None → (length sheet ≡ p + set_size) × (set_at sheet p ≡ best)
ended best p sheet h = (grind (arith, nat_tests), grind (arith, nat_tests))

end_met : (best p : ℕ) (sheet : List ℕ) → length sheet ≡ p + set_size → set_at sheet p ≡ best → end_refusal best sheet p ≡ None
end_met best p sheet l e =
    rw (le-leb (p + set_size) (length sheet) (omega arith), eq-eqb (set_at sheet p) best e, le-leb (length sheet) (p + set_size) (omega arith))

-- counts that are 0 where there is no pair
module _ (v : ℕ) (f : ℕ → ℕ → ℕ) (sheet : List ℕ) where
  abbrev n : ℕ → ℕ → ℕ
  n = within v f

  abbrev w : ℕ → ℕ → ℕ
  w = win_by n

  abbrev end : ℕ
  end = entries_end sheet (table_size v) (pairs v)

  -- a certificate that is not refused
  module _ (none : sheet_refusal v n sheet ≡ None) where
    parts : (bytes_refusal sheet 0 (table_bytes v n) ≡ None) × (entries_refusal w v sheet (table_size v) (pairs v) ≡ None)
        × (length sheet ≡ end + set_size) × (set_at sheet end ≡ best_by (strength w v) v)
    unfolding sheet_refusal
    parts =
        let p = neither (bytes_refusal sheet 0 (table_bytes v n)) _ none in
        let q = neither (entries_refusal w v sheet (table_size v) (pairs v)) _ p.1 in
        let e = ended _ end sheet q.1 in
        (p.0, q.0, e.0, e.1)

    all_supported : AllSupported w v (pairs v) (entries_in v sheet)
    all_supported = entries_supported w v (beyond v f) sheet (table_size v) (pairs v) (all_pairs v) parts.1

    strengths_true : StrengthsAreTrue w v (entries_in v sheet)
    strengths_true = each (pairs v) (entries_in v sheet) all_supported
      where
        each : (xys : List (ℕ × ℕ)) (es : List Entry) → AllSupported w v xys es → AllZip (λ xy e. Strongest w v xy.0 xy.1 e.strength) xys es
        each [] [] s = tt
        each [] (e ∷ es) s = s
        each (xy ∷ xys) [] s = s
        each (xy ∷ xys) (e ∷ es) s = (supports_strongest w v xy.0 xy.1 e s.0, each xys es s.1)

    last : length sheet - set_size ≡ end
    last = omega (arith, parts.2)

    best_at_end : BestSet w v (set_at sheet (length sheet - set_size))
    best_at_end = rw (last, parts.3) (best_meaning w v)

    laid_out : ((i : ℕ) → get_or sheet i 0 < 256) → sheet ≡ certificate_of v n (entries_in v sheet) (set_at sheet (length sheet - set_size))
    unfolding certificate_of
    laid_out small =
        let es : List ℕ = flat_map entry_bytes (entries_in v sheet) in
        let nothing : drop (end + set_size) sheet ≡ [] = drop_all (end + set_size) sheet (omega (arith, parts.2)) in
        let set : drop end sheet ≡ set_bytes (set_at sheet (length sheet - set_size)) =
        set_here sheet small end (omega (arith, parts.2)) ∙ rw (nothing, last) in
        let entries : drop (0 + length (table_bytes v n)) sheet ≡ es ++ drop end sheet =
        ap (λ p. drop p sheet) (omega (arith, table_length v n)) ∙ entries_here w v (beyond v f) sheet small (table_size v) (pairs v) parts.1 in
        stands_here sheet 0 (table_bytes v n) parts.0 ∙ ap (λ z. table_bytes v n ++ z) (entries ∙ ap (λ z. es ++ z) set)

  -- entries that are as said fit their bytes, where the wins do
  module _ (few : v ≤ most_candidates) (small : (x y : ℕ) → w x y < 256 ^ number_size) where
    weakest_small : (x : ℕ) (zs : List ℕ) → weakest w x zs < 256 ^ number_size
    weakest_small x [] = omega arith
    weakest_small x (z ∷ []) = small x z
    weakest_small x (z ∷ (a ∷ zs)) = omega (arith, small x z)

    set_small : (set : ℕ) → set < 2 ^ v → set < 256 ^ set_size
    set_small set h = omega (arith, pow_mono {i = v} {j = 8 * set_size} (omega arith))

    pub strength_small : (x y s : ℕ) (row : List ℕ) → ShowsStrength w v x y s row → s < 256 ^ number_size
    strength_small x y s row shows = elim shows [ inl none ↦ omega (arith, none.1) | inr p ↦ omega (arith, p.weak, weakest_small x p.rest) ]

    pub fits : (x y : ℕ) (e : Entry) → Supports w v x y e → Fits e
    fits x y e s = (strength_small x y e.strength e.path s.path, set_small e.cut s.cut.bounded)

    -- a certificate that is as said
    pub said_met : (entries : List Entry) (set : ℕ) → AllSupported w v (pairs v) entries → BestSet w v set →
        sheet ≡ certificate_of v n entries set → sheet_refusal v n sheet ≡ None
    unfolding sheet_refusal certificate_of
    said_met entries set s best layout =
        let es : List ℕ = flat_map entry_bytes entries in
        let front : drop (table_size v) sheet ≡ es ++ set_bytes set =
        ap (λ p. drop p sheet) (omega (arith, table_length v n)) ∙ next sheet 0 (table_bytes v n) (es ++ set_bytes set) layout in
        let r = supported_entries w v (beyond v f) sheet (table_size v) (pairs v) entries (set_bytes set) fits (all_pairs v) s front in
        let same : set_at sheet end ≡ best_by (strength w v) v =
        set_there sheet end set [] (set_small set best.within) (r.1 ∙ sym (append-nil (set_bytes set))) ∙ is_best w v best in
        rw (stands_there sheet 0 (table_bytes v n) (es ++ set_bytes set) layout, r.0)
        (end_met _ end sheet (omega (arith, ap length r.1, length-drop end sheet)) same)

-- no win is above what a number holds
pub wins_small : (bytes : List ℕ) → ((i : ℕ) → get_or bytes i 0 < 256) → (x y : ℕ) → win_by (counts_of bytes) x y < 256 ^ number_size
wins_small bytes small x y =
    let n = counts_of bytes in
    let fits : n x y < 256 ^ number_size =
    omega (arith, within_le (candidates_in bytes) x y (length (ballots_of bytes)) (count unranked (ballots_of bytes)) (count_le (ballots_of bytes) x y), length_ballots bytes, small 1, small 2) in
    elim (cases_Bool (ltb (n y x) (n x y))) [ inl t ↦ rw t fits | inr t ↦ rw t (omega arith) ]

-- a file's counts are judged as its ballots are
pub judged : (bytes sheet : List ℕ) (t : Pairwise) → PairwiseOf bytes t →
    sheet_refusal t.counts.candidates (number_for t.counts) sheet ≡ judge bytes sheet
judged bytes sheet t p =
    ap (λ v. sheet_refusal v (number_for t.counts) sheet) p.candidates
    ∙ (ap (λ n. sheet_refusal (candidates_in bytes) n sheet) p.counts ∙ rw p.accepted)

pub accepted_true : (bytes sheet : List ℕ) → judge bytes sheet ≡ None → TrueTo bytes sheet
accepted_true bytes sheet h =
    let none = (neither (refusal bytes) _ h).1 in
    record { strengths = strengths_true _ _ sheet none; best = best_at_end _ _ sheet none }

pub accepted_said : (bytes sheet : List ℕ) → ((i : ℕ) → get_or sheet i 0 < 256) → judge bytes sheet ≡ None → AsSaid bytes sheet
accepted_said bytes sheet small h =
    let p = neither (refusal bytes) _ h in
    record {
      accepted = p.0;
      entries = entries_in (candidates_in bytes) sheet;
      supported = all_supported _ _ sheet p.1;
      set = set_at sheet (length sheet - set_size);
      best = best_at_end _ _ sheet p.1;
      layout = laid_out _ _ sheet p.1 small;
    }

pub said_accepted : (bytes sheet : List ℕ) → ((i : ℕ) → get_or bytes i 0 < 256) → AsSaid bytes sheet → judge bytes sheet ≡ None
said_accepted bytes sheet small s =
    rw s.accepted
    (said_met (candidates_in bytes) (count unranked (ballots_of bytes)) sheet (accepted bytes s.accepted).1 (wins_small bytes small)
    s.entries s.set s.supported s.best s.layout)
