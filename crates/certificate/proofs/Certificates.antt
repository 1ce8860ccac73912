-- The certificate that is written: how long it is, and that what it claims is as said.
use Rattle.std.proofs.Common.{ℕ, ◌+◌, ◌-◌, ◌*◌, ◌≤◌, List, [], ◌∷◌, ◌++◌, map, length, inl, inr, add-mul, arith, length-append, ◌≡◌, ◌<◌, ◌≢◌, None, refl, ap, subst}
use Rattle.std.specs.List.{flat_map, AllByRecursion}
use Rattle.std.proofs.lemmas.Bool.{cases_lt, le-ltb}
use Rattle.std.proofs.lemmas.Nat.{mul-le}
use Rattle.pairwise.specs.Counts.{win_by}
use Rattle.pairwise.specs.Pairs.{pairs}
use Rattle.pairwise.proofs.OrderedPairs.{length_pairs, pairs_each}
use Rattle.paths.specs.Middles.{strength, row}
use Rattle.paths.proofs.Parts.{row_shows}
use Rattle.best.specs.Comparisons.{best_by}
use Rattle.certificate.specs.Layout.{number_size, set_bytes, set_size, table_bytes, table_size, entry_bytes, certificate_of}
use Rattle.certificate.specs.Certified.{entry_of, entries_by, certificate_by}
use Rattle.certificate.specs.Laws.{NoneIsLonger, RoomForAny}
use Rattle.certificate.proofs.Tables.{table_length}
use Rattle.certificate.proofs.Writing.{entry_length}
use Rattle.ballots.specs.Format.{most_candidates, candidates_in}
use Rattle.ballots.specs.Refusals.{refusal}
use Rattle.pairwise.specs.Pairwise.{counts_of}
use Rattle.paths.specs.Cuts.{Cut}
use Rattle.paths.proofs.Pairs.{two_pair}
use Rattle.paths.proofs.Crossings.{nearer_cuts}
use Rattle.best.proofs.Meanings.{best_meaning}
use Rattle.certificate.specs.Truth.{Supports, AllSupported, AsSaid}

-- the entries: a path has no candidate twice
module _ (w : ℕ → ℕ → ℕ) (v : ℕ) where
  path_short : (x y : ℕ) → length (row w v x y) ≤ v
  path_short x y = elim (cases_lt 0 (strength w v x y)) [
    | inl some ↦ (row_shows w v x y some).short
    | inr none ↦ rw (le-ltb 0 (strength w v x y) none) (omega arith)
  ]

  parts_short : (xys : List (ℕ × ℕ)) →
      length (flat_map entry_bytes (map (λ xy. entry_of w v xy.0 xy.1) xys)) ≤ length xys * (number_size + 1 + v + set_size)
  parts_short [] = omega arith
  parts_short (xy ∷ xys) =
      let e = entry_of w v xy.0 xy.1 in
      omega (
        arith,
        length-append (entry_bytes e) (flat_map entry_bytes (map (λ xy. entry_of w v xy.0 xy.1) xys)),
        entry_length e,
        path_short xy.0 xy.1,
        parts_short xys,
        add-mul (length xys) 1 (number_size + 1 + v + set_size),
      )

  pub entries_short : v ≤ most_candidates →
      length (flat_map entry_bytes (entries_by w v)) ≤ most_candidates * (most_candidates - 1) * (number_size + 1 + most_candidates + set_size)
  entries_short few =
      let m : ℕ = most_candidates in
      let number : length (pairs v) ≤ m * (m - 1) = rw (length_pairs v) (mul-le v (v - 1) m (m - 1) few (omega arith)) in
      let all = mul-le (length (pairs v)) (number_size + 1 + v + set_size) (m * (m - 1)) (number_size + 1 + m + set_size) number (omega arith) in
      omega (arith, parts_short (pairs v), all)

-- how long a certificate is, and that there is room for it
pub certificate_length : (v : ℕ) (n : ℕ → ℕ → ℕ) →
    length (certificate_by v n) ≡ table_size v + length (flat_map entry_bytes (entries_by (win_by n) v)) + set_size
unfolding certificate_by certificate_of
certificate_length v n =
    let entries = flat_map entry_bytes (entries_by (win_by n) v) in
    let best = set_bytes (best_by (strength (win_by n) v) v) in
    omega (arith, length-append (table_bytes v n) (entries ++ best), length-append entries best, table_length v n)

pub none_is_longer : NoneIsLonger
none_is_longer v n =
    let w = win_by n in
    let number = ap (λ k. k * (number_size + 1 + v + set_size)) (length_pairs v) in
    omega (arith, certificate_length v n, parts_short w v (pairs v), number)

pub room_for_any : RoomForAny
room_for_any v n few =
    omega (arith, certificate_length v n, entries_short (win_by n) v few, mul-le v v most_candidates most_candidates few few)

module _ (w : ℕ → ℕ → ℕ) (v : ℕ) where
  entry_supported : (x y : ℕ) → x < v → y < v → x ≢ y → Supports w v x y (entry_of w v x y)
  entry_supported x y xv yv ne =
      let two = two_pair v x y xv yv ne in
      record {
        path = elim (cases_lt 0 (strength w v x y)) [
          | inl some ↦ inr (row_shows w v x y some).shows
          | inr none ↦ rw (le-ltb 0 (strength w v x y) none) (inl (refl, omega arith))
        ];
        cut = subst (λ set. Cut w v x y (strength w v x y) set) (rw two) (nearer_cuts w v x y two);
      }

  each_supported : (xys : List (ℕ × ℕ)) → AllByRecursion (λ xy. Supports w v xy.0 xy.1 (entry_of w v xy.0 xy.1)) xys →
      AllSupported w v xys (map (λ xy. entry_of w v xy.0 xy.1) xys)
  each_supported [] h = tt
  each_supported (xy ∷ xys) h = (h.0, each_supported xys h.1)

  entries_supported : AllSupported w v (pairs v) (entries_by w v)
  entries_supported = each_supported (pairs v) (pairs_each (λ xy. Supports w v xy.0 xy.1 (entry_of w v xy.0 xy.1)) v entry_supported)

-- so the certificate is
pub certificate_said : (bytes : List ℕ) → refusal bytes ≡ None → AsSaid bytes (certificate_by (candidates_in bytes) (counts_of bytes))
unfolding certificate_by
certificate_said bytes accepted =
    let w = win_by (counts_of bytes) in
    let v = candidates_in bytes in
    record {
      accepted = accepted;
      entries = entries_by w v;
      supported = entries_supported w v;
      set = best_by (strength w v) v;
      best = best_meaning w v;
      layout = refl;
    }
