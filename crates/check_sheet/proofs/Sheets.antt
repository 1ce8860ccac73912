-- A sheet longer than any that can be accepted: it is refused as its front is.
use Rattle.std.proofs.Common.{◌≡◌, ℕ, ◌+◌, ◌-◌, ◌*◌, ◌<◌, ◌≤◌, List, [], ◌∷◌, ◌++◌, length, get_or, take, drop, None, sym, refl, ap, ◌∙◌, inl, inr, arith, length-append}
use Rattle.std.specs.Int.{from_le_bytes}
use Rattle.std.proofs.lemmas.Bool.{cases_lt, le-leb, lt-leb}
use Rattle.std.proofs.lemmas.Bool.Decides.{nat_tests}
use Rattle.std.proofs.lemmas.List.{get_or_append_left, take_all, take-append-le, drop-append-le, take-append-drop, length-take-le, length-drop}
use Rattle.std.proofs.lemmas.Nat.{mul-le}
use Rattle.ballots.specs.Format.{most_candidates}
use Rattle.ballots.proofs.Loans.{neither}
use Rattle.pairwise.specs.Counts.{win_by}
use Rattle.pairwise.specs.Pairs.{pairs}
use Rattle.pairwise.proofs.OrderedPairs.{length_pairs}
use Rattle.paths.specs.Middles.{strength}
use Rattle.best.specs.Comparisons.{best_by}
use Rattle.certificate.specs.Layout.{number_width, set_width, number_size, set_size, table_bytes, table_size}
use Rattle.certificate.specs.Reading.{number_at, set_at, path_place, path_length, cut_place, entry_end, entries_end}
use Rattle.certificate.specs.Judge.{bytes_refusal, entry_refusal, entries_refusal, end_refusal, sheet_refusal}
use Rattle.certificate.proofs.Tables.{table_length}

-- how long an entry is at most: its path has a byte for its length
abbrev pub widest : ℕ
widest = number_size + 1 + 255 + set_size

-- how long a sheet is at most
abbrev pub most : ℕ
most = table_size most_candidates + most_candidates * (most_candidates - 1) * widest + set_size

-- bytes in the front, with more behind it
module _ (front rest : List ℕ) where
  abbrev whole : List ℕ
  whole = front ++ rest

  ends : (p : ℕ) → p ≤ length front → p ≤ length whole
  ends p h = omega (arith, length-append front rest)

  byte_same : (p : ℕ) → p < length front → get_or whole p 0 ≡ get_or front p 0
  byte_same p h = get_or_append_left front rest 0 p h

  part_same : (size p : ℕ) → p + size ≤ length front → take size (drop p whole) ≡ take size (drop p front)
  part_same size p h =
      ap (take size) (drop-append-le p front rest (omega arith))
      ∙ take-append-le size (drop p front) rest (rw (length-drop p front) (omega arith))

  number_same : (p : ℕ) → p + number_size ≤ length front → number_at whole p ≡ number_at front p
  unfolding number_at
  number_same p h = ap (from_le_bytes number_width) (part_same number_size p h)

  set_same : (p : ℕ) → p + set_size ≤ length front → set_at whole p ≡ set_at front p
  unfolding set_at
  set_same p h = ap (from_le_bytes set_width) (part_same set_size p h)

  bytes_same : (p : ℕ) (bs : List ℕ) → p + length bs ≤ length front → bytes_refusal whole p bs ≡ bytes_refusal front p bs
  bytes_same p [] h = refl
  bytes_same p (b ∷ bs) h =
      rw (
        le-leb (p + 1) (length whole) (ends (p + 1) (omega arith)),
        le-leb (p + 1) (length front) (omega arith),
        byte_same p (omega arith),
        bytes_same (p + 1) bs (omega arith),
      )

  end_same : (best p : ℕ) → p + set_size < length front → end_refusal best whole p ≡ end_refusal best front p
  end_same best p h =
      rw (
        le-leb (p + set_size) (length whole) (ends (p + set_size) (omega arith)),
        le-leb (p + set_size) (length front) (omega arith),
        set_same p (omega arith),
        lt-leb (length whole) (p + set_size) (omega (arith, length-append front rest)),
        lt-leb (length front) (p + set_size) h,
      )

end_kept : (best p : ℕ) (sheet : List ℕ) → end_refusal best sheet p ≡ None → length sheet ≤ p + set_size
end_kept best p sheet h = grind (arith, nat_tests)

-- entries
module _ (front : List ℕ) (small : (i : ℕ) → get_or front i 0 < 256) where
  end_near : (p : ℕ) → entry_end front p ≤ p + widest
  end_near p = omega (arith, small (p + number_size))

  entries_near : (p : ℕ) (xys : List (ℕ × ℕ)) → entries_end front p xys ≤ p + length xys * widest
  entries_near p [] = omega arith
  entries_near p (xy ∷ xys) = omega (arith, end_near p, entries_near (entry_end front p) xys)

  module _ (rest : List ℕ) where
    entry_end_same : (p : ℕ) → p + widest ≤ length front → entry_end (front ++ rest) p ≡ entry_end front p
    entry_end_same p h = ap (λ k. path_place p + k + set_size) (byte_same front rest (p + number_size) (omega arith))

    module _ (w : ℕ → ℕ → ℕ) (v : ℕ) where
      entry_same : (p x y : ℕ) → p + widest ≤ length front →
          entry_refusal w v (front ++ rest) p x y ≡ entry_refusal w v front p x y
      unfolding entry_refusal
      entry_same p x y h =
          let whole : List ℕ = front ++ rest in
          let count : path_length whole p ≡ path_length front p = byte_same front rest (p + number_size) (omega arith) in
          let near = end_near p in
          rw (
            count,
            number_same front rest p (omega arith),
            part_same front rest (path_length front p) (path_place p) (omega arith),
            set_same front rest (cut_place front p) (omega arith),
            le-leb (path_place p) (length whole) (ends front rest (path_place p) (omega arith)),
            le-leb (cut_place front p) (length whole) (ends front rest (cut_place front p) (omega arith)),
            le-leb (entry_end front p) (length whole) (ends front rest (entry_end front p) (omega arith)),
            le-leb (path_place p) (length front) (omega arith),
            le-leb (cut_place front p) (length front) (omega arith),
            le-leb (entry_end front p) (length front) (omega arith),
          )

      entries_same : (p : ℕ) (xys : List (ℕ × ℕ)) → p + length xys * widest ≤ length front →
          (entries_refusal w v (front ++ rest) p xys ≡ entries_refusal w v front p xys)
          × (entries_end (front ++ rest) p xys ≡ entries_end front p xys)
      entries_same p [] h = (refl, refl)
      entries_same p (xy ∷ xys) h =
          let e = entry_end_same p (omega arith) in
          let r = entries_same (entry_end front p) xys (omega (arith, end_near p)) in
          (rw (entry_same p xy.0 xy.1 (omega arith), e, r.0), rw (e, r.1))

-- the whole sheet, of few candidates
module _ (v : ℕ) (n : ℕ → ℕ → ℕ) (few : v ≤ most_candidates) (front : List ℕ)
    (small : (i : ℕ) → get_or front i 0 < 256) (long : most < length front)
  where
    few_pairs : length (pairs v) ≤ most_candidates * (most_candidates - 1)
    few_pairs = rw (length_pairs v) (mul-le v (v - 1) most_candidates (most_candidates - 1) few (omega arith))

    small_table : table_size v ≤ table_size most_candidates
    small_table = omega (arith, mul-le v v most_candidates most_candidates few few)

    entries_within : table_size v + length (pairs v) * widest + set_size < length front
    entries_within = omega (arith, few_pairs, small_table)

    sheet_same : (rest : List ℕ) → sheet_refusal v n (front ++ rest) ≡ sheet_refusal v n front
    unfolding sheet_refusal
    sheet_same rest =
        let w = win_by n in
        let entries = entries_same front small rest w v (table_size v) (pairs v) (omega (arith, entries_within)) in
        let near = entries_near front small (table_size v) (pairs v) in
        rw (
          bytes_same front rest 0 (table_bytes v n) (omega (arith, table_length v n, entries_within)),
          entries.0,
          entries.1,
          end_same front rest (best_by (strength w v) v) (entries_end front (table_size v) (pairs v)) (omega (arith, entries_within)),
        )

    -- and the front is refused
    sheet_refused : sheet_refusal v n front ≡ None → ⊥
    unfolding sheet_refusal
    sheet_refused none =
        let w = win_by n in
        let near = entries_near front small (table_size v) (pairs v) in
        let behind = neither (bytes_refusal front 0 (table_bytes v n)) _ none in
        let end = neither (entries_refusal w v front (table_size v) (pairs v)) _ behind.1 in
        let short = end_kept (best_by (strength w v) v) (entries_end front (table_size v) (pairs v)) front end.1 in
        let f : ⊥ = omega (arith, entries_within) in
        f

-- what is kept of a sheet, where that is more than can be accepted
module _ (v : ℕ) (n : ℕ → ℕ → ℕ) (few : v ≤ most_candidates) (k : ℕ) (enough : most < k) (sheet : List ℕ)
    (small : (i : ℕ) → get_or (take k sheet) i 0 < 256)
  where
    long : k < length sheet → most < length (take k sheet)
    long h = omega (arith, length-take-le k sheet (omega arith))

    pub kept_refused : sheet_refusal v n (take k sheet) ≡ sheet_refusal v n sheet
    kept_refused = elim (cases_lt k (length sheet)) [
      | inl h ↦
          sym (sheet_same v n few (take k sheet) small (long h) (drop k sheet))
          ∙ ap (sheet_refusal v n) (take-append-drop k sheet)
      | inr h ↦ ap (sheet_refusal v n) (take_all k sheet h)
    ]

    pub kept_whole : sheet_refusal v n (take k sheet) ≡ None → take k sheet ≡ sheet
    kept_whole none = elim (cases_lt k (length sheet)) [
      | inl h ↦ absurd (sheet_refused v n few (take k sheet) small (long h) none)
      | inr h ↦ take_all k sheet h
    ]
