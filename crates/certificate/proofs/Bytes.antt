-- Bytes that stand in a certificate, and what is read of them.
use Rattle.std.proofs.Common.{◌≡◌, ℕ, ◌+◌, ◌^◌, ◌<◌, ◌≤◌, Bool, true, false, eqb, List, [], ◌∷◌, ◌++◌, length, get_or, take, drop, None, sym, refl, ap, ◌∙◌, inl, inr, add-zero, arith, length-append}
use Rattle.std.specs.Int.{from_le_bytes}
use Rattle.std.proofs.lemmas.Bool.{cases_lt, le-leb, leb-true, eq-eqb, eqb-true}
use Rattle.std.proofs.lemmas.List.{get_or-take, get_or-drop, get_or_past, drop_more, drop-drop, drop_at, take_at, take-append-drop, length-drop, length-take, length-take-le}
use Rattle.std.proofs.lemmas.Nat.{le_bytes_2, le_bytes_4, from_le_bytes-to_le_bytes_2, from_le_bytes-to_le_bytes_4}
use Rattle.ballots.specs.declared.refusal.Refusal.{Refusal}
use Rattle.ballots.specs.declared.refusal.Refusal.TheVariants.{Table}
use Rattle.ballots.proofs.Loans.{neither}
use Rattle.certificate.specs.Layout.{number_width, set_width, number_size, set_size, number_bytes, set_bytes}
use Rattle.certificate.specs.Reading.{number_at, set_at}
use Rattle.certificate.specs.Judge.{unless, ends_before, bytes_refusal}

-- a demand that is not refused is met
pub met : (test : Bool) (e : Refusal) → unless test e ≡ None → test ≡ true
met true e h = refl
met false e h = cc

module _ (sheet : List ℕ) where
  -- what follows bytes that stand from p on
  pub next : (p : ℕ) (bs rest : List ℕ) → drop p sheet ≡ bs ++ rest → drop (p + length bs) sheet ≡ rest
  next p bs rest h = sym (drop-drop (length bs) p sheet) ∙ (ap (drop (length bs)) h ∙ drop_at bs rest (length bs) refl)

  pub first_there : (p b : ℕ) (rest : List ℕ) → drop p sheet ≡ b ∷ rest → get_or sheet p 0 ≡ b
  first_there p b rest h = rw add-zero at (sym (get_or-drop p sheet 0 0) ∙ ap (λ l. get_or l 0 0) h)

  pub long_there : (p : ℕ) (bs rest : List ℕ) → 0 < length bs → drop p sheet ≡ bs ++ rest → p + length bs ≤ length sheet
  long_there p bs rest some h = omega (arith, ap length h, length-drop p sheet, length-append bs rest)

  -- bytes that have to stand from p on, and do
  pub stands_here : (p : ℕ) (bs : List ℕ) → bytes_refusal sheet p bs ≡ None → drop p sheet ≡ bs ++ drop (p + length bs) sheet
  stands_here p [] h = rw add-zero
  stands_here p (b ∷ bs) h =
      let within = neither (ends_before sheet (p + 1)) _ h in
      let here = neither (unless (eqb (get_or sheet p 0) b) (Table p)) _ within.1 in
      let there : p < length sheet = omega (arith, leb-true (p + 1) (length sheet) (met _ _ within.0)) in
      let e : (p + 1) + length bs ≡ p + length (b ∷ bs) = omega arith in
      rw (drop_more sheet p 0 there, eqb-true (get_or sheet p 0) b (met _ _ here.0), stands_here (p + 1) bs here.1, e)

  pub stands_there : (p : ℕ) (bs rest : List ℕ) → drop p sheet ≡ bs ++ rest → bytes_refusal sheet p bs ≡ None
  stands_there p [] rest h = refl
  stands_there p (b ∷ bs) rest h =
      let more = stands_there (p + 1) bs rest (next p (b ∷ []) (bs ++ rest) h) in
      rw (le-leb (p + 1) (length sheet) (omega (arith, long_there p (b ∷ bs) rest (omega arith) h)), eq-eqb (get_or sheet p 0) b (first_there p b (bs ++ rest) h), more)

  -- a value of some size: read where its bytes stand, and the bytes of what is read
  module _ (size : ℕ) (bytes : ℕ → List ℕ) (value : List ℕ → ℕ) where
    value_there : (p k : ℕ) (rest : List ℕ) → length (bytes k) ≡ size → value (bytes k) ≡ k → drop p sheet ≡ bytes k ++ rest →
        value (take size (drop p sheet)) ≡ k
    value_there p k rest long round h = ap (λ l. value (take size l)) h ∙ (ap value (take_at (bytes k) rest size long) ∙ round)

    value_here : (p : ℕ) → bytes (value (take size (drop p sheet))) ≡ take size (drop p sheet) →
        drop p sheet ≡ bytes (value (take size (drop p sheet))) ++ drop (p + size) sheet
    value_here p back =
        sym (take-append-drop size (drop p sheet)) ∙ (ap (λ l. l ++ drop size (drop p sheet)) (sym back) ∙ ap (λ l. bytes (value (take size (drop p sheet))) ++ l) (drop-drop size p sheet))

  pub number_there : (p k : ℕ) (rest : List ℕ) → k < 256 ^ number_size → drop p sheet ≡ number_bytes k ++ rest → number_at sheet p ≡ k
  unfolding number_at
  number_there p k rest fits = value_there number_size number_bytes (from_le_bytes number_width) p k rest refl (from_le_bytes-to_le_bytes_2 k fits)

  pub set_there : (p k : ℕ) (rest : List ℕ) → k < 256 ^ set_size → drop p sheet ≡ set_bytes k ++ rest → set_at sheet p ≡ k
  unfolding set_at
  set_there p k rest fits = value_there set_size set_bytes (from_le_bytes set_width) p k rest refl (from_le_bytes-to_le_bytes_4 k fits)

  module _ (small : (i : ℕ) → get_or sheet i 0 < 256) where
    small_part : (size p i : ℕ) → get_or (take size (drop p sheet)) i 0 < 256
    small_part size p i = elim (cases_lt i size) [
      | inl l ↦ rw (get_or-take size (drop p sheet) i 0 l, get_or-drop p sheet i 0) (small (p + i))
      | inr l ↦ rw (get_or_past (take size (drop p sheet)) i 0 (omega (arith, length-take size (drop p sheet)))) (omega arith)
    ]

    -- what is read is not above what its bytes can say
    pub number_fits : (p : ℕ) → number_at sheet p < 256 ^ number_size
    unfolding number_at
    number_fits p = omega (arith, small_part number_size p 0, small_part number_size p 1)

    pub set_fits : (p : ℕ) → set_at sheet p < 256 ^ set_size
    unfolding set_at
    set_fits p = omega (arith, small_part set_size p 0, small_part set_size p 1, small_part set_size p 2, small_part set_size p 3)

    part_long : (size p : ℕ) → p + size ≤ length sheet → length (take size (drop p sheet)) ≡ size
    part_long size p h = length-take-le size (drop p sheet) (rw (length-drop p sheet) (omega arith))

    pub number_here : (p : ℕ) → p + number_size ≤ length sheet → drop p sheet ≡ number_bytes (number_at sheet p) ++ drop (p + number_size) sheet
    unfolding number_at
    number_here p h =
        value_here number_size number_bytes (from_le_bytes number_width) p
        (le_bytes_2 (take number_size (drop p sheet)) _ (part_long number_size p h) (small_part number_size p) refl)

    pub set_here : (p : ℕ) → p + set_size ≤ length sheet → drop p sheet ≡ set_bytes (set_at sheet p) ++ drop (p + set_size) sheet
    unfolding set_at
    set_here p h =
        value_here set_size set_bytes (from_le_bytes set_width) p
        (le_bytes_4 (take set_size (drop p sheet)) _ (part_long set_size p h) (small_part set_size p) refl)
