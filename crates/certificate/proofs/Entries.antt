-- The entries of a certificate: those that are not refused stand in it and are as said, and those that are as said are not refused.
use Rattle.std.proofs.Common.{◌≡◌, ℕ, ◌+◌, ◌^◌, ◌<◌, ◌≤◌, true, List, [], ◌∷◌, ◌++◌, length, get_or, take, drop, None, sym, refl, ap, ◌∙◌, append_assoc, arith}
use Rattle.std.specs.List.{flat_map, AllByRecursion}
use Rattle.std.proofs.lemmas.Bool.{le-leb}
use Rattle.std.proofs.lemmas.Bool.Decides.{nat_tests}
use Rattle.std.proofs.lemmas.List.{drop_more, drop-drop, take_at, take-append-drop, length-drop, length-take-le}
use Rattle.ballots.proofs.Loans.{neither}
use Rattle.paths.specs.Paths.{IsPair}
use Rattle.certificate.specs.Layout.{number_size, set_size, number_bytes, set_bytes, Entry, path_bytes, entry_bytes}
use Rattle.certificate.specs.Reading.{number_at, set_at, path_place, path_length, cut_place, entry_end, entry_at, entries_from, entries_end}
use Rattle.certificate.specs.Judge.{is_path, is_cut, entry_refusal, entries_refusal}
use Rattle.certificate.specs.Truth.{Supports, AllSupported}
use Rattle.certificate.proofs.Bytes.{next, first_there, long_there, number_there, set_there, number_here, set_here}
use Rattle.certificate.proofs.Support.{tests_support, support_tests}

-- the entry that starts at p is there, and its path and its cut pass
record Accepted (w : ℕ → ℕ → ℕ) (v : ℕ) (sheet : List ℕ) (p x y : ℕ) : Type 0 where
  within : entry_end sheet p ≤ length sheet
  path : is_path w x y (number_at sheet p) (entry_at sheet p).path ≡ true
  cut : is_cut w v x y (number_at sheet p) (entry_at sheet p).cut ≡ true

accepted_entry : (w : ℕ → ℕ → ℕ) (v : ℕ) (sheet : List ℕ) (p x y : ℕ) → entry_refusal w v sheet p x y ≡ None → Accepted w v sheet p x y
unfolding entry_refusal
accepted_entry w v sheet p x y h = record { within = grind (arith, nat_tests); path = grind (arith, nat_tests); cut = grind (arith, nat_tests) }

entry_accepted : (w : ℕ → ℕ → ℕ) (v : ℕ) (sheet : List ℕ) (p x y : ℕ) → Accepted w v sheet p x y → entry_refusal w v sheet p x y ≡ None
unfolding entry_refusal
entry_accepted w v sheet p x y a =
    let l = a.within in
    rw (a.path, a.cut, le-leb (path_place p) (length sheet) (omega arith), le-leb (cut_place sheet p) (length sheet) (omega arith), le-leb (entry_end sheet p) (length sheet) l)

-- the numbers of an entry are not above what its bytes can say
abbrev pub Fits : Entry → Type 0
Fits e = (e.strength < 256 ^ number_size) × (e.cut < 256 ^ set_size)

module _ (sheet : List ℕ) where
  -- a strength and a path that stand from p on are what is read there
  pub record PathThere (p s : ℕ) (row rest : List ℕ) : Type 0 where
    pub strength : number_at sheet p ≡ s
    pub path : (entry_at sheet p).path ≡ row
    pub within : cut_place sheet p ≤ length sheet
    pub behind : drop (cut_place sheet p) sheet ≡ rest

  pub path_there : (p s : ℕ) (row rest : List ℕ) → s < 256 ^ number_size → drop p sheet ≡ path_bytes s row ++ rest → PathThere p s row rest
  unfolding path_bytes
  path_there p s row rest fits h =
      let after = next sheet p (number_bytes s) (length row ∷ (row ++ rest)) h in
      let count : path_length sheet p ≡ length row = first_there sheet (p + number_size) (length row) (row ++ rest) after in
      let path : drop (path_place p) sheet ≡ row ++ rest = next sheet (p + number_size) (length row ∷ []) (row ++ rest) after in
      record {
        strength = number_there sheet p s (length row ∷ (row ++ rest)) fits h;
        path = rw (count, path) (take_at row rest (length row) refl);
        within = rw count (omega (arith, long_there sheet p (path_bytes s row) rest (omega arith) h));
        behind = rw count (next sheet (path_place p) row rest path);
      }

  -- and so is an entry
  pub record IsThere (p : ℕ) (e : Entry) (rest : List ℕ) : Type 0 where
    pub strength : number_at sheet p ≡ e.strength
    pub path : (entry_at sheet p).path ≡ e.path
    pub cut : (entry_at sheet p).cut ≡ e.cut
    pub within : entry_end sheet p ≤ length sheet
    pub behind : drop (entry_end sheet p) sheet ≡ rest

  pub entry_there : (p : ℕ) (e : Entry) (rest : List ℕ) → Fits e → drop p sheet ≡ entry_bytes e ++ rest → IsThere p e rest
  unfolding entry_bytes
  entry_there p e rest fits h =
      let cut : List ℕ = set_bytes e.cut in
      let front : List ℕ = path_bytes e.strength e.path in
      let t = path_there p e.strength e.path (cut ++ rest) fits.0 (h ∙ append_assoc front cut rest) in
      record {
        strength = t.strength;
        path = t.path;
        cut = set_there sheet (cut_place sheet p) e.cut rest fits.1 t.behind;
        within = long_there sheet (cut_place sheet p) cut rest (omega arith) t.behind;
        behind = next sheet (cut_place sheet p) cut rest t.behind;
      }

  module _ (small : (i : ℕ) → get_or sheet i 0 < 256) where
    pub path_here : (p : ℕ) → cut_place sheet p ≤ length sheet →
        drop p sheet ≡ path_bytes (number_at sheet p) (entry_at sheet p).path ++ drop (cut_place sheet p) sheet
    unfolding path_bytes
    path_here p l =
        let k : ℕ = path_length sheet p in
        let path : List ℕ = take k (drop (path_place p) sheet) in
        let rest : List ℕ = drop (cut_place sheet p) sheet in
        let long : length path ≡ k = length-take-le k (drop (path_place p) sheet) (rw (length-drop (path_place p) sheet) (omega arith)) in
        let tail : drop (path_place p) sheet ≡ path ++ rest =
        sym (take-append-drop k (drop (path_place p) sheet)) ∙ ap (λ z. path ++ z) (drop-drop k (path_place p) sheet) in
        number_here sheet small p (omega arith)
        ∙ ap (λ z. number_bytes (number_at sheet p) ++ z)
        (drop_more sheet (p + number_size) 0 (omega arith) ∙ (ap (λ z. k ∷ z) tail ∙ ap (λ i. i ∷ (path ++ rest)) (sym long)))

    pub entry_here : (p : ℕ) → entry_end sheet p ≤ length sheet → drop p sheet ≡ entry_bytes (entry_at sheet p) ++ drop (entry_end sheet p) sheet
    unfolding entry_bytes
    entry_here p l =
        let front : List ℕ = path_bytes (number_at sheet p) (entry_at sheet p).path in
        let cut : List ℕ = set_bytes (set_at sheet (cut_place sheet p)) in
        path_here p (omega arith)
        ∙ (ap (λ z. front ++ z) (set_here sheet small (cut_place sheet p) l) ∙ sym (append_assoc front cut (drop (entry_end sheet p) sheet)))

-- entries that are not refused
module _ (w : ℕ → ℕ → ℕ) (v : ℕ) (beyond : (a z : ℕ) → v ≤ z → w a z ≡ 0) (sheet : List ℕ) where
  module _ (small : (i : ℕ) → get_or sheet i 0 < 256) where
    pub entries_here : (p : ℕ) (xys : List (ℕ × ℕ)) → entries_refusal w v sheet p xys ≡ None →
        drop p sheet ≡ flat_map entry_bytes (entries_from sheet p xys) ++ drop (entries_end sheet p xys) sheet
    entries_here p [] h = refl
    entries_here p (xy ∷ xys) h =
        let q = neither (entry_refusal w v sheet p xy.0 xy.1) _ h in
        let a = accepted_entry w v sheet p xy.0 xy.1 q.0 in
        entry_here sheet small p a.within
        ∙ (ap (λ z. entry_bytes (entry_at sheet p) ++ z) (entries_here (entry_end sheet p) xys q.1)
        ∙ sym (append_assoc (entry_bytes (entry_at sheet p)) (flat_map entry_bytes (entries_from sheet (entry_end sheet p) xys)) (drop (entries_end sheet p (xy ∷ xys)) sheet)))

  pub entries_supported : (p : ℕ) (xys : List (ℕ × ℕ)) → AllByRecursion (λ xy. IsPair v xy.0 xy.1) xys → entries_refusal w v sheet p xys ≡ None →
      AllSupported w v xys (entries_from sheet p xys)
  entries_supported p [] each h = tt
  entries_supported p (xy ∷ xys) each h =
      let q = neither (entry_refusal w v sheet p xy.0 xy.1) _ h in
      let a = accepted_entry w v sheet p xy.0 xy.1 q.0 in
      (tests_support w v beyond xy.0 xy.1 (entry_at sheet p) each.0.first a.path a.cut, entries_supported (entry_end sheet p) xys each.1 q.1)

  -- entries that are as said
  pub supported_entries : (p : ℕ) (xys : List (ℕ × ℕ)) (es : List Entry) (rest : List ℕ) →
      ((x y : ℕ) (e : Entry) → Supports w v x y e → Fits e) → AllByRecursion (λ xy. IsPair v xy.0 xy.1) xys → AllSupported w v xys es → drop p sheet ≡ flat_map entry_bytes es ++ rest →
      (entries_refusal w v sheet p xys ≡ None) × (drop (entries_end sheet p xys) sheet ≡ rest)
  supported_entries p [] [] rest fits each s h = (refl, h)
  supported_entries p [] (e ∷ es) rest fits each s h = absurd s
  supported_entries p (xy ∷ xys) [] rest fits each s h = absurd s
  supported_entries p (xy ∷ xys) (e ∷ es) rest fits each s h =
      let more : List ℕ = flat_map entry_bytes es in
      let t = entry_there sheet p e (more ++ rest) (fits xy.0 xy.1 e s.0) (h ∙ append_assoc (entry_bytes e) more rest) in
      let k = support_tests w v beyond xy.0 xy.1 e each.0.apart s.0 in
      let a : Accepted w v sheet p xy.0 xy.1 = record { within = t.within; path = rw (t.strength, t.path) k.0; cut = rw (t.strength, t.cut) k.1 } in
      let r = supported_entries (entry_end sheet p) xys es rest fits each.1 s.1 t.behind in
      (rw (entry_accepted w v sheet p xy.0 xy.1 a) r.0, r.1)
