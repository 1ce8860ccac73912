-- The parts of a call and the words that write them.
use Rattle.std.proofs.Common.{◌≡◌, subst, append_assoc, ℕ, zero, suc, ◌<◌, ◌≤◌, true, false, ◌⊎◌, nat_lt, List, [], ◌∷◌, ◌++◌, length, map, get_or, Some, None, Option, codes, All, sym, ap, refl, ◌∙◌, inl, inr, arith, bytes_eq}
use Rattle.std.specs.List.{before_first, after_first, position_or_len}
use Rattle.std.proofs.lemmas.Bool.{cases_Bool, false≢true}
use Rattle.std.proofs.lemmas.Bool.Decides.{nat_tests}
use Rattle.std.proofs.lemmas.Slice.Eq.{bytes_eq-Decides}
use Rattle.std.proofs.lemmas.List.Elements.{All-head, All-tail, All-cons, All-nil}
use Rattle.std.proofs.lemmas.List.Sums.{split_at_first, passes_at_first}
use Rattle.calls.specs.declared.grammar.Grammar.{Grammar}
use Rattle.calls.specs.declared.grammar.Grammar.TheVariants.{Count, Check}
use Rattle.calls.specs.declared.grammar.Takes.{Takes}
use Rattle.calls.specs.declared.grammar.Takes.TheVariants.{Nothing, Value}
use Rattle.calls.specs.Parts.{Part, File, Flag, Valued, Wrong, is_valued, takes_of, is_option, is_equals, option_with, joined, parts_of, valued}
use Rattle.calls.specs.Laws.{Spelling, Path, Alone, Apart, Joined, part, spelled, written, IsProper, ending, ending_files}

same_word : (w v : List ℕ) → bytes_eq w v ≡ true → w ≡ v
same_word w v h = (bytes_eq-Decides w v).0 h

-- the options without a value
flag_is : (g : Grammar) (n : List ℕ) → takes_of g n ≡ Some Nothing → (n ≡ codes "--help") ⊎ (n ≡ codes "--version")
flag_is g n h = elim (cases_Bool (bytes_eq n (codes "--help"))) [
  | inl e ↦ inl (same_word n _ e)
  | inr e ↦ elim (cases_Bool (bytes_eq n (codes "--version"))) [
    | inl f ↦ inr (same_word n _ f)
    | inr f ↦ elim (cases_Bool (is_valued g n)) [
      | inl v ↦ let z : ◌≡◌ {A = Option Takes} (Some Value) (Some Nothing) = rw (e, f, v) at h in absurd (cc)
      | inr v ↦ let z : ◌≡◌ {A = Option Takes} None (Some Nothing) = rw (e, f, v) at h in absurd (cc)
    ]
  ]
]

-- the options with a value
valued_is : (g : Grammar) (n : List ℕ) → takes_of g n ≡ Some Value → is_valued g n ≡ true
valued_is g n h = elim (cases_Bool (is_valued g n)) [
  | inl v ↦ v
  | inr v ↦ elim (cases_Bool (bytes_eq n (codes "--help"))) [
    | inl e ↦ let z : ◌≡◌ {A = Option Takes} (Some Nothing) (Some Value) = rw e at h in absurd (cc)
    | inr e ↦ elim (cases_Bool (bytes_eq n (codes "--version"))) [
      | inl f ↦ let z : ◌≡◌ {A = Option Takes} (Some Nothing) (Some Value) = rw (e, f) at h in absurd (cc)
      | inr f ↦ let z : ◌≡◌ {A = Option Takes} None (Some Value) = rw (e, f, v) at h in absurd (cc)
    ]
  ]
]

-- which options have a value
value_of : (n : List ℕ) → takes_of Count n ≡ Some Value → (n ≡ codes "--sheet") ⊎ (n ≡ codes "--drawn")
value_of n h = elim (cases_Bool (bytes_eq n (codes "--sheet"))) [
  | inl e ↦ inl (same_word n _ e)
  | inr e ↦ let k : bytes_eq n (codes "--drawn") ≡ true = rw e at (valued_is Count n h) in inr (same_word n _ k)
]

no_values : (n : List ℕ) → takes_of Check n ≡ Some Value → ⊥
no_values n h = false≢true (valued_is Check n h)

-- a word that does not look like an option is not --
no_end : (w : List ℕ) → is_option w ≡ false → bytes_eq w (codes "--") ≡ false
no_end w h = elim (cases_Bool (bytes_eq w (codes "--"))) [
  | inl e ↦ absurd (false≢true (sym h ∙ ap is_option (same_word w _ e)))
  | inr e ↦ e
]

pub read_path : (g : Grammar) (w : List ℕ) (ws : List (List ℕ)) → is_option w ≡ false → parts_of g (w ∷ ws) ≡ File w ∷ parts_of g ws
read_path g w ws h = rw (no_end w h, h)

pub read_alone : (g : Grammar) (n : List ℕ) (ws : List (List ℕ)) → takes_of g n ≡ Some Nothing → parts_of g (n ∷ ws) ≡ Flag n ∷ parts_of g ws
read_alone g n ws h =
    let P : List ℕ → Type 0 = λ m. parts_of g (m ∷ ws) ≡ Flag m ∷ parts_of g ws in
    elim (flag_is g n h) as (λ _. P n) [ inl e ↦ subst P (sym e) refl | inr e ↦ subst P (sym e) refl ]

pub read_apart : (g : Grammar) (n v : List ℕ) (ws : List (List ℕ)) → takes_of g n ≡ Some Value → parts_of g (n ∷ (v ∷ ws)) ≡ Valued n v ∷ parts_of g ws
read_apart Check n v ws h = absurd (no_values n h)
read_apart Count n v ws h =
    let P : List ℕ → Type 0 = λ m. parts_of Count (m ∷ (v ∷ ws)) ≡ Valued m v ∷ parts_of Count ws in
    elim (value_of n h) as (λ _. P n) [ inl e ↦ subst P (sym e) refl | inr e ↦ subst P (sym e) refl ]

pub read_joined : (g : Grammar) (n v : List ℕ) (ws : List (List ℕ)) → takes_of g n ≡ Some Value → parts_of g ((n ++ (61 ∷ v)) ∷ ws) ≡ Valued n v ∷ parts_of g ws
read_joined Check n v ws h = absurd (no_values n h)
read_joined Count n v ws h =
    let P : List ℕ → Type 0 = λ m. parts_of Count ((m ++ (61 ∷ v)) ∷ ws) ≡ Valued m v ∷ parts_of Count ws in
    elim (value_of n h) as (λ _. P n) [
      | inl e ↦ subst P (sym e) (let f : nat_lt 7 (suc (suc (suc (suc (suc (suc (suc (suc (length v))))))))) ≡ true = grind (arith, nat_tests) in rw f refl)
      | inr e ↦ subst P (sym e) (let f : nat_lt 7 (suc (suc (suc (suc (suc (suc (suc (suc (length v))))))))) ≡ true = grind (arith, nat_tests) in rw f refl)
    ]

-- what is written is read as its parts
pub parts_written : (g : Grammar) (ss : List Spelling) (files : Option (List (List ℕ))) → All (IsProper g) ss →
    parts_of g (written ss ++ ending files) ≡ map part ss ++ ending_files files
parts_written g [] None h = refl
parts_written g [] (Some ws) h = refl
parts_written g (Path w ∷ ss) files h =
    read_path g w (written ss ++ ending files) (All-head (IsProper g) (Path w) ss h)
    ∙ ap (λ ps. File w ∷ ps) (parts_written g ss files (All-tail (IsProper g) (Path w) ss h))
parts_written g (Alone n ∷ ss) files h =
    read_alone g n (written ss ++ ending files) (All-head (IsProper g) (Alone n) ss h)
    ∙ ap (λ ps. Flag n ∷ ps) (parts_written g ss files (All-tail (IsProper g) (Alone n) ss h))
parts_written g (Apart n v ∷ ss) files h =
    read_apart g n v (written ss ++ ending files) (All-head (IsProper g) (Apart n v) ss h)
    ∙ ap (λ ps. Valued n v ∷ ps) (parts_written g ss files (All-tail (IsProper g) (Apart n v) ss h))
parts_written g (Joined n v ∷ ss) files h =
    read_joined g n v (written ss ++ ending files) (All-head (IsProper g) (Joined n v) ss h)
    ∙ ap (λ ps. Valued n v ∷ ps) (parts_written g ss files (All-tail (IsProper g) (Joined n v) ss h))

-- none of the parts is wrong
abbrev pub IsRight : List Part → Type 0
IsRight [] = Unit {0}
IsRight (File w ∷ ps) = IsRight ps
IsRight (Flag n ∷ ps) = IsRight ps
IsRight (Valued n v ∷ ps) = IsRight ps
IsRight (Wrong ∷ ps) = ⊥

-- how words are written
pub record Spelled (g : Grammar) (ws : List (List ℕ)) (ps : List Part) : Type 0 where
  pub parts : List Spelling
  pub files : Option (List (List ℕ))
  pub proper : All (IsProper g) parts
  pub words : ws ≡ written parts ++ ending files
  pub same : ps ≡ map part parts ++ ending_files files

-- one part more in front
more : (g : Grammar) (s : Spelling) (ws : List (List ℕ)) (ps : List Part) → IsProper g s → Spelled g ws ps → Spelled g (spelled s ++ ws) (part s ∷ ps)
more g s ws ps h r = record {
  parts = s ∷ r.parts;
  files = r.files;
  proper = All-cons (IsProper g) s r.parts h r.proper;
  words = ap (λ vs. spelled s ++ vs) r.words ∙ sym (append_assoc (spelled s) (written r.parts) (ending r.files));
  same = ap (λ qs. part s ∷ qs) r.same;
}

cases_takes : (o : Option Takes) → (o ≡ None) ⊎ ((o ≡ Some Nothing) ⊎ (o ≡ Some Value))
cases_takes None = inl refl
cases_takes (Some Nothing) = inr (inl refl)
cases_takes (Some Value) = inr (inr refl)

-- what stands before and behind the sign
parted : (w : List ℕ) → position_or_len is_equals w < length w → w ≡ before_first is_equals w ++ (61 ∷ after_first is_equals w)
parted w h =
    let p = passes_at_first is_equals w 0 h in
    let e : get_or w (position_or_len is_equals w) 0 ≡ 61 = grind (arith, nat_tests, p) in
    split_at_first is_equals w 0 h ∙ ap (λ c. before_first is_equals w ++ (c ∷ after_first is_equals w)) e

-- a word that is an option joined with its value, or wrong
joined_spelled : (g : Grammar) (w : List ℕ) (ws : List (List ℕ)) (ps : List Part) → IsRight (joined g w ∷ ps) → (IsRight ps → Spelled g ws ps) →
    Spelled g (w ∷ ws) (joined g w ∷ ps)
joined_spelled g w ws ps h k = elim (cases_Bool (nat_lt (position_or_len is_equals w) (length w))) [
  | inl e ↦ elim (cases_takes (takes_of g (before_first is_equals w))) [
    | inl f ↦ let same : joined g w ≡ Wrong = rw (e, option_with, f) refl in let r : ⊥ = subst (λ p. IsRight (p ∷ ps)) same h in absurd r
    | inr q ↦ elim q [
      | inl f ↦ let same : joined g w ≡ Wrong = rw (e, option_with, f) refl in let r : ⊥ = subst (λ p. IsRight (p ∷ ps)) same h in absurd r
      | inr f ↦
          let same : joined g w ≡ Valued (before_first is_equals w) (after_first is_equals w) = rw (e, option_with, f) refl in
          let r : IsRight ps = subst (λ p. IsRight (p ∷ ps)) same h in
          let m = more g (Joined (before_first is_equals w) (after_first is_equals w)) ws ps f (k r) in
          let P : List ℕ → Part → Type 0 = λ v p. Spelled g (v ∷ ws) (p ∷ ps) in
          subst (λ v. P v (joined g w)) (sym (parted w (grind (arith, nat_tests)))) (subst (λ p. P (before_first is_equals w ++ (61 ∷ after_first is_equals w)) p) (sym same) m)
    ]
  ]
  | inr e ↦ let same : joined g w ≡ Wrong = rw e refl in let r : ⊥ = subst (λ p. IsRight (p ∷ ps)) same h in absurd r
]

-- an option and the word behind it
apart_spelled : (g : Grammar) (w : List ℕ) (ws : List (List ℕ)) → takes_of g w ≡ Some Value → IsRight (valued g w ws) →
    ((v : List ℕ) (rest : List (List ℕ)) → ws ≡ v ∷ rest → IsRight (parts_of g rest) → Spelled g rest (parts_of g rest)) →
    Spelled g (w ∷ ws) (valued g w ws)
apart_spelled g w [] k h rest = absurd h
apart_spelled g w (v ∷ ws) k h rest = more g (Apart w v) ws (parts_of g ws) k (rest v ws refl h)

-- words whose parts are all right are written by them
pub spelled_by : (n : ℕ) (g : Grammar) (ws : List (List ℕ)) → length ws ≤ n → IsRight (parts_of g ws) → Spelled g ws (parts_of g ws)
spelled_by n g [] l h = record { parts = []; files = None; proper = All-nil (IsProper g); words = refl; same = refl }
spelled_by zero g (w ∷ ws) l h = absurd (omega arith)
spelled_by (suc n) g (w ∷ ws) l h = elim (cases_Bool (bytes_eq w (codes "--"))) [
  | inl e ↦
      let same : parts_of g (w ∷ ws) ≡ map File ws = rw e refl in
      record { parts = []; files = Some ws; proper = All-nil (IsProper g); words = ap (λ v. v ∷ ws) (same_word w _ e); same = same }
  | inr e ↦ elim (cases_Bool (is_option w)) [
    | inr f ↦
        let same : parts_of g (w ∷ ws) ≡ File w ∷ parts_of g ws = rw (e, f) refl in
        subst (λ ps. Spelled g (w ∷ ws) ps) (sym same) (more g (Path w) ws (parts_of g ws) f (spelled_by n g ws (omega arith) (subst IsRight same h)))
    | inl f ↦ elim (cases_takes (takes_of g w)) [
      | inl k ↦
          let same : parts_of g (w ∷ ws) ≡ joined g w ∷ parts_of g ws = rw (e, f, k) refl in
          subst (λ ps. Spelled g (w ∷ ws) ps) (sym same) (joined_spelled g w ws (parts_of g ws) (subst IsRight same h) (λ r. spelled_by n g ws (omega arith) r))
      | inr q ↦ elim q [
        | inl k ↦
            let same : parts_of g (w ∷ ws) ≡ Flag w ∷ parts_of g ws = rw (e, f, k) refl in
            subst (λ ps. Spelled g (w ∷ ws) ps) (sym same) (more g (Alone w) ws (parts_of g ws) k (spelled_by n g ws (omega arith) (subst IsRight same h)))
        | inr k ↦
            let same : parts_of g (w ∷ ws) ≡ valued g w ws = rw (e, f, k) refl in
            subst (λ ps. Spelled g (w ∷ ws) ps) (sym same) (apart_spelled g w ws k (subst IsRight same h) (λ v rest s r. spelled_by n g rest (omega (arith, ap length s)) r))
      ]
    ]
  ]
]
