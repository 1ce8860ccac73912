-- The lines of a text, and the numbers of a line.
use Rattle.std.proofs.Common.{◌≡◌, ℕ, ◌+◌, ◌%◌, ◌^◌, ◌<◌, ◌≤◌, true, false, eqb, leb, List, [], ◌∷◌, ◌++◌, length, map, get_or, codes, refl, ap, sym, ◌∙◌, arith, append_assoc, append-nil, ◌-◌}
use Rattle.std.specs.List.{All, AllByRecursion, list_all, slice_split}
use Rattle.std.specs.Str.Lines.{lines, lines_of_parts, strip_carriage_return}
use Rattle.std.specs.Fmt.{decimal}
use Rattle.std.proofs.lemmas.Bool.{ne_eqb, leb-true}
use Rattle.std.proofs.lemmas.Fmt.{decimal_by_steps, decimal_injective}
use Rattle.std.proofs.lemmas.List.Elements.{All-from_recursion, All-append}
use Rattle.std.proofs.lemmas.List.Sums.{AllPass-from_list_all}
use Rattle.std.proofs.lemmas.List.Splits.{slice_split_none, slice_split_at}
use Rattle.std.proofs.ByRecursion.{All-push}
use Rattle.tiebreak.specs.Reports.{number_text, numbers_text, text_of_lines, ahead_line}

-- a line without control characters
abbrev pub Plain : List ℕ → Type 0
Plain line = All (λ b. 32 ≤ b) line

none_is : (k : ℕ) (line : List ℕ) → All (λ b. k < b) line → All (λ b. eqb b k ≡ false) line
none_is k line h i d l = ne_eqb (get_or line i d) k (λ e. let g = h i d l in absurd (omega (arith, e, g)))

above : (j k : ℕ) (line : List ℕ) → j ≤ k → All (λ b. k ≤ b) line → All (λ b. j ≤ b) line
above j k line l h i d m = let g = h i d m in omega (arith, g)

-- parted at the newlines, the text has the lines, and nothing behind the last
parted : (ls : List (List ℕ)) → AllByRecursion Plain ls → slice_split (λ b. eqb b 10) (text_of_lines ls) ≡ ls ++ [] ∷ []
parted [] h = refl
parted (line ∷ ls) h =
    let no_newline = none_is 10 line (above 11 32 line (omega arith) h.0) in
    rw (append_assoc line (codes "\n") (text_of_lines ls))
    (rw (slice_split_at (λ b. eqb b 10) line 10 (text_of_lines ls) no_newline refl, parted ls h.1))

unstripped : (line : List ℕ) → Plain line → strip_carriage_return line ≡ line
unstripped [] h = refl
unstripped (b ∷ line) h =
    let g = h (length line) 0 (omega arith) in
    let e : length (b ∷ line) - 1 ≡ length line = omega arith in
    rw (e, ne_eqb (get_or (b ∷ line) (length line) 0) 13 (λ e. absurd (omega (arith, e, g)))) refl

all_parts : (ls : List (List ℕ)) → AllByRecursion Plain ls → lines_of_parts (ls ++ [] ∷ []) ≡ ls
all_parts [] h = refl
all_parts (line ∷ []) h = rw (unstripped line h.0) refl
all_parts (line ∷ (more ∷ ls)) h = rw (unstripped line h.0, all_parts (more ∷ ls) h.1) refl

-- the lines of a text of plain lines are these
pub lines_of_text : (ls : List (List ℕ)) → AllByRecursion Plain ls → lines (text_of_lines ls) ≡ ls
lines_of_text ls h = ap lines_of_parts (parted ls h) ∙ all_parts ls h

word_plain : (k : ℕ) (word : List ℕ) → list_all (λ b. leb k b) word ≡ true → All (λ b. k ≤ b) word
word_plain k word h i d l = leb-true k (get_or word i d) (AllPass-from_list_all (λ b. leb k b) word h i d l)

-- the digits of a number
decimal_plain : (n : ℕ) → n < 2 ^ 64 → All (λ b. 48 ≤ b) (decimal n)
decimal_plain n small =
    All-from_recursion (λ b. 48 ≤ b) (decimal n)
    (decimal_by_steps (λ _ ds. AllByRecursion (λ b. 48 ≤ b) ds) (λ n l. (omega arith, tt))
    (λ n ds l h. All-push (λ b. 48 ≤ b) ds (48 + n % 10) h (omega arith)) n small)

-- the words of a line
abbrev pub words : List ℕ → List (List ℕ)
words line = slice_split (λ b. eqb b 32) line

spaced :
    (word : List ℕ) (ns : List ℕ) → All (λ b. 33 ≤ b) word → AllByRecursion (λ n. n < 2 ^ 64) ns →
    words (word ++ numbers_text ns) ≡ word ∷ map decimal ns
spaced word [] h small = rw append-nil (slice_split_none (λ b. eqb b 32) word (none_is 32 word h))
spaced word (n ∷ ns) h small =
    slice_split_at (λ b. eqb b 32) word 32 (decimal n ++ numbers_text ns) (none_is 32 word h) refl
    ∙ ap (λ more. word ∷ more) (spaced (decimal n) ns (above 33 48 (decimal n) (omega arith) (decimal_plain n small.0)) small.1)

numbers_plain : (ns : List ℕ) → AllByRecursion (λ n. n < 2 ^ 64) ns → Plain (numbers_text ns)
numbers_plain [] h = λ i d l. absurd (omega arith)
numbers_plain (n ∷ ns) h =
    All-append (λ b. 32 ≤ b) (number_text n) (numbers_text ns)
    (All-append (λ b. 32 ≤ b) (codes " ") (decimal n) (word_plain 32 (codes " ") refl)
    (above 32 48 (decimal n) (omega arith) (decimal_plain n h.0)))
    (numbers_plain ns h.1)

-- a word and numbers are a plain line
pub line_plain :
    (word : List ℕ) (ns : List ℕ) → list_all (λ b. leb 32 b) word ≡ true → AllByRecursion (λ n. n < 2 ^ 64) ns →
    Plain (word ++ numbers_text ns)
line_plain word ns h small = All-append (λ b. 32 ≤ b) word (numbers_text ns) (word_plain 32 word h) (numbers_plain ns small)

-- the line of a pair tells the pair and its strengths
pub ahead_line_injective :
    (x y s t x' y' s' t' : ℕ) → AllByRecursion (λ n. n < 2 ^ 64) (x ∷ y ∷ s ∷ t ∷ []) →
    AllByRecursion (λ n. n < 2 ^ 64) (x' ∷ y' ∷ s' ∷ t' ∷ []) → ahead_line x y s t ≡ ahead_line x' y' s' t' →
    (x ≡ x') × (y ≡ y') × (s ≡ s') × (t ≡ t')
ahead_line_injective x y s t x' y' s' t' small small' e =
    let ahead = word_plain 33 (codes "ahead") refl in
    let ns : List ℕ = x ∷ y ∷ s ∷ t ∷ [] in
    let ns' : List ℕ = x' ∷ y' ∷ s' ∷ t' ∷ [] in
    let same : codes "ahead" ∷ map decimal ns ≡ codes "ahead" ∷ map decimal ns' =
    sym (spaced (codes "ahead") ns ahead small) ∙ ap words e ∙ spaced (codes "ahead") ns' ahead small' in (
      decimal_injective x x' small.0 small'.0 (cc),
      decimal_injective y y' small.1.0 small'.1.0 (cc),
      decimal_injective s s' small.1.1.0 small'.1.1.0 (cc),
      decimal_injective t t' small.1.1.1.0 small'.1.1.1.0 (cc),
    )
