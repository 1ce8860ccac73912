-- Tests of all candidates: what they say of each, and how a loop finds it.
use Rattle.std.proofs.Common.{◌≡◌, ℕ, zero, suc, ◌+◌, ◌<◌, ◌≤◌, Bool, true, false, ◌&&◌, Option, [], ◌∷◌, List, refl, ap, ◌∙◌, inl, inr, arith}
use Rattle.std.specs.declared.ops.Range.{Range}
use Rattle.std.specs.Fn.{Called}
use Rattle.std.specs.Iterator.{YieldsThen}
use Rattle.std.specs.List.{FoldsTo, range_with_len, list_all}
use Rattle.std.specs.Option.{MatchOption}
use Rattle.std.proofs.iter.Yields.{nat_range_steps}
use Rattle.std.proofs.lemmas.Iterator.{YieldsList-from_range}
use Rattle.std.proofs.lemmas.Iterator.Search.{all_from_yields_List}
use Rattle.std.proofs.lemmas.List.Folds.{list_all-append}
use denote.Param.Members.{Mut}
use Rattle.ballots.proofs.Rows.{counting_more}
use Rattle.std.proofs.lemmas.Bool.{cases_eq, cases_Bool, and_parts, and_from}
use Rattle.ballots.specs.Sets.{every, number}

pub every_at : (f : ℕ → Bool) (n x : ℕ) → every f n ≡ true → x < n → f x ≡ true
every_at f zero x h l = absurd (let z : ⊥ = omega arith in z)
every_at f (suc n) x h l = elim (cases_eq x n) [
  | inl e ↦ rw e (and_parts _ _ h).0
  | inr e ↦ every_at f n x (and_parts _ _ h).1 (omega arith)
]

pub every_all : (f : ℕ → Bool) (n : ℕ) → ((x : ℕ) → x < n → f x ≡ true) → every f n ≡ true
every_all f zero h = refl
every_all f (suc n) h = and_from _ _ (h n (omega arith)) (every_all f n (λ x l. h x (omega arith)))

pub every_same : (f g : ℕ → Bool) (n : ℕ) → ((x : ℕ) → x < n → f x ≡ g x) → every f n ≡ every g n
every_same f g zero h = refl
every_same f g (suc n) h = let e = h n (omega arith) in let t = every_same f g n (λ x l. h x (omega arith)) in rw (e, t)

-- how many pass
pub number_same : (f g : ℕ → Bool) (n : ℕ) → ((x : ℕ) → x < n → f x ≡ g x) → number f n ≡ number g n
number_same f g zero h = refl
number_same f g (suc n) h = let e = h n (omega arith) in let t = number_same f g n (λ x l. h x (omega arith)) in rw (e, t)

pub number_all : (f : ℕ → Bool) (n : ℕ) → ((x : ℕ) → x < n → f x ≡ true) → number f n ≡ n
number_all f zero h = refl
number_all f (suc n) h = let e = h n (omega arith) in rw e (omega (arith, number_all f n (λ x l. h x (omega arith))))

pub number_some : (f : ℕ → Bool) (n : ℕ) → 0 < number f n → (x : ℕ) × (x < n) × (f x ≡ true)
number_some f zero h = absurd (let z : ⊥ = omega arith in z)
number_some f (suc n) h = elim (cases_Bool (f n)) [
  | inl e ↦ (n, omega arith, e)
  | inr e ↦ let k : 0 < 0 + number f n = rw e at h in let (x, l, p) = number_some f n (omega arith) in (x, omega arith, p)
]

pub number_none : (f : ℕ → Bool) (n x : ℕ) → number f n ≡ 0 → x < n → f x ≡ true → ⊥
number_none f zero x h l p = omega arith
number_none f (suc n) x h l p = elim (cases_eq x n) [
  | inl e ↦ let q : f n ≡ true = rw e at p in let k : 1 + number f n ≡ 0 = rw q at h in omega arith
  | inr e ↦ number_none f n x (omega arith) (omega arith) p
]

pub number_le : (f g : ℕ → Bool) (n : ℕ) → ((x : ℕ) → x < n → f x ≡ true → g x ≡ true) → number f n ≤ number g n
number_le f g zero h = omega arith
number_le f g (suc n) h =
    let i = number_le f g n (λ x l. h x (omega arith)) in
    elim (cases_Bool (f n)) [
      | inl e ↦ let k = h n (omega arith) e in rw (e, k) (omega arith)
      | inr e ↦ rw e (omega arith)
    ]

pub number_lt : (f g : ℕ → Bool) (n a : ℕ) → ((x : ℕ) → x < n → f x ≡ true → g x ≡ true) →
    a < n → f a ≡ false → g a ≡ true → number f n < number g n
number_lt f g zero a h l p q = absurd (let z : ⊥ = omega arith in z)
number_lt f g (suc n) a h l p q = elim (cases_eq a n) [
  | inl e ↦
      let fn : f n ≡ false = rw e at p in
      let gn : g n ≡ true = rw e at q in
      rw (fn, gn) (omega (arith, number_le f g n (λ x l. h x (omega arith))))
  | inr e ↦
      let i = number_lt f g n a (λ x l. h x (omega arith)) (omega arith) p q in
      elim (cases_Bool (f n)) [
        | inl fn ↦ let gn = h n (omega arith) fn in rw (fn, gn) (omega arith)
        | inr fn ↦ rw fn (omega arith)
      ]
]

-- a test of all candidates, as a chain over a range runs it
last_first : (a b : Bool) → (a && (b && true)) ≡ (b && a)
last_first true true = refl
last_first true false = refl
last_first false true = refl
last_first false false = refl

every_listed : (f : ℕ → Bool) (n : ℕ) → list_all f (range_with_len 0 n) ≡ every f n
every_listed f zero = refl
every_listed f (suc n) =
    let e : suc n ≡ n + 1 = omega arith in
    ap (λ k. list_all f (range_with_len 0 k)) e
    ∙ (ap (list_all f) (counting_more n)
    ∙ (list_all-append f (range_with_len 0 n) (n ∷ [])
    ∙ (ap (λ t. t && (f n && true)) (every_listed f n) ∙ last_first (every f n) (f n))))

-- what `(0..n).all(test)` answers, by its clause `ran`
pub every_from_all :
    {F : Type 0} {g : Mut F (ℕ × Unit {0}) Bool} (test : ℕ → Bool) (n : ℕ) {u : Range ℕ} {f : F} {r : Bool} →
    (xs : List ℕ) × (o : Option ℕ) × (j : F) × YieldsThen nat_range_steps (record { start = 0; end = n }) xs o u
    × FoldsTo (λ p x q. Called g p (x, tt) true q) f xs j
    × MatchOption o (r ≡ true) (λ x. (r ≡ false) × ((h : F) × Called g j (x, tt) false h)) →
    ((x : ℕ) (b : Bool) (q : F) → Called g f (x, tt) b q → (q ≡ f) × (b ≡ test x)) → r ≡ every test n
every_from_all test n {u} {f} {r} ran called =
    all_from_yields_List test u f r ran (YieldsList-from_range 0 n n refl (omega arith)) called ∙ every_listed test n
