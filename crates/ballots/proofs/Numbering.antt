-- The candidates that stay, and their numbers among themselves.
use Rattle.std.proofs.Common.{◌≡◌, ℕ, zero, suc, ◌+◌, ◌<◌, ◌≤◌, Bool, true, false, cond, not, ◌&&◌, eqb, [], ◌∷◌, ◌++◌, length, get_or, refl, ap, ◌∙◌, sym, inl, inr, arith}
use Rattle.std.specs.List.{range_with_len, All}
use Rattle.std.proofs.lemmas.List.Elements.{filter-append, All-from_get_or}
use Rattle.std.proofs.lemmas.List.{append-nil, length_push, get_or_append_left, get_or_push}
use Rattle.std.proofs.lemmas.Bool.{cases_Bool, cases_eq, cases_lt}
use Rattle.std.proofs.lemmas.Bool.Decides.{nat_tests}
use Rattle.ballots.specs.Strikes.{new_number}
use Rattle.ballots.specs.Sets.{members}
use Rattle.ballots.proofs.Rows.{counting_more}

module _ (keep : ℕ → Bool) where
  pub members-zero : members keep 0 ≡ []
  unfolding members
  members-zero = refl

  -- one candidate more, who stays or does not
  members-suc : (n : ℕ) → members keep (n + 1) ≡ members keep n ++ cond (keep n) (n ∷ []) []
  unfolding members
  members-suc n = rw counting_more (filter-append keep (range_with_len 0 n) (n ∷ []))

  pub members-in : (n : ℕ) → keep n ≡ true → members keep (n + 1) ≡ members keep n ++ n ∷ []
  members-in n e = rw (members-suc n, e)

  pub members-out : (n : ℕ) → keep n ≡ false → members keep (n + 1) ≡ members keep n
  members-out n e = rw (members-suc n, e, append-nil)

  pub new_number-in : (n : ℕ) → keep n ≡ true → new_number keep (n + 1) ≡ new_number keep n + 1
  new_number-in n e = rw (members-in n e, length_push)

  pub new_number-out : (n : ℕ) → keep n ≡ false → new_number keep (n + 1) ≡ new_number keep n
  new_number-out n e = rw (members-out n e)

  next : (n : ℕ) → suc n ≡ n + 1
  next n = omega arith

  -- no number is above the old one, and none falls
  pub new_number_le : (n : ℕ) → new_number keep n ≤ n
  new_number_le zero = rw members-zero (omega arith)
  new_number_le (suc n) = rw (next n) (elim (cases_Bool (keep n)) [
    | inl e ↦ omega (arith, new_number-in n e, new_number_le n)
    | inr e ↦ omega (arith, new_number-out n e, new_number_le n)
  ])

  new_number_grows : (n : ℕ) → new_number keep n ≤ new_number keep (n + 1)
  new_number_grows n = elim (cases_Bool (keep n)) [ inl e ↦ omega (arith, new_number-in n e) | inr e ↦ omega (arith, new_number-out n e) ]

  -- a candidate that stays has a number below as many as stay
  pub new_number_lt : (x n : ℕ) → x < n → keep x ≡ true → new_number keep x < length (members keep n)
  new_number_lt x zero h e = omega arith
  new_number_lt x (suc n) h e = rw (next n) (elim (cases_eq x n) [
    | inl i ↦ rw i (omega (arith, new_number-in n (rw i at e)))
    | inr i ↦ omega (arith, new_number_lt x n (omega arith) e, new_number_grows n)
  ])

  -- and is member_at there
  pub member_at_number : (x n : ℕ) → x < n → keep x ≡ true → get_or (members keep n) (new_number keep x) 0 ≡ x
  member_at_number x zero h e = omega arith
  member_at_number x (suc n) h e = rw (next n) (elim (cases_eq x n) [
    | inl i ↦ rw (i, members-in n (rw i at e)) (get_or_push (members keep n) n 0 (new_number keep n) refl)
    | inr i ↦
        let l : x < n = omega arith in
        elim (cases_Bool (keep n)) [
          | inl k ↦
              let front = get_or_append_left (members keep n) (n ∷ []) 0 _ (new_number_lt x n l e) in
              rw (members-in n k) (front ∙ member_at_number x n l e)
          | inr k ↦ rw (members-out n k) (member_at_number x n l e)
        ]
  ])

  -- who is member_at at a number is below n, stays, and has that number
  pub member_at : (n i : ℕ) → i < length (members keep n) →
      (get_or (members keep n) i 0 < n) × (keep (get_or (members keep n) i 0) ≡ true) × (new_number keep (get_or (members keep n) i 0) ≡ i)
  member_at zero i h = absurd (omega (arith, ap length members-zero))
  member_at (suc n) i h = let h : i < length (members keep (n + 1)) = rw (next n) at h in rw (next n) (elim (cases_Bool (keep n)) [
    | inl k ↦ elim (cases_lt i (length (members keep n))) [
      | inl l ↦
          let (a, b, c) = member_at n i l in
          rw (members-in n k, get_or_append_left (members keep n) (n ∷ []) 0 i l) (omega arith, b, c)
      | inr l ↦
          let j : length (members keep n) ≡ i = omega (arith, new_number-in n k) in
          rw (members-in n k, get_or_push (members keep n) n 0 i j) (omega arith, k, j)
    ]
    | inr k ↦
        let (a, b, c) = member_at n i (rw (members-out n k) at h) in
        rw (members-out n k) (omega arith, b, c)
  ])

  -- all of them are candidates
  pub members_below : (n : ℕ) → All (λ x. x < n) (members keep n)
  members_below n = All-from_get_or (λ x. x < n) (members keep n) 0 (λ i l. (member_at n i l).0)

-- where nobody stays there is no member
pub members-nobody : (f : ℕ → Bool) (n : ℕ) → ((z : ℕ) → z < n → f z ≡ false) → members f n ≡ []
members-nobody f zero h = members-zero f
members-nobody f (suc n) h =
    let e : suc n ≡ n + 1 = omega arith in
    rw (e, members-out f n (h n (omega arith))) (members-nobody f n (λ z l. h z (omega arith)))

-- the smallest member, and those behind it
pub members-first : (f g : ℕ → Bool) (n a : ℕ) → a < n → f a ≡ true → ((z : ℕ) → z < a → f z ≡ false) →
    ((z : ℕ) → g z ≡ (f z && not (eqb z a))) →
    members f n ≡ a ∷ members g n
members-first f g zero a l fa low is = absurd (let z : ⊥ = omega arith in z)
members-first f g (suc n) a l fa low is =
    let e : suc n ≡ n + 1 = omega arith in
    rw e (elim (cases_eq n a) [
      | inl i ↦
          let fn : f n ≡ true = rw (sym i) at fa in
          let gn : g n ≡ false = is n ∙ (let t : eqb n a ≡ true = grind (arith, nat_tests) in rw (t, fn)) in
          let nobody : (z : ℕ) → z < n → f z ≡ false = λ z zn. low z (omega arith) in
          let nor_g = members-nobody g n (λ z zn. is z ∙ (let k = nobody z zn in rw k)) in
          rw (members-in f n fn, members-out g n gn, members-nobody f n nobody, nor_g, i)
      | inr i ↦
          let t : eqb n a ≡ false = grind (arith, nat_tests) in
          let rest = members-first f g n a (omega arith) fa low is in
          elim (cases_Bool (f n)) [
            | inl fn ↦ let gn : g n ≡ true = is n ∙ rw (t, fn) in rw (members-in f n fn, members-in g n gn, rest)
            | inr fn ↦ let gn : g n ≡ false = is n ∙ rw fn in rw (members-out f n fn, members-out g n gn, rest)
          ]
    ])
