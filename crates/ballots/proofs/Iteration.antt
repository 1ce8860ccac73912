-- The ballots of a file, one after the other.
use Rattle.std.proofs.Common.{◌≡◌, ℕ, suc, ◌+◌, ◌-◌, ◌<◌, ◌≤◌, List, [], ◌∷◌, length, None, ap, ◌∙◌, inl, inr, arith}
use Rattle.std.proofs.lemmas.Bool.{cases_lt}
use Rattle.std.proofs.lemmas.List.{length-take, length-drop}
use Rattle.ballots.specs.Format.{candidates_in, ballots_in, whole_length, ballot_bytes}
use Rattle.ballots.specs.Files.{ballots_from}
use Rattle.ballots.specs.Refusals.{refusal}
use Rattle.ballots.proofs.Votes.{accepted}
use Rattle.ballots.proofs.Rows.{row_ends}

-- the next one, and those behind it
ballots_from-next : (bs : List ℕ) (i : ℕ) → i < ballots_in bs →
    ballots_from bs i ≡ ballot_bytes (candidates_in bs) bs i ∷ ballots_from bs (i + 1)
ballots_from-next bs i h = let e : ballots_in bs - i ≡ suc (ballots_in bs - (i + 1)) = omega arith in rw e

-- none is left
ballots_from-end : (bs : List ℕ) (i : ℕ) → ballots_in bs ≤ i → ballots_from bs i ≡ []
ballots_from-end bs i h = let e : ballots_in bs - i ≡ 0 = omega arith in rw e

pub none_left : (bs : List ℕ) (i : ℕ) → ballots_from bs i ≡ [] → ballots_in bs ≤ i
none_left bs i e = elim (cases_lt i (ballots_in bs)) [
  | inl h ↦ let n = ballots_from-next bs i h in absurd (cc)
  | inr h ↦ omega arith
]

-- a ballot has a rank for each candidate
pub ballot_long : (bs : List ℕ) (i : ℕ) → length bs ≡ whole_length bs → i < ballots_in bs →
    length (ballot_bytes (candidates_in bs) bs i) ≡ candidates_in bs
ballot_long bs i w h = simp (length-take, length-drop) (omega (arith, row_ends i (ballots_in bs) (candidates_in bs) h))

-- p comes next, and is all there
pub record Next (bs : List ℕ) (i : ℕ) (p : List ℕ) (rest : List (List ℕ)) : Type 0 where
  pub there : i < ballots_in bs
  pub bytes : p ≡ ballot_bytes (candidates_in bs) bs i
  pub long : length p ≡ candidates_in bs
  pub others : rest ≡ ballots_from bs (i + 1)

pub next_is : (bs : List ℕ) (i : ℕ) (p : List ℕ) (rest : List (List ℕ)) → refusal bs ≡ None →
    ballots_from bs i ≡ p ∷ rest → Next bs i p rest
next_is bs i p rest ok e = elim (cases_lt i (ballots_in bs)) [
  | inl h ↦
      let n = ballots_from-next bs i h in
      let is : p ≡ ballot_bytes (candidates_in bs) bs i = cc in
      record { there = h; bytes = is; long = ap length is ∙ ballot_long bs i (accepted bs ok).2 h; others = cc }
  | inr h ↦ let n = ballots_from-end bs i (omega arith) in absurd (cc)
]
