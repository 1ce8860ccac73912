-- The struck file, written row by row to the front of what is lent.
use Rattle.std.proofs.Common.{◌≡◌, ℕ, ◌+◌, ◌*◌, ◌<◌, ◌≤◌, Bool, cond, eqb, ◌≢◌, List, ◌++◌, length, take, drop, Some, None, Ok, Err, sym, refl, ◌∙◌, add-mul, arith}
use borrow.Rule.Slice.PartMut.{put_mid}
use Rattle.std.proofs.lemmas.List.{take_at}
use Rattle.std.proofs.lemmas.Slice.{drop-append-drop}
use Rattle.std.proofs.lemmas.Bool.{ne_eqb, lt-ltb, le-ltb}
use Rattle.std.proofs.lemmas.Bool.Decides.{nat_tests}
use Rattle.ballots.specs.declared.refusal.Lent.TheVariants as lent
use Rattle.ballots.specs.declared.refusal.Refusal.TheVariants.{Candidates, Short}
use Rattle.ballots.specs.Format.{header_length, candidates_in, ballots_in, ballot_bytes}
use Rattle.ballots.specs.Refusals.{refusal}
use Rattle.ballots.specs.Strikes.{new_number, ranks_at, struck_file, nobody_stays, strike_refusal, Strikes}
use Rattle.ballots.specs.Sets.{members}
use Rattle.ballots.proofs.Numbering.{member_at}
use Rattle.ballots.proofs.Loans.{result_of-ok, neither}
use Rattle.ballots.proofs.Rows.{rows_more, row_behind, length_rows}
use Rattle.ballots.proofs.StruckFiles.{struck_row, length_struck_row, first_struck, struck_is, length_struck, strike_keeps_ranks}

-- one ballot more
pub ballot_more :
    (keep : ℕ → Bool) (bs : List ℕ) (stay i start k : ℕ) (p row old out : List ℕ) → start ≡ header_length + i * stay → k ≡ stay →
    stay ≡ length (members keep (candidates_in bs)) → p ≡ ballot_bytes (candidates_in bs) bs i → length p ≡ candidates_in bs →
    row ≡ ranks_at (members keep (length p)) p → out ≡ first_struck keep bs i ++ drop (header_length + i * stay) old →
    put_mid start k out row ≡ first_struck keep bs (i + 1) ++ drop (header_length + (i + 1) * stay) old
ballot_more keep bs stay i start k p row old out from ek es ep long er e =
    let m : header_length + (i + 1) * stay ≡ header_length + i * stay + stay = omega (arith, add-mul i 1 stay) in
    let is_row : row ≡ struck_row keep bs i = er ∙ rw (long, ep) in
    let l : length (first_struck keep bs i) ≡ header_length + i * stay =
    rw es (omega (arith, length_rows (struck_row keep bs) (length (members keep (candidates_in bs))) (length_struck_row keep bs) i)) in
    rw (from, e, ek, is_row, m, rows_more (struck_row keep bs) i)
    (row_behind (first_struck keep bs i) (struck_row keep bs i) old (header_length + i * stay) stay l)

-- all ballots are written, or there is no room for them
module _ (keep : ℕ → Bool) (bs old : List ℕ) (some : new_number keep (candidates_in bs) ≢ 0) where
  pub strikes_all :
      (new front : List ℕ) (n stay : ℕ) → n ≡ ballots_in bs → stay ≡ new_number keep (candidates_in bs) →
      header_length + n * stay ≤ length old → length front ≡ header_length →
      new ≡ first_struck keep bs n ++ drop (header_length + n * stay) (front ++ drop header_length old) →
      Strikes bs keep old new (Ok (header_length + n * stay))
  strikes_all new front n stay en es room long e =
      let l : length (struck_file keep bs) ≡ header_length + n * stay = length_struck keep bs ∙ rw (en, es) in
      let through : strike_refusal bs keep old ≡ None =
      rw (ne_eqb (new_number keep (candidates_in bs)) 0 some, le-ltb (length old) (length (struck_file keep bs)) (omega arith)) in
      let behind = drop-append-drop header_length old front (header_length + n * stay) (omega arith) long in
      record {
        answer = rw (through, l);
        after = rw (through, l) (e ∙ rw (behind, struck_is keep bs, en));
      }

  pub strikes_short : (n stay : ℕ) → n ≡ ballots_in bs → stay ≡ new_number keep (candidates_in bs) →
      length old < header_length + n * stay → Strikes bs keep old old (Err (Short lent.Ballots))
  strikes_short n stay en es less =
      let l : length (struck_file keep bs) ≡ header_length + n * stay = length_struck keep bs ∙ rw (en, es) in
      let short : strike_refusal bs keep old ≡ Some (Short lent.Ballots) =
      rw (ne_eqb (new_number keep (candidates_in bs)) 0 some, lt-ltb (length old) (length (struck_file keep bs)) (omega arith)) in
      record { answer = rw short; after = rw short }

-- what was written is read back: the struck file, which is accepted
pub record StruckFront (keep : ℕ → Bool) (bs old : List ℕ) (n : ℕ) (new : List ℕ) : Type 0 where
  pub not_refused : strike_refusal bs keep old ≡ None
  pub front : take n new ≡ struck_file keep bs
  pub accepted : refusal (struck_file keep bs) ≡ None

some_stay : (stay : ℕ) → cond (eqb stay 0) (Some Candidates) None ≡ None → 0 < stay
some_stay stay h = grind (arith, nat_tests)

pub struck_front : (keep : ℕ → Bool) (bs old new : List ℕ) (n : ℕ) → refusal bs ≡ None → Strikes bs keep old new (Ok n) →
    StruckFront keep bs old n new
struck_front keep bs old new n none s =
    let (through, m) = result_of-ok (strike_refusal bs keep old) (length (struck_file keep bs)) n (sym s.answer) in
    let (nobody, _) = neither (nobody_stays bs keep) _ through in
    let stay = some_stay (new_number keep (candidates_in bs)) nobody in
    let (xv, kx, _) = member_at keep (candidates_in bs) 0 stay in
    let after : new ≡ struck_file keep bs ++ drop (length (struck_file keep bs)) old = rw through at s.after in
    record {
      not_refused = through;
      front = rw (← m, after) (take_at (struck_file keep bs) (drop (length (struck_file keep bs)) old) _ refl);
      accepted = (strike_keeps_ranks keep bs _ none xv kx).accepted;
    }
