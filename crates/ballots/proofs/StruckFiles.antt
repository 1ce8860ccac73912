-- The struck file: its header, its ballots, and the ranks on them.
use Rattle.std.proofs.Common.{◌≡◌, ℕ, ◌+◌, ◌*◌, ◌<◌, Bool, List, [], ◌∷◌, length, get_or, sym, refl, ap, ◌∙◌, arith}
use Rattle.std.specs.List.{range_with_len, flat_map}
use Rattle.std.proofs.lemmas.List.FromFn.{length-map-range_with_len, get_or-map-range_with_len}
use Rattle.std.proofs.lemmas.List.{length-map, get_or-map, drop-drop}
use Rattle.ballots.specs.Format.{header_length, candidates_in, ballots_in, ballot_bytes, ballots_of}
use Rattle.ballots.specs.Ballots.{ranks_of, rank_of, unranked}
use Rattle.ballots.specs.Laws.{StrikeKeepsRanks}
use Rattle.ballots.specs.Strikes.{ranks_at, struck_file}
use Rattle.ballots.specs.Sets.{members}
use Rattle.ballots.proofs.Votes.{accept, accepted}
use Rattle.ballots.proofs.Numbering.{new_number_le, new_number_lt, member_at_number}
use Rattle.ballots.proofs.Rows.{length_rows, row_at}
use Rattle.ballots.proofs.Iteration.{ballot_long}

-- the ballots of a file
pub length_ballots : (bs : List ℕ) → length (ballots_of bs) ≡ ballots_in bs
length_ballots bs = length-map-range_with_len (λ j. ranks_of (ballot_bytes (candidates_in bs) bs j)) 0 (ballots_in bs)

ballot_at : (bs : List ℕ) (i : ℕ) → i < ballots_in bs → get_or (ballots_of bs) i [] ≡ ranks_of (ballot_bytes (candidates_in bs) bs i)
ballot_at bs i h = get_or-map-range_with_len (λ j. ranks_of (ballot_bytes (candidates_in bs) bs j)) 0 (ballots_in bs) i i [] h (omega arith)

-- the rank at place i of the ranks of some candidates
rank_at :
    (p cs : List ℕ) (i : ℕ) → i < length cs → get_or cs i 0 < length p →
    get_or (ranks_of (ranks_at cs p)) i unranked ≡ get_or (ranks_of p) (get_or cs i 0) unranked
rank_at p cs i h l =
    get_or-map rank_of (ranks_at cs p) i 0 unranked (rw (length-map cs (λ x. get_or p x 0)) h)
    ∙ (ap rank_of (get_or-map (λ x. get_or p x 0) cs i 0 0 h) ∙ sym (get_or-map rank_of p (get_or cs i 0) 0 unranked l))

module _ (keep : ℕ → Bool) (bs : List ℕ) where
  -- the row of ballot i
  abbrev pub struck_row : ℕ → List ℕ
  struck_row i = ranks_at (members keep (candidates_in bs)) (ballot_bytes (candidates_in bs) bs i)

  pub length_struck_row : (i : ℕ) → length (struck_row i) ≡ length (members keep (candidates_in bs))
  length_struck_row i = length-map (members keep (candidates_in bs)) (λ x. get_or (ballot_bytes (candidates_in bs) bs i) x 0)

  -- the struck file with its first n ballots alone
  abbrev pub first_struck : ℕ → List ℕ
  first_struck n =
      length (members keep (candidates_in bs)) ∷ get_or bs 1 0 ∷ get_or bs 2 0 ∷ flat_map struck_row (range_with_len 0 n)

  pub struck_is : struck_file keep bs ≡ first_struck (ballots_in bs)
  unfolding struck_file
  struck_is = refl

  struck_candidates : candidates_in (struck_file keep bs) ≡ length (members keep (candidates_in bs))
  unfolding struck_file
  struck_candidates = refl

  struck_ballots : ballots_in (struck_file keep bs) ≡ ballots_in bs
  unfolding struck_file
  struck_ballots = refl

  pub length_struck : length (struck_file keep bs) ≡ header_length + ballots_in bs * length (members keep (candidates_in bs))
  unfolding struck_file
  length_struck = omega (arith, length_rows struck_row (length (members keep (candidates_in bs))) length_struck_row (ballots_in bs))

  struck_ballot : (i : ℕ) → i < ballots_in bs → ballot_bytes (candidates_in (struck_file keep bs)) (struck_file keep bs) i ≡ struck_row i
  unfolding struck_file
  struck_ballot i h =
      rw (← drop-drop (i * length (members keep (candidates_in bs))) header_length (struck_file keep bs))
      (row_at struck_row (length (members keep (candidates_in bs))) length_struck_row (ballots_in bs) i h)

pub strike_keeps_ranks : StrikeKeepsRanks
strike_keeps_ranks keep bs a none av ka =
    let (some, few, whole) = accepted bs none in
    let v : ℕ = candidates_in bs in
    let cs = struck_candidates keep bs in
    let n = struck_ballots keep bs in
    record {
      accepted = accept (struck_file keep bs)
          (rw cs (omega (arith, new_number_lt keep a v av ka))) (rw cs (omega (arith, new_number_le keep v)))
          (length_struck keep bs ∙ rw (cs, n));
      candidates = cs;
      ballots = n;
      ranks = λ i x h xv kx.
          let e = member_at_number keep x v xv kx in
          let at = rank_at (ballot_bytes v bs i) (members keep v) (length (members keep x)) (new_number_lt keep x v xv kx)
          (rw (e, ballot_long bs i whole h) xv) in
          rw (ballot_at (struck_file keep bs) i (rw n h), struck_ballot keep bs i h, ballot_at bs i h) (rw e at at);
    }
