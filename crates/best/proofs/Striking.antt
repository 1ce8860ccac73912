-- The answers to a file and to a struck file.
use Rattle.std.proofs.Common.{◌≡◌, ℕ, ◌<◌, Bool, true, ◌&&◌, ◌↔◌, List, length, get_or, None, Ok, Err, Result, refl, ap, inl, inr}
use mathlib.Core.Logic.Iff
use Rattle.std.proofs.lemmas.Bool.{cases_Bool, and_parts, and_from}
use Rattle.std.proofs.lemmas.Bool.Decides.{same_from_decides}
use Rattle.ballots.specs.declared.refusal.Refusal.{Refusal}
use Rattle.ballots.specs.Format.{candidates_in, ballots_of}
use Rattle.ballots.specs.Ballots.{unranked}
use Rattle.ballots.specs.Refusals.{refusal}
use Rattle.ballots.specs.Sets.{holds}
use Rattle.ballots.specs.Sets.{members}
use Rattle.ballots.specs.Strikes.{new_number, struck_file}
use Rattle.ballots.proofs.Sets.{same_set}
use Rattle.ballots.proofs.Numbering.{new_number_lt, member_at_number, member_at}
use Rattle.ballots.proofs.StruckFiles.{strike_keeps_ranks}
use Rattle.pairwise.specs.Counts.{win}
use Rattle.pairwise.proofs.StruckCounts.{struck_counts}
use Rattle.paths.specs.Paths.{below}
use Rattle.paths.proofs.Walks.{in_below, below_in}
use Rattle.best.specs.Answers.{BestOf, AnswerOf, OneAnswer, StrikesClones, SameButClones, StrikesAllButOne, SameByOne, AnswersIndependent, BothAgree}
use Rattle.best.specs.Best.{Best}
use Rattle.best.specs.Laws.{Exchanges, SameBest}
use Rattle.best.proofs.Clones.{only_is, only_outside, only_self}
use Rattle.best.proofs.Elections.{clone_exchange_by_ballots}
use Rattle.best.proofs.Renumbered.{Renumbers, best_renumbered}
use Rattle.best.proofs.Votes.{win_same}

pub one_answer : OneAnswer
one_answer bs (Ok s) (Ok t) b c =
    ap Ok (same_set (candidates_in bs) s t b.best.within c.best.within
    (λ x h. same_from_decides (holds s x) (holds t x) (b.best.each x h) (c.best.each x h)))
one_answer bs (Ok s) (Err f) b c = let none = b.accepted in cc
one_answer bs (Err e) (Ok t) b c = let none = c.accepted in cc
one_answer bs (Err e) (Err f) b c = cc

-- the candidates of a file that stay
abbrev staying : (ℕ → Bool) → List ℕ → ℕ → Bool
staying keep bs x = below (candidates_in bs) x && keep x

staying_parts : (keep : ℕ → Bool) (bs : List ℕ) (x : ℕ) → staying keep bs x ≡ true →
    (x < candidates_in bs) × (keep x ≡ true)
staying_parts keep bs x h =
    let (b, k) = and_parts (below (candidates_in bs) x) (keep x) h in (below_in (candidates_in bs) x b, k)

staying_from : (keep : ℕ → Bool) (bs : List ℕ) (x : ℕ) → x < candidates_in bs → keep x ≡ true → staying keep bs x ≡ true
staying_from keep bs x h k = and_from (below (candidates_in bs) x) (keep x) (in_below (candidates_in bs) x h) k

module _
    (keep : ℕ → Bool) (bs : List ℕ) (none : refusal bs ≡ None) (a : ℕ) (av : a < candidates_in bs)
    (ka : keep a ≡ true) where
  number_below : (x : ℕ) → x < candidates_in bs → keep x ≡ true → new_number keep x < candidates_in (struck_file keep bs)
  number_below x xv kx = rw (strike_keeps_ranks keep bs a none av ka).candidates (new_number_lt keep x (candidates_in bs) xv kx)

  -- the struck file numbers those that stay anew
  renumbers :
      Renumbers (win unranked (ballots_of bs)) (win unranked (ballots_of (struck_file keep bs))) (staying keep bs)
      (below (candidates_in (struck_file keep bs))) (new_number keep) (λ i. get_or (members keep (candidates_in bs)) i 0)
  renumbers =
      let v : ℕ = candidates_in bs in
      let number : (i : ℕ) → below (candidates_in (struck_file keep bs)) i ≡ true → i < length (members keep (candidates_in bs)) =
      λ i h. rw (strike_keeps_ranks keep bs a none av ka).candidates at (below_in (candidates_in (struck_file keep bs)) i h) in
      record {
        into = λ x h. let (xv, kx) = staying_parts keep bs x h in
            in_below (candidates_in (struck_file keep bs)) (new_number keep x) (number_below x xv kx);
        out = λ i h. let (xv, kx, e) = member_at keep v i (number i h) in staying_from keep bs _ xv kx;
        back = λ x h. let (xv, kx) = staying_parts keep bs x h in member_at_number keep x v xv kx;
        forth = λ i h. let (xv, kx, e) = member_at keep v i (number i h) in e;
        wins = λ x y hx hy. let (xv, kx) = staying_parts keep bs x hx in let (yv, ky) = staying_parts keep bs y hy in
            win_same unranked (new_number keep x) (new_number keep y) x y (ballots_of (struck_file keep bs)) (ballots_of bs)
            (struck_counts keep bs x y none xv yv kx ky) (struck_counts keep bs y x none yv xv ky kx);
      }

  -- so its set of the best holds the best of those that stay
  kept_each : (t : ℕ) → BestOf (struck_file keep bs) t → (x : ℕ) → x < candidates_in bs → keep x ≡ true →
      (holds t (new_number keep x) ≡ true) ↔ Best (win unranked (ballots_of bs)) (staying keep bs) x
  kept_each t c x xv kx = Iff.trans (c.best.each (new_number keep x) (number_below x xv kx))
      (Iff.symm (best_renumbered _ _ _ _ _ _ renumbers x (staying_from keep bs x xv kx)))

-- only clones are struck, so those that stay are the candidates with some of the clone set in place of all of it
exchanges : (bs : List ℕ) (k keep : ℕ → Bool) → StrikesClones bs k keep →
    Exchanges k (below (candidates_in bs)) (staying keep bs)
exchanges bs k keep h =
    let (a, av, ka, keep_a) = h.some in
    record {
      others = λ z kz. elim (cases_Bool (below (candidates_in bs) z)) [
        | inl e ↦ rw (e, h.others z (below_in (candidates_in bs) z e) kz)
        | inr e ↦ rw e
      ];
      some_here = (a, ka, in_below (candidates_in bs) a av);
      some_there = (a, ka, staying_from keep bs a av keep_a);
    }

same_but_clones : (bs : List ℕ) (k keep : ℕ → Bool) (s t : ℕ) → BestOf bs s → BestOf (struck_file keep bs) t →
    StrikesClones bs k keep → SameButClones (candidates_in bs) k keep s t
same_but_clones bs k keep s t b c h =
    let v : ℕ = candidates_in bs in
    let (a, av, ka, keep_a) = h.some in
    let each = kept_each keep bs b.accepted a av keep_a t c in
    let same : SameBest (win unranked (ballots_of bs)) k (below (candidates_in bs)) (staying keep bs) =
    clone_exchange_by_ballots unranked v (ballots_of bs) k (below v) (staying keep bs)
    (below_in v) (λ z e. (staying_parts keep bs z e).0) (exchanges bs k keep h) h.clones in
    record {
      others = λ x xv kx.
          same_from_decides (holds t (new_number keep x)) (holds s x)
          (Iff.trans (each x xv (h.others x xv kx)) (Iff.symm (same.others x kx))) (b.best.each x xv);
      members = (
        (λ (x, xv, kx, e).
            let (z, kz, best) = same.members.0 (x, kx, (b.best.each x xv).0 e) in
            let (zv, keep_z) = staying_parts keep bs z best.0 in
            (z, zv, kz, keep_z, (each z zv keep_z).1 best)),
        λ (z, zv, kz, keep_z, e).
            let (x, kx, best) = same.members.1 (z, kz, (each z zv keep_z).0 e) in
            let xv = below_in v x best.0 in
            (x, xv, kx, (b.best.each x xv).1 best),
      );
    }

-- where all of the clone set but one are struck, some are, and it is the one that stays
module _ (bs : List ℕ) (k keep : ℕ → Bool) (a : ℕ) (h : StrikesAllButOne bs k keep a) where
  one_stays : keep a ≡ true
  one_stays =
      rw (h.stay a h.inside) (only_self k a (below (candidates_in bs)) h.member (in_below (candidates_in bs) a h.inside))

  all_but_one : StrikesClones bs k keep
  all_but_one =
      let v : ℕ = candidates_in bs in
      record {
        clones = h.clones;
        others = λ x xv kx. rw (h.stay x xv, only_outside k a (below v) x kx) (in_below v x xv);
        some = (a, h.inside, h.member, one_stays);
      }

  same_by_one : (s t : ℕ) → SameButClones (candidates_in bs) k keep s t → SameByOne (candidates_in bs) k keep a s t
  same_by_one s t same =
      let v : ℕ = candidates_in bs in
      record {
        others = same.others;
        members = (
          (λ m.
              let (z, zv, kz, keep_z, e) = same.members.0 m in
              let is : z ≡ a = only_is k a (below v) z (rw (h.stay z zv) at keep_z) kz in
              rw is at e),
          λ e. same.members.1 (a, h.inside, h.member, one_stays, e),
        );
      }

pub both_agree : BothAgree
both_agree bs keep s t b c = record {
  all = b;
  kept = c;
  clones = λ k h. same_but_clones bs k keep s t b c h;
  one = λ k a h. same_by_one bs k keep a h s t (same_but_clones bs k keep s t b c (all_but_one bs k keep a h));
}

-- the struck file is accepted, so it has a set
answer_set : (bs : List ℕ) (k keep : ℕ → Bool) → refusal bs ≡ None → StrikesClones bs k keep →
    (q : Result ℕ Refusal) → AnswerOf (struck_file keep bs) q →
    (t : ℕ) × (q ≡ Ok t) × BestOf (struck_file keep bs) t
answer_set bs k keep none h (Ok t) c = (t, refl, c)
answer_set bs k keep none h (Err e) c =
    let (a, av, _, keep_a) = h.some in
    let accepted = (strike_keeps_ranks keep bs a none av keep_a).accepted in
    absurd (cc)

pub answers_independent : AnswersIndependent
answers_independent bs (Ok s) b = (
  (λ k keep h q c.
      let (t, is, d) = answer_set bs k keep b.accepted h q c in
      (t, is, (both_agree bs keep s t b d).clones k h)),
  λ k keep a h q c.
      let (t, is, d) = answer_set bs k keep b.accepted (all_but_one bs k keep a h) q c in
      (t, is, (both_agree bs keep s t b d).one k a h),
)
answers_independent bs (Err e) b = (tt, tt)
