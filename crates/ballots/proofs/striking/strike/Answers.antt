use Rattle.std.proofs.Common.{◌≡◌, ℕ, Bool, List, length, ap, ◌∙◌, sym, arith}
use Rattle.std.proofs.lemmas.List.{length-take, length-drop}
use Rattle.ballots.specs.declared.file.BallotFile.{BallotFile}
use Rattle.ballots.specs.Format.{candidates_in}
use Rattle.ballots.specs.Files.{ballots_left}
use Rattle.ballots.specs.Sets.{holds, members}
use Rattle.ballots.specs.Strikes.{ranks_at, new_number}
use Rattle.ballots.proofs.Numbering.{members_below}
use Rattle.ballots.proofs.Rows.{row_ends}
use Rattle.ballots.proofs.Iteration.{next_is, none_left}
use Rattle.ballots.proofs.StruckWriting.{ballot_more, strikes_all, strikes_short}
use Rattle.ballots.proofs.striking.strike.Goals as goal

pub returns-then-out-whole : goal.returns-then-out-whole
returns-then-out-whole c =
    let file = c.args.file in
    let keep = holds c.args.keep in
    let stay = c.len-stay.ensures.value ∙ ap length c.staying-staying.ensures ∙ ap (new_number keep) file.said_candidates in
    strikes_short keep file.bytes.now c.args.out.now (λ z. c.if-stay-eq0.false (stay ∙ z))
    c.from.result c.len-stay.result (c.from.ensures ∙ file.said_ballots) stay (omega arith)

pub slice_bounds-strike_ballot-end : goal.slice_bounds-strike_ballot-end
slice_bounds-strike_ballot-end c =
    let file = c.args.file in
    let left = sym c.loop-i.invariant.left ∙ c.in-Some.ensures.steps in
    let n = next_is file.bytes.now c.loop-i.i c.in-Some.ballot.ranks.now (ballots_left c.next.new.self) file.accepted left in
    omega (arith, row_ends c.loop-i.i c.from.result c.len-stay.result (omega (arith, n.there, file.said_ballots)))

-- the candidates that stay, by the length of a ballot
stay_of : (f : BallotFile) (keep : ℕ → Bool) (p stay : List ℕ) → stay ≡ members keep f.candidates →
    length p ≡ candidates_in f.bytes.now → stay ≡ members keep (length p)
stay_of f keep p stay e long = e ∙ ap (members keep) (f.said_candidates ∙ sym long)

pub strike_ballot-requires : goal.strike_ballot-requires
strike_ballot-requires c =
    let ranks = c.in-Some.ballot.ranks.now in
    let keep = holds c.args.keep in
    let file = c.args.file in
    let left = sym c.loop-i.invariant.left ∙ c.in-Some.ensures.steps in
    let n = next_is file.bytes.now c.loop-i.i ranks (ballots_left c.next.new.self) file.accepted left in
    let who = stay_of file keep ranks c.deref.result.now (c.deref.ensures.0 ∙ c.staying-staying.ensures) n.long in
    let stay = c.len-stay.ensures.value ∙ ap length (sym c.deref.ensures.0) in
    let ends = row_ends c.loop-i.i c.from.result c.len-stay.result (omega (arith, n.there, file.said_ballots)) in
    record {
      inside = rw who (members_below keep (length ranks));
      room = simp (length-take, length-drop) (omega (arith, stay, ends));
    }

pub loop-i-preserved : goal.loop-i-preserved
loop-i-preserved c =
    let file = c.args.file in
    let keep = holds c.args.keep in
    let ranks = c.in-Some.ballot.ranks.now in
    let left = sym c.loop-i.invariant.left ∙ c.in-Some.ensures.steps in
    let n = next_is file.bytes.now c.loop-i.i ranks (ballots_left c.next.new.self) file.accepted left in
    let stay = c.len-stay.ensures.value ∙ ap length c.staying-staying.ensures ∙ ap (new_number keep) file.said_candidates in
    let who = stay_of file keep ranks c.deref.result.now (c.deref.ensures.0 ∙ c.staying-staying.ensures) n.long in
    record {
      counted = omega (arith, n.there);
      left = n.others;
      written = ballot_more keep file.bytes.now c.len-stay.result c.loop-i.i _ _ ranks c.strike_ballot.new.out _ c.loop-i.out
          (omega arith) (omega arith) stay n.bytes n.long
          (c.strike_ballot.ensures ∙ ap (λ cs. ranks_at cs ranks) who) c.loop-i.invariant.written;
    }

pub returns : goal.returns
returns c =
    let file = c.args.file in
    let keep = holds c.args.keep in
    let stay = c.len-stay.ensures.value ∙ ap length c.staying-staying.ensures ∙ ap (new_number keep) file.said_candidates in
    let none = none_left file.bytes.now c.loop-i.i (sym c.loop-i.invariant.left ∙ c.in-None.ensures.steps.0) in
    let all : c.loop-i.i ≡ c.from.result = omega (arith, c.loop-i.invariant.counted, file.said_ballots) in
    strikes_all keep file.bytes.now c.args.out.now (λ z. c.if-stay-eq0.false (stay ∙ z))
    c.loop-i.out c.copy_from_slice.new.self c.from.result c.len-stay.result (c.from.ensures ∙ file.said_ballots) stay
    (omega arith) (ap length c.copy_from_slice.ensures.after) (rw all at c.loop-i.invariant.written)
