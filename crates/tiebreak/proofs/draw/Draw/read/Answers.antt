use Rattle.std.proofs.Common.{◌≡◌, ℕ, true, false, leb, List, refl, ap, ◌∙◌, below_more, arith}
use Rattle.std.proofs.Math.Bool.{or-true}
use Rattle.std.proofs.lemmas.Bool.{le-leb, lt-leb}
use Rattle.std.proofs.lemmas.Bool.Decides.{nat_tests}
use Rattle.std.proofs.lemmas.List.{length-replicate, get_or-replicate}
use Rattle.tiebreak.specs.declared.draw.TheConstants.{NUMBERS}
use Rattle.tiebreak.proofs.Drawing.{read, bad, Reads, bad_marked, marks_one, exist, Whole, draw_refused, draw_accepted}
use Rattle.tiebreak.proofs.draw.Draw.read.Goals as goal
use Rattle.tiebreak.proofs.draw.Draw.read.Goals.{then-ballot-file-via-then-ballot-file, then-ballot-file-via-else-ballot-file+then-drawn-from}

pub loop-place-init : goal.loop-place-init
loop-place-init c = record {
  good = λ i l. absurd (omega arith);
  marked = record {
    long = rw c.no_marks-drawn.ensures (length-replicate NUMBERS false);
    marks = λ k l. rw c.no_marks-drawn.ensures (get_or-replicate NUMBERS k false false l);
  };
}

pub returns-then-ballot-file : goal.returns-then-ballot-file
returns-then-ballot-file c =
    let numbers : List (List ℕ) = c.as_chunks.result.0.now in
    let n : ℕ = c.args.file.ballots in
    let k : ℕ = c.from_le_bytes-ballot.result in
    let whole : Whole numbers n c.args.bytes.now = record {
      even = grind (arith, nat_tests, c.as_chunks.ensures.back_len, c.if-not-is_empty.ensures);
      are = c.as_chunks.ensures.front;
    } in
    let r : Reads numbers n c.loop-place.place k c.loop-place.drawn = record {
      there = c.loop-place-test.true;
      is = c.from_le_bytes-ballot.ensures;
      small = omega arith;
      marked = c.loop-place.invariant.marked;
    } in
    let here : bad numbers n c.loop-place.place ≡ true = elim c.then-ballot-file.branch [
      | then-ballot-file-via-then-ballot-file w ↦ bad_marked numbers n r k refl ∙ rw (le-leb n k w.if-ballot-file.true)
      | then-ballot-file-via-else-ballot-file+then-drawn-from w ↦
          bad_marked numbers n r w.from.result w.from.ensures ∙ rw w.if-drawn-from.true (or-true (leb n k))
    ] in
    draw_refused numbers n whole c.loop-place.place c.loop-place-test.true c.loop-place.invariant.good here

pub loop-place-preserved : goal.loop-place-preserved
loop-place-preserved c =
    let numbers : List (List ℕ) = c.as_chunks.result.0.now in
    let n : ℕ = c.args.file.ballots in
    let k : ℕ = c.from_le_bytes-ballot.result in
    let r : Reads numbers n c.loop-place.place k c.loop-place.drawn = record {
      there = c.loop-place-test.true;
      is = c.from_le_bytes-ballot.ensures;
      small = omega arith;
      marked = c.loop-place.invariant.marked;
    } in
    let here = bad_marked numbers n r c.from.result c.from.ensures in
    record {
      good = below_more _ _ c.loop-place.invariant.good (here ∙ rw (lt-leb n k c.if-ballot-file.false, c.if-drawn-from.false));
      marked = marks_one numbers n r c.from-in-loop-place.result c.from-in-loop-place.ensures;
    }

pub invariant_of-result : goal.invariant_of-result
invariant_of-result c = record {
  exist = exist c.as_chunks.result.0.now c.args.file.ballots (λ i l. c.loop-place.invariant.good i (omega arith));
}

pub returns : goal.returns
returns c =
    let numbers : List (List ℕ) = c.as_chunks.result.0.now in
    let whole : Whole numbers c.args.file.ballots c.args.bytes.now = record {
      even = grind (arith, nat_tests, c.as_chunks.ensures.back_len, c.if-not-is_empty.ensures);
      are = c.as_chunks.ensures.front;
    } in
    let accepted = draw_accepted numbers c.args.file.ballots whole (λ i l. c.loop-place.invariant.good i (omega arith)) in
    (accepted, refl, ap read c.as_chunks.ensures.front)
