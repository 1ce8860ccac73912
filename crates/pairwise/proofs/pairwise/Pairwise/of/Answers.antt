use Rattle.std.proofs.Common.{◌≡◌, length, sym, ap, ◌∙◌, arith}
use Rattle.std.proofs.lemmas.List.{length_push}
use Rattle.ballots.specs.Format.{candidates_in, ballots_in, ballots_of}
use Rattle.ballots.specs.Ballots.{unranked}
use Rattle.ballots.specs.Files.{ballots_left}
use Rattle.ballots.proofs.Iteration.{next_is, none_left}
use Rattle.pairwise.specs.Counts.{count}
use Rattle.pairwise.specs.Grids.{cell, within}
use Rattle.pairwise.specs.inner.Counters.{count_in}
use Rattle.pairwise.proofs.Preferences.{CountedBy, counted_none, counted_le, counted_more}
use Rattle.pairwise.proofs.Cells.{number_for-within, zero_outside}
use Rattle.pairwise.proofs.pairwise.Pairwise.of.Goals as goal

pub loop-ballot-init : goal.loop-ballot-init
loop-ballot-init c = record {
  few = omega arith;
  left = ap ballots_left c.into_iter-ballot-iterator.ensures.into_iter_gives ∙ c.iter-ballot-items.ensures;
  counts = λ x y h k. c.new-counter.ensures x y ∙ sym (counted_none (candidates_in c.args.file.bytes.now) x y);
}

pub add-requires : goal.add-requires
add-requires c =
    let file = c.args.file in
    let i = length c.loop-ballot.yielded in
    let left = sym c.loop-ballot.invariant.left ∙ c.in-Some.ensures.steps in
    let n = next_is file.bytes.now i c.in-Some.ballot.ranks.now (ballots_left c.next.new.self) file.accepted left in
    let below = counted_le file.bytes.now i (count_in c.loop-ballot.counter) c.loop-ballot.invariant.counts in
    record {
      few = omega (arith, n.long, file.said_candidates);
      room = λ x y h k. omega (arith, n.there, file.said_ballots, below x y h k);
    }

pub loop-ballot-preserved : goal.loop-ballot-preserved
loop-ballot-preserved c =
    let file = c.args.file in
    let i = length c.loop-ballot.yielded in
    let left = sym c.loop-ballot.invariant.left ∙ c.in-Some.ensures.steps in
    let n = next_is file.bytes.now i c.in-Some.ballot.ranks.now (ballots_left c.next.new.self) file.accepted left in
    let more = length_push c.loop-ballot.yielded c.in-Some.ballot in
    record {
      few = omega (arith, more, n.there);
      left = rw more n.others;
      counts = rw more (counted_more file.bytes.now c.in-Some.ballot.ranks.now i (count_in c.loop-ballot.counter)
          (count_in c.add.new.self) n.bytes n.long c.loop-ballot.invariant.counts c.add.ensures);
    }

pub invariant_of-result-2 : goal.invariant_of-result-2
invariant_of-result-2 c =
    let file = c.args.file in
    let i = length c.loop-ballot.yielded in
    let below = counted_le file.bytes.now i (count_in c.loop-ballot.counter) c.loop-ballot.invariant.counts in
    record {
      bounded = λ x y h. omega (
        arith,
        file.said_ballots,
        c.loop-ballot.invariant.few,
        below x y h.0 h.1,
        c.into_cells-cells.ensures x y h.0 h.1,
      );
    }

pub returns : goal.returns
returns c =
    let file = c.args.file in
    let bs = file.bytes.now in
    let cells = c.into_cells-cells.result in
    let n = count unranked (ballots_of bs) in
    let none = none_left bs (length c.loop-ballot.yielded) (sym c.loop-ballot.invariant.left ∙ c.in-None.ensures.steps.0) in
    let all : length c.loop-ballot.yielded ≡ ballots_in bs = omega (arith, c.loop-ballot.invariant.few) in
    let counts : CountedBy file.candidates (ballots_of bs) (cell cells) =
    rw file.said_candidates (λ x y p q. c.into_cells-cells.ensures x y p q ∙ rw all at c.loop-ballot.invariant.counts x y p q) in
    record {
      accepted = file.accepted;
      ballots = file.said_ballots;
      candidates = file.said_candidates;
      counts = number_for-within file.candidates cells n file.few counts ∙ ap (λ v. within v n) file.said_candidates;
      outside = zero_outside file.candidates cells n file.few counts;
    }
