use Rattle.std.proofs.Common.{List, ℕ, ◌+◌, ◌^◌, ◌<◌, ◌++◌, length, get_or, drop, ap, arith, length-append}
use Rattle.std.specs.List.{All}
use Rattle.std.proofs.lemmas.List.{drop_more}
use Rattle.std.proofs.lemmas.List.Elements.{All-from_get_or}
use Rattle.tiebreak.specs.Reports.{number_text, numbers_text, order_line}
use Rattle.tiebreak.proofs.Room.{front_fits, order_short}
use Rattle.tiebreak.proofs.report.push_order.Goals as goal

pub push_number-requires : goal.push_number-requires
push_number-requires c =
    let i : ℕ = c.loop-candidate.candidate-index in
    let places : List ℕ = c.args.places.now in
    let small : All (λ x. x < 2 ^ 64) places =
    All-from_get_or (λ x. x < 2 ^ 64) places 0 (λ i l. omega (arith, c.type_inv.places i)) in
    let e = rw (drop_more places i 0 c.loop-candidate-test.true) at c.loop-candidate.invariant in
    omega (
      arith,
      front_fits c.loop-candidate.text.bytes (number_text (get_or places i 0)) (numbers_text (drop (i + 1) places))
          (c.args.text.now.bytes ++ order_line places) e,
      length-append c.args.text.now.bytes (order_line places),
      order_short places small c.requires.few,
      c.requires.room,
    )

pub push_str-requires-2 : goal.push_str-requires-2
push_str-requires-2 c =
    let places : List ℕ = c.args.places.now in
    let small : All (λ x. x < 2 ^ 64) places =
    All-from_get_or (λ x. x < 2 ^ 64) places 0 (λ i l. omega (arith, c.type_inv.places i)) in
    let rest : List ℕ = numbers_text (drop c.loop-candidate.candidate-index places) in (
      omega arith,
      omega (
        arith,
        ap length c.loop-candidate.invariant,
        length-append c.loop-candidate.text.bytes rest,
        length-append c.args.text.now.bytes (order_line places),
        order_short places small c.requires.few,
        c.requires.room,
      ),
    )
