-- How long the parts of a report are.
use Rattle.std.proofs.Common.{◌≡◌, ℕ, ◌+◌, ◌*◌, ◌^◌, ◌<◌, ◌≤◌, Bool, List, ◌++◌, length, get_or, codes, ap, arith, length-append}
use Rattle.std.specs.List.{All}
use Rattle.std.specs.Fmt.{decimal}
use Rattle.std.proofs.lemmas.Fmt.{length-decimal-le}
use Rattle.std.proofs.lemmas.Grind.{common_steps}
use Rattle.std.proofs.lemmas.List.Concat.{length-flat_map}
use Rattle.std.proofs.lemmas.List.Sums.{sum_by-le}
use Rattle.ballots.specs.Format.{most_candidates}
use Rattle.ballots.specs.Sets.{members, room}
use Rattle.ballots.proofs.Numbering.{new_number_le, members_below}
use Rattle.tiebreak.specs.declared.report.TheConstants.{BEST_ROOM, ORDER_ROOM}
use Rattle.tiebreak.specs.Reports.{number_text, numbers_text, best_line, order_line}

-- what is in front, and the first of what is to come, is no longer than the whole
pub front_fits : (text more rest whole : List ℕ) → text ++ (more ++ rest) ≡ whole → length text + length more ≤ length whole
front_fits text more rest whole e = omega (arith, ap length e, length-append text (more ++ rest), length-append more rest)

-- one line more
pub line_long : (old line new : List ℕ) → new ≡ old ++ (line ++ codes "\n") → length new ≡ length old + length line + 1
line_long old line new e = omega (arith, ap length e, length-append old (line ++ codes "\n"), length-append line (codes "\n"))

-- a candidate's number, and any of two bytes
pub two_digits : (n : ℕ) → n < 100 → length (decimal n) ≤ 2
two_digits n small = length-decimal-le 2 n (omega arith) (omega arith) (omega arith)

pub five_digits : (n : ℕ) → n < 65536 → length (decimal n) ≤ 5
five_digits n small = length-decimal-le 5 n (omega arith) (omega arith) (omega arith)

pub ruleset digits = (common_steps, two_digits, five_digits)

-- numbers of at most k digits
numbers_short :
    (k : ℕ) (ns : List ℕ) → 0 < k → All (λ n. (n < 10 ^ k) × (n < 2 ^ 64)) ns →
    length (numbers_text ns) ≤ length ns * (k + 1)
numbers_short k ns some small =
    omega (
      arith,
      length-flat_map number_text ns,
      sum_by-le (λ n. length (number_text n)) (k + 1) ns
          (λ i d l. let h = small i d l in omega (arith, length-decimal-le k (get_or ns i d) some h.0 h.1)),
    )

-- the line of the best, and that of the order
pub best_short :
    (ballots : ℕ) (keep : ℕ → Bool) → ballots < 65536 → length (best_line ballots (members keep room)) + 1 ≤ BEST_ROOM
best_short ballots keep small =
    let best : List ℕ = members keep room in
    let each : All (λ n. (n < 10 ^ 2) × (n < 2 ^ 64)) best =
    λ i d l. let h = members_below keep room i d l in (omega (arith, h), omega (arith, h)) in
    simp length-append (omega (arith, five_digits ballots small, numbers_short 2 best (omega arith) each, new_number_le keep room))

pub order_short :
    (places : List ℕ) → All (λ x. x < 2 ^ 64) places → length places ≤ most_candidates →
    length (order_line places) + 1 ≤ ORDER_ROOM
order_short places small few =
    let each : All (λ n. (n < 10 ^ 20) × (n < 2 ^ 64)) places = λ i d l. let h = small i d l in (omega (arith, h), h) in
    omega (arith, numbers_short 20 places (omega arith) each, few)
