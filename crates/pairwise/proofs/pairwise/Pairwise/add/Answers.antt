use Rattle.std.proofs.Common.{◌≡◌, None, refl, arith}
use Rattle.std.proofs.lemmas.Bool.Decides.{nat_tests}
use Rattle.pairwise.specs.Pairwise.{add_refusal}
use Rattle.pairwise.proofs.Preferences.{preference_le}
use Rattle.pairwise.proofs.pairwise.Pairwise.add.Goals as goal

pub add_to_counts-requires-clause-room : goal.add_to_counts-requires-clause-room
add_to_counts-requires-clause-room c = λ x y h k. omega (arith, c.if-self.false, c.args.self.now.bounded x y (h, k))

pub invariant_of-self-2 : goal.invariant_of-self-2
invariant_of-self-2 c = record {
  bounded = λ x y h. omega (
    arith,
    c.args.self.now.bounded x y h,
    c.add_to_counts.ensures x y h.0 h.1,
    preference_le c.args.ballot.ranks.now x y,
  );
}

pub returns-clause-answer : goal.returns-clause-answer
returns-clause-answer c =
    let none : add_refusal c.args.self.now c.args.ballot.ranks.now ≡ None =
    grind (arith, nat_tests, c.if-self.false, c.if-ranks-candidates.false) in rw none refl

pub returns-clause-counted : goal.returns-clause-counted
returns-clause-counted c = record { long = omega arith; ballots = refl; candidates = refl; counts = c.add_to_counts.ensures }
