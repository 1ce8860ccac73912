use Rattle.std.proofs.Common.{◌≡◌, ℕ, ◌+◌, eqb, [], ◌∷◌, arith, rules}
use mir.Val.{bool_byte}
use Rattle.std.proofs.lemmas.Bool.{lt-ltb, le-ltb, eq-eqb, ne_eqb}
use Rattle.pairwise.specs.Pairs.{to_come}
use Rattle.pairwise.proofs.OrderedPairs.{Behind, others_next, others_end, from_first, from_end}
use Rattle.pairwise.proofs.pairs.PairsIterator.next.Goals as goal

behind : (x y d : ℕ) → d ≡ bool_byte (eqb y x) → Behind x y (y + d)
behind x y d h = record { skip = λ e. rw (h, eq-eqb y x e); here = λ ne. rw (h, ne_eqb y x ne) (omega arith) }

pub returns-then-y-self : goal.returns-then-y-self
returns-then-y-self c =
    let p = c.args.self.now in
    let is = behind p.x p.y c.from.result c.from.ensures in
    let z : ℕ = p.y + c.from.result in
    let e : to_come p ≡ (p.x, z) ∷ to_come (record p { y = z + 1 }) =
    rw (lt-ltb p.x p.candidates c.if-self.false, others_next is c.if-self.false c.if-y-self.true) in
    search (rules, e)

pub returns-then-self-2 : goal.returns-then-self-2
returns-then-self-2 c =
    let p = c.args.self.now in
    let is = behind p.x p.y c.from.result c.from.ensures in
    let e : to_come p ≡ [] =
    rw (lt-ltb p.x p.candidates c.if-self.false, others_end is c.if-self.false c.if-y-self.false) (from_end p.candidates (p.x + 1) c.if-self-2.true) in
    let f : to_come (record p { x = p.x + 1 }) ≡ [] = rw (le-ltb (p.x + 1) p.candidates c.if-self-2.true) in
    search (rules, e, f)

pub returns : goal.returns
returns c =
    let p = c.args.self.now in
    let x : ℕ = p.x + 1 in
    let is = behind p.x p.y c.from.result c.from.ensures in
    let first : Behind x 0 0 = record { skip = λ e. absurd (omega arith); here = λ _. omega arith } in
    let e : to_come p ≡ (x, 0) ∷ to_come (record p { x = x; y = 1 }) =
    rw (lt-ltb p.x p.candidates c.if-self.false, others_end is c.if-self.false c.if-y-self.false, lt-ltb x p.candidates c.if-self-2.false)
    (rw (from_first p.candidates x c.if-self-2.false, others_next first c.if-self-2.false (omega arith))) in
    search (rules, e)
