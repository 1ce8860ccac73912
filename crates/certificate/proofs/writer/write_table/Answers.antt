use Rattle.std.proofs.Common.{◌≡◌, ℕ, ◌+◌, ◌*◌, ◌/◌, ◌%◌, ◌<◌, List, ◌++◌, sym, ap, ◌∙◌, subst, arith}
use Rattle.pairwise.specs.Grids.{number_for}
use Rattle.certificate.specs.declared.writer.Writer.{Writer}
use Rattle.certificate.specs.Layout.{number_bytes, table_bytes}
use Rattle.certificate.proofs.Tables.{table_from, table_next, table_end}
use Rattle.certificate.proofs.Writing.{Left, left_all, left_none, left_second, first_fits}
use Rattle.certificate.proofs.writer.write_table.Goals as goal

-- of the numbers that are left, the bytes of the first and those behind it
first_number :
    (v : ℕ) (n : ℕ → ℕ → ℕ) (i : ℕ) {bs all : List ℕ} {a b : Writer} → 0 < v → i < v * v → bs ≡ number_bytes (n (i / v) (i % v)) →
    Left (table_from v n i) all a b → Left (bs ++ table_from v n (i + 1)) all a b
first_number v n i {bs} {all} {a} {b} some h is l =
    subst (λ bytes. Left bytes all a b) (table_next v n i some h ∙ ap (λ k. k ++ table_from v n (i + 1)) (sym is)) l

pub put-requires : goal.put-requires
unfolding table_bytes
put-requires c = omega arith

pub loop-i-init : goal.loop-i-init
unfolding table_bytes
loop-i-init c = left_second (left_all c.requires) c.put.ensures

pub put-requires-in-loop-i : goal.put-requires-in-loop-i
put-requires-in-loop-i c =
    let g = c.args.pairwise.now.counts in
    let is = c.to_le_bytes.ensures ∙ ap number_bytes c.preferring-number.ensures in
    first_fits _ _ (first_number g.candidates (number_for g) c.loop-i.i g.some c.loop-i-test.true is c.loop-i.invariant)

pub loop-i-preserved : goal.loop-i-preserved
loop-i-preserved c =
    let g = c.args.pairwise.now.counts in
    let is = c.to_le_bytes.ensures ∙ ap number_bytes c.preferring-number.ensures in
    left_second (first_number g.candidates (number_for g) c.loop-i.i g.some c.loop-i-test.true is c.loop-i.invariant) c.put-in-loop-i.ensures

pub returns : goal.returns
returns c =
    let g = c.args.pairwise.now.counts in
    left_none (rw (table_end g.candidates (number_for g) c.loop-i.i c.loop-i-test.false) at c.loop-i.invariant)
