use Rattle.std.proofs.Common.{◌≡◌, ℕ, ◌≤◌, List, [], ◌++◌, length, drop, sym, refl, ap, ◌∙◌, subst, arith, length-append, rules}
use Rattle.certificate.specs.declared.counted.Counted.{Counted}
use Rattle.certificate.specs.declared.writer.Writer.{Writer}
use Rattle.certificate.specs.Layout.{set_bytes}
use Rattle.certificate.specs.inner.Parts.{table_of, all_entries, best_in, certificate_in}
use Rattle.certificate.specs.inner.Progress.{Writes}
use Rattle.certificate.proofs.Certifying.{in_parts}
use Rattle.certificate.proofs.Writing.{Left, left_all, left_second, first_fits}
use Rattle.certificate.proofs.writer.write_certificate.Goals as goal

-- of the certificate in three parts, the last two are left once the table is written
module _ (c : Counted) where
  entries_left : {a b : Writer} → length (certificate_in c.pairwise) ≤ length a.sheet.now → a.at ≡ 0 → Writes (table_of c.pairwise) a b →
      Left (all_entries c.strengths ++ set_bytes (best_in c.pairwise)) (certificate_in c.pairwise) a b
  entries_left {a} room start w =
      left_second (subst (λ bytes. Left bytes (certificate_in c.pairwise) a a) (in_parts c) (left_all (omega arith))) w

-- what is left behind the reference that a writer held
written : {bs left : List ℕ} {a b : Writer} → a.at ≡ 0 → Writes bs a b →
    (a.sheet.ghost_name ≡ b.sheet.ghost_name → left ≡ b.sheet.now) → left ≡ bs ++ drop (length bs) a.sheet.now
written {a = a} start w is =
    is (sym w.same) ∙ (w.behind [] a.sheet.now (record { place = start; written = refl })).written

pub write_table-requires : goal.write_table-requires
write_table-requires c =
    let me = c.args.counted.now in
    let rest = all_entries me.strengths ++ set_bytes (best_in me.pairwise) in
    omega (arith, c.requires.room, ap length (in_parts me), length-append (table_of me.pairwise) rest)

pub write_entries-requires : goal.write_entries-requires
write_entries-requires c =
    let me = c.args.counted.now in
    first_fits (all_entries me.strengths) (set_bytes (best_in me.pairwise)) (entries_left me c.requires.room refl c.write_table.ensures)

pub put-requires : goal.put-requires
put-requires c =
    let left = left_second (entries_left c.args.counted.now c.requires.room refl c.write_table.ensures) c.write_entries.ensures in
    omega (arith, left.room)

pub returns : goal.returns
returns c =
    let left = left_second (entries_left c.args.counted.now c.requires.room refl c.write_table.ensures) c.write_entries.ensures in
    let is = c.to_le_bytes.ensures ∙ ap set_bytes (c.bits.ensures ∙ c.requires.best) in
    let all = left.rest c.put.new.self (subst (λ bs. Writes bs c.write_entries.new.writer c.put.new.self) is c.put.ensures) in
    record { length = omega (arith, all.place); sheet = written refl all (search rules) }
