-- Bytes written one behind the other.
use Rattle.std.proofs.Common.{◌≡◌, ℕ, ◌+◌, List, [], ◌++◌, length, refl, ◌∙◌, append_assoc, arith, length-append}
use Rattle.std.proofs.lemmas.List.{append-nil}
use Rattle.certificate.specs.declared.writer.Writer.{Writer}
use Rattle.certificate.specs.Layout.{number_size, set_size, Entry, path_bytes, entry_bytes, set_bytes}
use Rattle.certificate.specs.inner.Progress.{HasRoom, Writes}

-- nothing, and some behind others
pub writes_none : (a : Writer) → Writes [] a a
writes_none a = record { place = omega arith; size = refl; same = refl; behind = λ front sheet h. rw append-nil h }

pub writes_both : {ps qs : List ℕ} {a b c : Writer} → Writes ps a b → Writes qs b c → Writes (ps ++ qs) a c
writes_both {ps} {qs} p q =
    record {
      place = omega (arith, p.place, q.place, length-append ps qs);
      size = q.size ∙ p.size;
      same = q.same ∙ p.same;
      behind = λ front sheet h. rw (← append_assoc) (q.behind (front ++ ps) sheet (p.behind front sheet h));
    }

-- the bytes are left to be written: there is room for them, and with them all of it is written
pub record Left (bytes all : List ℕ) (start now : Writer) : Type 0 where
  pub room : HasRoom bytes now
  pub rest : (end : Writer) → Writes bytes now end → Writes all start end

pub left_all : {all : List ℕ} {a : Writer} → HasRoom all a → Left all all a a
left_all room = record { room = room; rest = λ end w. w }

pub left_none : {all : List ℕ} {a b : Writer} → Left [] all a b → Writes all a b
left_none {b = b} l = l.rest b (writes_none b)

-- of two parts there is room for the first, and once it is written the second is left
pub first_fits : (ps qs : List ℕ) {all : List ℕ} {a b : Writer} → Left (ps ++ qs) all a b → HasRoom ps b
first_fits ps qs l = omega (arith, l.room, length-append ps qs)

pub left_second : {ps qs all : List ℕ} {a b c : Writer} → Left (ps ++ qs) all a b → Writes ps b c → Left qs all a c
left_second {ps} {qs} l w =
    record {
      room = omega (arith, l.room, length-append ps qs, w.place, w.size);
      rest = λ end v. l.rest end (writes_both w v);
    }

-- how long an entry is
pub entry_length : (e : Entry) → length (entry_bytes e) ≡ number_size + 1 + length e.path + set_size
unfolding entry_bytes path_bytes
entry_length e = omega (arith, length-append e.path (set_bytes e.cut))
