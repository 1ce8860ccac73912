-- How far a certificate is read, and how far one is written. Assumes nothing.
use Rattle.std.specs.Prelude.{◌≡◌, ℕ, ◌+◌, ◌≤◌, List, ◌++◌, length, drop, Option, Result, IfOk, OnOk}
use Rattle.std.specs.Result.{result_err}
use Rattle.ballots.specs.declared.refusal.Refusal.{Refusal}
use Rattle.pairwise.specs.declared.grid.Grid.{Grid}
use Rattle.pairwise.specs.declared.pairwise.Pairwise.{Pairwise}
use Rattle.pairwise.specs.Pairs.{pairs}
use Rattle.pairwise.specs.Pairwise.{win_in}
use Rattle.certificate.specs.declared.reader.Reader.{Reader}
use Rattle.certificate.specs.declared.writer.Writer.{Writer}
use Rattle.certificate.specs.Reading.{entry_end, entries_end}
use Rattle.certificate.specs.Judge.{ends_before, bytes_refusal, entry_refusal, entries_refusal}

-- the reader goes on to the place p, unless what it reads is refused
pub record Reads {A : Type 0} (refused : Option Refusal) (p : ℕ) (old new : Reader) (r : Result A Refusal)
    : Type 0 where
  pub refusal : result_err r ≡ refused
  pub place : OnOk r (new.at ≡ p)
  pub same : new.sheet.now ≡ old.sheet.now

-- it goes on by so many bytes, and a function of the bytes and the place says what it reads there
pub record ReadsBytes {A : Type 0} (size : ℕ) (value : List ℕ → ℕ → A) (old new : Reader) (r : Result A Refusal)
    : Type 0 where
  pub reads : Reads (ends_before old.sheet.now (old.at + size)) (old.at + size) old new r
  pub is : IfOk r (λ a. a ≡ value old.sheet.now old.at)

-- it goes on past bytes that have to stand there
abbrev pub Passes : List ℕ → Reader → Reader → Result (Unit {0}) Refusal → Type 0
Passes bs old new r = Reads (bytes_refusal old.sheet.now old.at bs) (old.at + length bs) old new r

-- it goes on past the entry of the pair x, y by pairwise counts, or past those of all pairs
abbrev pub ReadsEntry : Pairwise → ℕ → ℕ → Reader → Reader → Result ℕ Refusal → Type 0
ReadsEntry t x y old new r =
    let bs : List ℕ = old.sheet.now in
    Reads (entry_refusal (win_in t) t.counts.candidates bs old.at x y) (entry_end bs old.at) old new r

abbrev pub ReadsEntries : Pairwise → Reader → Reader → Result Grid Refusal → Type 0
ReadsEntries t old new r =
    let bs : List ℕ = old.sheet.now in
    let xys : List (ℕ × ℕ) = pairs t.counts.candidates in
    Reads (entries_refusal (win_in t) t.counts.candidates bs old.at xys) (entries_end bs old.at xys) old new r

-- there is room for the bytes behind those that are written
abbrev pub HasRoom : List ℕ → Writer → Type 0
HasRoom bs w = w.at + length bs ≤ length w.sheet.now

-- the front of the sheet is written, and nothing behind it
pub record HasWritten (front sheet : List ℕ) (w : Writer) : Type 0 where
  pub place : w.at ≡ length front
  pub written : w.sheet.now ≡ front ++ drop (length front) sheet

-- the bytes are written behind whatever was, and the writer holds the same slice
pub record Writes (bs : List ℕ) (old new : Writer) : Type 0 where
  pub place : new.at ≡ old.at + length bs
  pub size : length new.sheet.now ≡ length old.sheet.now
  pub same : new.sheet.ghost_name ≡ old.sheet.ghost_name
  pub behind : (front sheet : List ℕ) → HasWritten front sheet old → HasWritten (front ++ bs) sheet new
