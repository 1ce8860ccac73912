-- Words are a call exactly if they are written by parts that mean it.
use Rattle.std.proofs.Common.{◌≡◌, List, [], ◌∷◌, length, Some, None, Option, sym, ap, ◌∙◌, arith}
use Rattle.std.specs.Option.{option_and_then}
use Rattle.calls.specs.declared.call.Call.{Call}
use Rattle.calls.specs.declared.grammar.Grammar.TheVariants.{Count, Check}
use Rattle.calls.specs.Parts.{Part, File, Flag, Valued, Wrong, parts_of}
use Rattle.calls.specs.Laws.{CountCallsAreParts, CheckCallsAreParts}
use Rattle.calls.specs.CountCalls as count
use Rattle.calls.specs.CheckCalls as check
use Rattle.calls.proofs.Spelling.{IsRight, parts_written, spelled_by}

-- what `option_and_then` makes something of
made_of : {A B : Type 0} (f : A → Option B) (o : Option A) (b : B) → option_and_then f o ≡ Some b → (a : A) × (f a ≡ Some b)
made_of f None b h = absurd (cc)
made_of f (Some a) b h = (a, h)

-- parts that mean something are right
count_right : (s : count.Seen) (ps : List Part) (c : Call count.Request) → count.meaning s ps ≡ Some c → IsRight ps
count_right s [] c h = tt
count_right s (Wrong ∷ ps) c h = absurd (cc)
count_right s (File w ∷ ps) c h = let (t, k) = made_of (λ t. count.meaning t ps) (count.take s (File w)) c h in count_right t ps c k
count_right s (Flag n ∷ ps) c h = let (t, k) = made_of (λ t. count.meaning t ps) (count.take s (Flag n)) c h in count_right t ps c k
count_right s (Valued n v ∷ ps) c h = let (t, k) = made_of (λ t. count.meaning t ps) (count.take s (Valued n v)) c h in count_right t ps c k

check_right : (s : check.Seen) (ps : List Part) (c : Call check.Request) → check.meaning s ps ≡ Some c → IsRight ps
check_right s [] c h = tt
check_right s (Wrong ∷ ps) c h = absurd (cc)
check_right s (File w ∷ ps) c h = let (t, k) = made_of (λ t. check.meaning t ps) (check.take s (File w)) c h in check_right t ps c k
check_right s (Flag n ∷ ps) c h = let (t, k) = made_of (λ t. check.meaning t ps) (check.take s (Flag n)) c h in check_right t ps c k
check_right s (Valued n v ∷ ps) c h = absurd (cc)

pub count_calls_are_parts : CountCallsAreParts
count_calls_are_parts ws c = (
  λ h.
      let r = spelled_by (length ws) Count ws (omega arith) (count_right count.nothing (parts_of Count ws) c h) in
      record { parts = r.parts; files = r.files; proper = r.proper; words = r.words; meant = ap (count.meaning count.nothing) (sym r.same) ∙ h },
  λ r.
      ap (λ vs. count.meaning count.nothing (parts_of Count vs)) r.words
      ∙ ap (count.meaning count.nothing) (parts_written Count r.parts r.files r.proper)
      ∙ r.meant,
)

pub check_calls_are_parts : CheckCallsAreParts
check_calls_are_parts ws c = (
  λ h.
      let r = spelled_by (length ws) Check ws (omega arith) (check_right check.nothing (parts_of Check ws) c h) in
      record { parts = r.parts; files = r.files; proper = r.proper; words = r.words; meant = ap (check.meaning check.nothing) (sym r.same) ∙ h },
  λ r.
      ap (λ vs. check.meaning check.nothing (parts_of Check vs)) r.words
      ∙ ap (check.meaning check.nothing) (parts_written Check r.parts r.files r.proper)
      ∙ r.meant,
)
