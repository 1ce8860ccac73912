use Rattle.std.proofs.Common.{ℕ, List, [], ◌∷◌, ◌++◌, codes, ap, sym, ◌∙◌}
use Rattle.program.specs.Endings.{err_of}
use Rattle.program.proofs.program.Program.err.Goals as goal

pub returns-in-Unread : goal.returns-in-Unread
returns-in-Unread c =
    let is = ap (err_of c.args.self.now c.args.called.now) c.in-Unread.is in
    let message = c.message-in-Unread.ensures in
    let reason = c.text-in-Unread.ensures in cc

pub returns-in-Unwritten : goal.returns-in-Unwritten
returns-in-Unwritten c =
    let is = ap (err_of c.args.self.now c.args.called.now) c.in-Unwritten.is in
    let message = c.message-in-Unwritten.ensures in
    let reason = c.text-in-Unwritten.ensures in cc

pub returns-in-Unprinted : goal.returns-in-Unprinted
returns-in-Unprinted c =
    let is = ap (err_of c.args.self.now c.args.called.now) c.in-Unprinted.is in
    let message = c.message-in-Unprinted.ensures in
    let reason = c.text-in-Unprinted.ensures in cc

pub returns-in-NoMemory : goal.returns-in-NoMemory
returns-in-NoMemory c =
    ap (λ (p : List ℕ). c.args.self.now.name.now ++ (codes ": out of memory" ++ (p ++ (10 ∷ [])))) c.new-none.ensures
    ∙ sym (ap (err_of c.args.self.now c.args.called.now) c.in-NoMemory.is)
