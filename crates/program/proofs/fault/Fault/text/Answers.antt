use Rattle.std.proofs.Common.{ap}
use Rattle.program.specs.Faults.{fault_text}
use Rattle.program.proofs.fault.Fault.text.Goals as goal

pub returns-in-Candidates : goal.returns-in-Candidates
returns-in-Candidates c =
    let is = ap fault_text c.in-Candidates.is in
    let text = c.numbered.ensures.bytes in
    let wanted = c.words-wanted.ensures.bytes in
    let number = c.from.ensures in cc

pub returns-in-DrawnBefore : goal.returns-in-DrawnBefore
returns-in-DrawnBefore c =
    let is = ap fault_text c.in-DrawnBefore.is in
    let text = c.numbered-in-DrawnBefore-2.ensures.bytes in
    let rest = c.numbered-in-DrawnBefore.ensures.bytes in
    let before = c.words-before.ensures.bytes in
    let number = c.from-in-DrawnBefore.ensures in cc

pub returns-in-OtherCount : goal.returns-in-OtherCount
returns-in-OtherCount c =
    let is = ap fault_text c.in-OtherCount.is in
    let text = c.numbered-in-OtherCount.ensures.bytes in
    let put = c.numbered-put.ensures.bytes in
    let over = c.numbered-over.ensures.bytes in
    let end = c.words-in-OtherCount.ensures.bytes in cc
