-- `why::put_why` meets its contract. Assumes nothing.
use Rattle.std.proofs.Common.{refl, ◌∙◌, arith}
use borrow.Author.Tests.{lt-ltb, le-ltb}
use Rattle.queue.proofs.RingLaws.{rest_all}
use Rattle.sheet.specs.Why.{why_of}
use Rattle.sheet.proofs.LayoutLaws.{four_read}
use Rattle.sheet.proofs.why.put_why.Goals as goal

pub returns-in_default : goal.returns-in_default
unfolding why_of
returns-in_default c = (rw (lt-ltb _ _ c.in_default.len_below), refl)

pub returns : goal.returns
unfolding why_of
returns c =
    let q = c.args.question.now in
    let column = c.from_be_bytes-column.ensures ∙ four_read q 0 0 1 2 3 refl refl refl refl (omega arith) in
    let row = c.from_be_bytes-row.ensures ∙ four_read q 4 4 5 6 7 refl refl refl refl (omega arith) in
    rw (le-ltb _ _ c.in-len8-up.len_at_least, ← column, ← row, ← rest_all q 8) c.put_sheet_why.ensures
