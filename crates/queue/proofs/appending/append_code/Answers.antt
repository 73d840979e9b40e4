-- `append_code` meets its contract: the code stored behind the bytes used, if there is room. Assumes nothing.
use Rattle.std.proofs.Common.{arith}
use Rattle.queue.proofs.QueueAnswers.{fits_both, code_full, code_done}
use Rattle.queue.proofs.appending.append_code.Goals as goal

pub overflow_sub-ring : goal.overflow_sub-ring
overflow_sub-ring c = (fits_both _ c.args.head c.args.used c.requires).1

pub returns-then-ring-used : goal.returns-then-ring-used
returns-then-ring-used c =
    let a = c.args in
    code_full a.ring.now a.head a.used a.code.now a.last (fits_both _ a.head a.used c.requires).1 c.if-ring-used.true

pub move_on-from-requires : goal.move_on-from-requires
move_on-from-requires c = let f = fits_both _ c.args.head c.args.used c.requires in (f.0, f.1, omega (arith, c))

pub store-requires : goal.store-requires
store-requires c = (c.move_on-from.ensures.upper_bound, omega (arith, c.if-ring-used.false))

pub overflow_add-result : goal.overflow_add-result
overflow_add-result c = omega (arith, c.if-ring-used.false, (fits_both _ c.args.head c.args.used c.requires).1, c)

pub returns : goal.returns
returns c =
    let a = c.args in
    code_done a.ring.now a.head a.used a.code.now a.last _ _ (fits_both _ a.head a.used c.requires).1 c.if-ring-used.false
    c.move_on-from.ensures.value c.store.ensures
