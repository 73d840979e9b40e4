-- `peek` meets its contract: a block read lies inside the bytes used. Assumes nothing.
use Rattle.std.proofs.Common.{◌≡◌, ◌≤◌, length, arith, sym, ap, ◌∙◌}
use Rattle.queue.specs.Queue.{taken_with, taken}
use Rattle.queue.proofs.RingLaws.{content_of}
use Rattle.queue.proofs.QueueAnswers.{fits_both, taken_outside, taken_read, taken_inside}
use Rattle.queue.proofs.peek.Goals as goal
use Rattle.queue.proofs.peek.Goals.{After-read_block, In-Some}

pub returns-then-not-fits_ring : goal.returns-then-not-fits_ring
returns-then-not-fits_ring c =
    let a = c.args in taken_outside a.ring.now a.head a.used a.set a.front (sym c.if-not-fits_ring.ensures)

pub of-requires : goal.of-requires
of-requires c = let f = fits_both _ c.args.head c.args.used (sym c.if-not-fits_ring.ensures) in (omega (arith, f.0), f.1)

-- what was read makes the answer
answered : (c : After-read_block) → let a = c.args in
    taken_with (length a.ring.now) a.head a.used c.read_block.result ≡ taken a.ring.now a.head a.used a.set a.front
answered c =
    let a = c.args in
    taken_read a.ring.now a.head a.used a.set a.front _ _ (sym c.if-not-fits_ring.ensures)
    (content_of c.args.ring.now c.args.head c.args.used c.of.ensures.older c.of.ensures.newer) c.read_block.ensures

-- a block takes no more bytes than are used
inside : (c : In-Some) → c.in-Some.count ≤ c.args.used
inside c =
    let a = c.args in
    taken_inside a.ring.now a.head a.used a.set a.front _ c.in-Some.block c.in-Some.count (sym c.if-not-fits_ring.ensures)
    (content_of c.args.ring.now c.args.head c.args.used c.of.ensures.older c.of.ensures.newer) c.in-Some.ensures

pub move_on-requires : goal.move_on-requires
move_on-requires c =
    let at = goal.at.move_on-requires c in
    let f = fits_both _ c.args.head c.args.used (sym c.if-not-fits_ring.ensures) in
    (f.0, omega (arith, f.1, inside at.In-Some), omega (arith, c))

pub overflow_sub-result : goal.overflow_sub-result
overflow_sub-result c = inside (goal.at.overflow_sub-result c).In-Some

pub returns-in-None : goal.returns-in-None
returns-in-None c =
    let a = c.args in
    ap (taken_with _ a.head a.used) (sym c.in-None.is) ∙ answered (goal.at.returns-in-None c).After-read_block

pub returns-in-Some : goal.returns-in-Some
returns-in-Some c =
    let a = c.args in
    rw (c.by_fields.ensures, c.move_on.ensures.value)
    (ap (taken_with _ a.head a.used) (sym c.in-Some.is) ∙ answered (goal.at.returns-in-Some c).After-read_block)
