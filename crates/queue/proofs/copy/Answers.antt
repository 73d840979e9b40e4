-- `copy` meets its contract: both stretches are stored where they fit. Assumes nothing.
use Rattle.std.proofs.Common.{arith, sym}
use Rattle.queue.proofs.RingLaws.{content_of}
use Rattle.queue.proofs.QueueAnswers.{fits_both}
use Rattle.queue.proofs.CopyLaws.{copy_outside, copy_full, copy_fits, copy_done}
use Rattle.queue.proofs.copy.Goals as goal

pub returns-then-not-fits_ring : goal.returns-then-not-fits_ring
returns-then-not-fits_ring c =
    let a = c.args in
    let both = copy_outside a.ring.now a.head a.used a.other.now (sym c.if-not-fits_ring.ensures) in
    record { value = both.0; other_after = both.1 }

pub returns-then-not-fits_ring-2 : goal.returns-then-not-fits_ring-2
returns-then-not-fits_ring-2 c =
    let a = c.args in
    let both = copy_full a.ring.now a.head a.used a.other.now (sym c.if-not-fits_ring.ensures)
    (sym c.if-not-fits_ring-2.ensures) in
    record { value = both.0; other_after = both.1 }

pub of-requires : goal.of-requires
of-requires c =
    let f = fits_both _ c.args.head c.args.used (sym c.if-not-fits_ring.ensures) in (omega (arith, f.0), f.1)

pub store_stretches-requires : goal.store_stretches-requires
store_stretches-requires c =
    let a = c.args in
    copy_fits a.ring.now a.head a.used a.other.now (sym c.if-not-fits_ring.ensures) (sym c.if-not-fits_ring-2.ensures) _
    (content_of c.args.ring.now c.args.head c.args.used c.of.ensures.older c.of.ensures.newer)

pub returns : goal.returns
returns c =
    let a = c.args in
    let both = copy_done a.ring.now a.head a.used a.other.now (sym c.if-not-fits_ring.ensures) (sym c.if-not-fits_ring-2.ensures) _
    (content_of c.args.ring.now c.args.head c.args.used c.of.ensures.older c.of.ensures.newer) _ c.store_stretches.ensures in
    record { value = both.0; other_after = both.1 }
