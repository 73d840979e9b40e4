-- `first::queue_first` meets its contract: what is left to write from here is what was to write. The measure is the number of blocks left. Assumes nothing.
use Prim.Native.Nat.{◌≤◌}
use native.Mathlib.Omega.{arith}
use lib.Ieee.{binary64, fits}
use lib.ListN.{length}
use denote.Floats.{passes}
use Rattle.queue.specs.Block.{starting_last}
use Rattle.queue.specs.Queue.{queue_codes}
use Rattle.queue.proofs.RoundTrip.{CanQueue}
use Rattle.queue.proofs.KeptLaws.{as_queued_is}
use Rattle.queue.proofs.QueueLaws.{can_code}
use Rattle.implicit.proofs.SetupLawsFirst.{product_list, count_is}
use Rattle.implicit.proofs.SetupLawsBlocks.{RangesHeld}
use Rattle.implicit.proofs.SetupLawsWriting.{block_here, block_has, product_can, product_bytes}
use Rattle.implicit.proofs.SetupLawsQueueing.{queue_start, queue_room, queue_fits, queue_again, queue_end}
use Rattle.implicit.proofs.first.queue_first.Lts
use Rattle.implicit.proofs.first.queue_first.Reads
use Rattle.implicit.proofs.first.queue_first.Tie
use Rattle.implicit.proofs.first.queue_first.Goals as goal

-- the ranges are of f64s
held : (c : Lts.Start Tie.the-claims Reads.Pre Reads.Post goal.the-invariant-loop-i goal.the-decreases-loop-i Tie.handed_clauses) → RangesHeld c.args.ranges
held c =
    let r = c.args.ranges in
    let g = c.well_formed.1.0.1.1 in (
      (passes (fits binary64 r.m.lower) g.0.1.1.0.1, passes (fits binary64 r.m.upper) g.0.1.1.1.0.1),
      (passes (fits binary64 r.n.lower) g.1.0.1.1.0.1, passes (fits binary64 r.n.upper) g.1.0.1.1.1.0.1),
      (passes (fits binary64 r.theta.lower) g.1.1.0.1.1.0.1, passes (fits binary64 r.theta.upper) g.1.1.0.1.1.1.0.1),
      (passes (fits binary64 r.t.lower) g.1.1.1.0.1.1.0.1, passes (fits binary64 r.t.upper) g.1.1.1.0.1.1.1.0.1),
    )

-- the block that is queued can be
can : (c : goal.After-product_at) → let a = c.args in
    CanQueue a.p.set c.product_at.result
can c =
    block_has c.product_of-f.result c.product_count-n.result c.loop-i.i c.product_at.result c.product_count-n.ensures.value
    c.product_at.ensures c.loop-i-test.true
    (CanQueue c.args.p.set) (product_can c.args.p c.args.ranges c.product_of-f.result c.product_of-f.ensures (held c.before.before.before.before.before.before.before.before) c.requires.0)

-- the block that is queued can be
can-2 : (c : goal.After-slice_known-in-loop-i-1) → let a = c.args in
    CanQueue a.p.set c.product_at.result
can-2 c =
    block_has c.product_of-f.result c.product_count-n.result c.loop-i.i c.product_at.result c.product_count-n.ensures.value
    c.product_at.ensures c.loop-i-test.true
    (CanQueue c.args.p.set) (product_can c.args.p c.args.ranges c.product_of-f.result c.product_of-f.ensures (held c.before.before.before.before.before.before.before.before.before.before.before.before) c.requires.0)

-- all codes fit the ring
all_fit : (c : Lts.After-product_of Tie.the-claims Reads.Pre Reads.Post goal.the-invariant-loop-i goal.the-decreases-loop-i Tie.handed_clauses) → let a = c.args in
    length (queue_codes a.p.set starting_last (product_list c.product_of-f.result)) ≤ length a.ring.now
all_fit c =
    rw (product_bytes c.args.p c.args.ranges c.product_of-f.result c.product_of-f.ensures c.requires.0) c.requires.1

pub loop-i-init : goal.loop-i-init
loop-i-init c =
    let a = c.args in
    (omega arith, queue_start a.p.set (product_list c.product_of-f.result) a.ring.now c.starting_last.result c.starting_last.ensures)

pub product_at-requires : goal.product_at-requires
product_at-requires c = omega (arith, c.product_count-n.ensures.value, c.loop-i-test.true)

pub queue_behind-k-requires : goal.queue_behind-k-requires
queue_behind-k-requires c =
    let a = c.args in
    let b = c.product_at.result in
    let q = c.loop-i.invariant.1 in
    let here =
    block_here c.product_of-f.result c.product_count-n.result c.loop-i.i b c.product_count-n.ensures.value c.product_at.ensures
    c.loop-i-test.true in (
      can_code a.p.set c.loop-i.k.back b q.known (can c),
      as_queued_is a.p.set b (can c),
      queue_fits a.p.set (product_list c.product_of-f.result) a.ring.now c.loop-i.i c.loop-i.k c.loop-i.ring b here (all_fit c.before.before.before.before.before.before) q,
      queue_room a.p.set (product_list c.product_of-f.result) a.ring.now c.loop-i.i c.loop-i.k c.loop-i.ring b here (all_fit c.before.before.before.before.before.before) q,
    )

pub loop-i-smaller : goal.loop-i-smaller
loop-i-smaller c = omega (arith, c.loop-i-test.true)

pub loop-i-preserved : goal.loop-i-preserved
loop-i-preserved c =
    let a = c.args in
    let b = c.product_at.result in
    let taken = c.loop-i-test.true in
    let here =
    block_here c.product_of-f.result c.product_count-n.result c.loop-i.i b c.product_count-n.ensures.value
    c.product_at.ensures taken in (
      omega (arith, taken),
      queue_again a.p.set (product_list c.product_of-f.result) a.ring.now c.loop-i.i c.loop-i.k c.loop-i.ring b here
          (all_fit c.before.before.before.before.before.before.before.before.before.before) c.loop-i.invariant.1 c.queue_behind-k.result c.queue_behind-k.new.ring (can-2 c)
          c.queue_behind-k.ensures.0 c.queue_behind-k.ensures.1,
    )

pub shape_of-ring : goal.shape_of-ring
shape_of-ring c = c.loop-i.invariant.1.same

pub returns : goal.returns
returns c =
    queue_end c.args.p c.args.ranges c.product_of-f.result c.args.ring.now c.loop-i.ring c.loop-i.i c.loop-i.k
    c.product_of-f.ensures c.requires.0
    (omega (arith, count_is c.product_of-f.result, c.product_count-n.ensures.value, c.loop-i-test.false)) c.loop-i.invariant.1
