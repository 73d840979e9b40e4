-- `first::measure_first` meets its contract: what is used and what is left to count are the whole. The measure is the number of blocks left. Assumes nothing.
use mathlib.Core.Path.{ap, ◌∙◌}
use native.Mathlib.Omega.{arith}
use lib.Ieee.{binary64, fits}
use denote.Floats.{passes}
use lib.ListN.{length}
use Rattle.queue.proofs.RoundTrip.{CanQueue}
use Rattle.queue.proofs.KeptLaws.{as_queued_is}
use Rattle.queue.proofs.QueueLaws.{can_code}
use Rattle.implicit.proofs.SetupLawsFirst.{product_list, count_is}
use Rattle.implicit.proofs.SetupLawsBlocks.{RangesHeld}
use Rattle.implicit.proofs.SetupLawsWriting.{measure_start, measure_again, measure_end, block_here, block_has, product_can, product_bytes}
use Rattle.implicit.proofs.first.measure_first.Lts
use Rattle.implicit.proofs.first.measure_first.Reads
use Rattle.implicit.proofs.first.measure_first.Tie
use Rattle.implicit.proofs.first.measure_first.Goals as goal

-- the ranges are of f64s
held : (c : Lts.Start Tie.the-claims Reads.Pre Reads.Post goal.the-invariant-loop-i goal.the-decreases-loop-i Tie.handed_clauses) → RangesHeld c.args.ranges
held c =
    let r = c.args.ranges in
    let g = c.well_formed.1.0.1.1 in (
      (passes (fits binary64 r.m.lower) g.0.1.1.0.1, passes (fits binary64 r.m.upper) g.0.1.1.1.0.1),
      (passes (fits binary64 r.n.lower) g.1.0.1.1.0.1, passes (fits binary64 r.n.upper) g.1.0.1.1.1.0.1),
      (passes (fits binary64 r.theta.lower) g.1.1.0.1.1.0.1, passes (fits binary64 r.theta.upper) g.1.1.0.1.1.1.0.1),
      (passes (fits binary64 r.t.lower) g.1.1.1.0.1.1.0.1, passes (fits binary64 r.t.upper) g.1.1.1.0.1.1.1.0.1),
    )

-- the block that is measured can be queued
can : (c : goal.After-product_at) → CanQueue c.args.p.set c.product_at.result
can c =
    block_has c.product_of-f.result c.product_count-n.result c.loop-i.i c.product_at.result
    c.product_count-n.ensures.value c.product_at.ensures c.loop-i-test.true (CanQueue c.args.p.set)
    (product_can c.args.p c.args.ranges c.product_of-f.result c.product_of-f.ensures (held c.before.before.before.before.before.before) c.requires)

-- the block that is measured can be queued
can-2 : (c : goal.After-measure_behind-k) → CanQueue c.args.p.set c.product_at.result
can-2 c =
    block_has c.product_of-f.result c.product_count-n.result c.loop-i.i c.product_at.result
    c.product_count-n.ensures.value c.product_at.ensures c.loop-i-test.true (CanQueue c.args.p.set)
    (product_can c.args.p c.args.ranges c.product_of-f.result c.product_of-f.ensures (held c.before.before.before.before.before.before.before) c.requires)

pub loop-i-init : goal.loop-i-init
loop-i-init c =
    (omega arith, measure_start c.args.p.set (product_list c.product_of-f.result) c.starting_last.result c.starting_last.ensures)

pub product_at-requires : goal.product_at-requires
product_at-requires c = omega (arith, c.product_count-n.ensures.value)

pub measure_behind-k-requires : goal.measure_behind-k-requires
measure_behind-k-requires c =
    let set = c.args.p.set in
    let i = c.loop-i.invariant.1 in (
      can_code set c.loop-i.k.back c.product_at.result i.known (can c),
      as_queued_is set c.product_at.result (can c),
      omega (arith, i.few, c.product_count-n.ensures.upper_bound, c.loop-i-test.true),
    )

pub loop-i-preserved : goal.loop-i-preserved
loop-i-preserved c =
    let f = c.product_of-f.result in
    let b = c.product_at.result in
    let e = c.product_count-n.ensures.value in
    let here = block_here f c.product_count-n.result c.loop-i.i b e c.product_at.ensures c.loop-i-test.true in (
      omega arith,
      measure_again c.args.p.set (product_list f) c.loop-i.i c.loop-i.k c.measure_behind-k.result b
          here (can-2 c) c.measure_behind-k.ensures c.loop-i.invariant.1,
    )

pub returns : goal.returns
returns c =
    let k = c.product_of-f.result in
    let a = c.args in record {
      value = measure_end a.p.set (product_list k) c.loop-i.i c.loop-i.k (omega (arith, count_is k, c.product_count-n.ensures.value)) c.loop-i.invariant.1
          ∙ ap length (product_bytes a.p a.ranges k c.product_of-f.ensures c.requires);
      upper_bound = omega (arith, c.loop-i.invariant.0, c.loop-i.invariant.1.few, c.product_count-n.ensures.upper_bound);
    }
