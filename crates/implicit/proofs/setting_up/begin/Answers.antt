-- `setting_up::begin` meets its contract. Assumes nothing.
use mathlib.Core.Path.{◌≡◌}
use native.Mathlib.Omega.{arith}
use lib.Ieee.{binary64, fits}
use lib.ListN.{length}
use denote.Floats.{passes}
use Rattle.implicit.specs.Setup.{first_blocks}
use Rattle.implicit.proofs.SetupLawsBlocks.{RangesHeld, first_count}
use Rattle.implicit.proofs.SetupLawsRefusal.{Accepted, accepted}
use Rattle.implicit.proofs.SetupLawsStart.{count_first, length_start, record_made, cells_made}
use Rattle.implicit.proofs.setting_up.begin.Lts
use Rattle.implicit.proofs.setting_up.begin.Reads
use Rattle.implicit.proofs.setting_up.begin.Tie
use Rattle.implicit.proofs.setting_up.begin.Goals as goal

-- the ranges are of f64s
held : (c : goal.After-paint-arg-1) → RangesHeld c.args.ranges
held c =
    let r = c.args.ranges in
    let g = c.well_formed.1.0.1.1 in (
      (passes (fits binary64 r.m.lower) g.0.1.1.0.1, passes (fits binary64 r.m.upper) g.0.1.1.1.0.1),
      (passes (fits binary64 r.n.lower) g.1.0.1.1.0.1, passes (fits binary64 r.n.upper) g.1.0.1.1.1.0.1),
      (passes (fits binary64 r.theta.lower) g.1.1.0.1.1.0.1, passes (fits binary64 r.theta.upper) g.1.1.0.1.1.1.0.1),
      (passes (fits binary64 r.t.lower) g.1.1.1.0.1.1.0.1, passes (fits binary64 r.t.upper) g.1.1.1.0.1.1.1.0.1),
    )

-- what the setup has passed
passed : (c : Lts.Start Tie.the-claims Reads.Pre Reads.Post Tie.handed_clauses) → Accepted c.args.p c.args.ranges (length c.args.ring.now) (length c.args.cells.now)
passed c = accepted c.args.p c.args.ranges (length c.args.ring.now) (length c.args.cells.now) c.requires

-- the number of the first blocks
counted : (c : Lts.After-product_count Tie.the-claims Reads.Pre Reads.Post Tie.handed_clauses) → let a = c.args in c.product_count-queued.result ≡ length (first_blocks a.p a.ranges)
counted c = count_first _ _ _ _ (passed c.before.before.before.before.before.before.before.before).ranges c.product_of.ensures c.product_count-queued.ensures.value

pub queue_first-k-requires : goal.queue_first-k-requires
queue_first-k-requires c = let a = passed c.before.before.before.before in (a.ranges, a.room)

pub overflow_sub-queued : goal.overflow_sub-queued
overflow_sub-queued c =
    omega (arith, counted c.before.before.before, (first_count c.args.p c.args.ranges (held c) (passed c.before.before.before.before.before.before.before.before.before.before.before).ranges).0)

pub returns : goal.returns
returns c =
    let a = c.args in
    let ring = c.queue_first-k.ensures.1 in
    let count = c.product_count-queued.result in record {
      value = record_made a.p a.ranges count _ (length a.ring.now) c.queue_first-k.result c.starting_last.result (counted c.before.before.before.before.before.before.before.before)
          (length_start a.p a.ranges a.ring.now _ ring) c.queue_first-k.ensures.0 c.starting_last.ensures;
      ring_after = ring;
      cells_after = cells_made a.p a.ranges count c.whole-all.result a.cells.now c.paint.new.cells (counted c.before.before.before.before.before.before.before.before) c.whole-all.ensures c.paint.ensures.cells_after;
    }
