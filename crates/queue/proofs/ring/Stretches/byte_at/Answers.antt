-- `byte_at` meets its contract: the first byte of the part. Assumes nothing.
use Rattle.std.proofs.Common.{length-append}
use Rattle.queue.proofs.RingLaws.{part_head}
use Rattle.queue.proofs.ring.Stretches.byte_at.Goals as goal

pub bounds-part-0 : goal.bounds-part-0
bounds-part-0 c = rw c.part.ensures.bytes (part_head _ _ c.args.at (rw length-append at c.requires)).0

pub returns : goal.returns
returns c = rw c.part.ensures.bytes (part_head _ _ c.args.at (rw length-append at c.requires)).1
