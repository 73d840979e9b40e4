-- `get` meets its contract: the first byte of the part, if it has one. Assumes nothing.
use Rattle.std.proofs.Common.{◌∙◌}
use Rattle.queue.proofs.RingLaws.{part_first}
use Rattle.queue.proofs.ring.Stretches.get.Goals as goal

pub returns : goal.returns
returns c = c.copied.ensures ∙ rw c.part.ensures.bytes at c.first.ensures.value ∙ part_first _ _ c.args.at
