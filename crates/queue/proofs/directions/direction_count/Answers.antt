-- `direction_count` meets its contract: the sum of the counts is the length of the list. Assumes nothing.
use Rattle.queue.proofs.DirectionLaws.{directions_length}
use Rattle.queue.proofs.directions.direction_count.Goals as goal

pub returns : goal.returns
returns c =
    directions_length c.args.set _ _ _ _
    c.count_of-m.ensures.value
    c.count_of-n.ensures.value
    c.count_of-theta.ensures.value
    c.count_of-t.ensures.value
    _
    c.count_of-xy.ensures.value
