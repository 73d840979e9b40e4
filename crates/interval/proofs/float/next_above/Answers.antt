-- `float::next_above` meets its contract. Assumes nothing.
use Rattle.std.proofs.Common.{ap}
use lib.Ieee.{neg}
use Rattle.interval.specs.Next.{next_above}
use Rattle.interval.proofs.float.next_above.Goals as goal

pub returns : goal.returns
unfolding next_above
returns c = ap neg c.next_below.ensures
