-- `whole_line` meets its contract: the two patterns are computed. Assumes nothing.
use Rattle.std.proofs.Common.{refl}
use lib.Ieee.{of_bits}
use Rattle.interval.proofs.whole_line.Goals as goal

pub returns : goal.returns
unfolding of_bits
returns c = refl
