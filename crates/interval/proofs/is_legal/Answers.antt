-- `is_legal` meets its contract: the infinities' patterns are computed. Assumes nothing.
use Rattle.std.proofs.Common.{refl}
use lib.Ieee.{of_bits}
use Rattle.interval.specs.Bounds.{legal_interval}
use Rattle.interval.proofs.is_legal.Goals as goal

pub returns : goal.returns
unfolding legal_interval of_bits
returns c = rw (c.is_whole.ensures, c.is_whole-2.ensures) refl
