-- `float::is_finite` meets its contract. Assumes nothing.
use lib.Ieee.{of_bits}
use Rattle.interval.proofs.FiniteEnds.{finite_order}
use Rattle.interval.proofs.float.is_finite.Goals as goal

pub returns : goal.returns
unfolding of_bits
returns c = finite_order c.args.x
