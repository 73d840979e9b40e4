-- `float::plus_zero` meets its contract. Assumes nothing.
use Rattle.std.proofs.Common.{false}
use lib.Ieee.{of_bits}
use Rattle.interval.proofs.Zeros.{zero_yes, zero_no}
use Rattle.interval.proofs.float.plus_zero.Goals as goal

pub returns-then-x : goal.returns-then-x
unfolding of_bits
returns-then-x c = zero_yes false c.args.x c.if-x.true

pub returns-else-x : goal.returns-else-x
returns-else-x c = zero_no false c.args.x c.if-x.false
