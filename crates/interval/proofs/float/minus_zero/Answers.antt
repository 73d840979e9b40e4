-- `float::minus_zero` meets its contract. Assumes nothing.
use Rattle.std.proofs.Common.{true}
use lib.Ieee.{of_bits, neg}
use Rattle.interval.proofs.Zeros.{zero_yes, zero_no}
use Rattle.interval.proofs.float.minus_zero.Goals as goal

pub returns-then-x : goal.returns-then-x
unfolding of_bits neg
returns-then-x c = zero_yes true c.args.x c.if-x.true

pub returns-else-x : goal.returns-else-x
returns-else-x c = zero_no true c.args.x c.if-x.false
