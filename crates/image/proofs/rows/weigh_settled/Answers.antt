-- `weigh_settled` meets its contract. Assumes nothing.
use native.Mathlib.Omega.{arith}
use Rattle.image.proofs.PackLaws.{one_of_two, settled_yes, settled_not}
use Rattle.image.proofs.rows.weigh_settled.Goals as goal

pub overflow_add-result : goal.overflow_add-result
overflow_add-result c = let a = c.args in record { fits = omega (arith, (one_of_two a.high a.low c.if-high-low-eq1.true).1) }

pub returns-then-high-low-eq1 : goal.returns-then-high-low-eq1
returns-then-high-low-eq1 c = let a = c.args in settled_yes a.high a.low c.if-high-low-eq1.true

pub returns-else-high-low-eq1 : goal.returns-else-high-low-eq1
returns-else-high-low-eq1 c = let a = c.args in settled_not a.high a.low c.if-high-low-eq1.false
