-- `weigh_false` meets its contract. Assumes nothing.
use Rattle.image.proofs.PackLaws.{false_yes, false_not}
use Rattle.image.proofs.rows.weigh_false.Goals as goal

pub returns-then-high-last-eq0 : goal.returns-then-high-last-eq0
returns-then-high-last-eq0 c = let a = c.args in false_yes a.high a.low a.last c.if-high-last-eq0.true

pub returns-else-high-last-eq0 : goal.returns-else-high-last-eq0
returns-else-high-last-eq0 c = let a = c.args in false_not a.high a.low a.last c.if-high-last-eq0.false
