-- `room::step_growth` meets its contract. Assumes nothing.
use native.Mathlib.Omega.{arith}
use lib.Dec.{lit≤}
use Rattle.implicit.proofs.RoomLaws.{growth_none, growth_some}
use Rattle.implicit.proofs.room.step_growth.Goals as goal

pub returns-then-count-eq0 : goal.returns-then-count-eq0
returns-then-count-eq0 c = let n = c.parameter_count-count in record { value = growth_none c.args.set n.result n.ensures.value c.if-count-eq0.true; upper_bound = lit≤ tt }

pub returns : goal.returns
returns c =
    let n = c.parameter_count-count in record { value = growth_some c.args.set n.result n.ensures.value c.if-count-eq0.false; upper_bound = omega (arith, n.ensures.upper_bound) }
