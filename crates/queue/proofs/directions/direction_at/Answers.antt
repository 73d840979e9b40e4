-- `direction_at` meets its contract. Assumes nothing.
use mathlib.Core.Path.{sym, ◌∙◌}
use Rattle.queue.specs.declared.directions.Direction.TheVariants as D
use Rattle.queue.specs.Directions.{directions, parameters}
use Rattle.queue.proofs.DirectionLaws.{at_first, at_later}
use Rattle.queue.proofs.directions.direction_at.Goals as goal

pub returns-then-at-xy : goal.returns-then-at-xy
unfolding directions
returns-then-at-xy c =
    sym (at_first c.args.set D.XY parameters c.args.at _ c.count_of-xy.ensures.value c.if-at-xy.true)

pub returns : goal.returns
unfolding directions
returns c =
    c.parameter_at.ensures
    ∙ sym (at_later c.args.set D.XY parameters c.args.at _ c.count_of-xy.ensures.value c.if-at-xy.false)
