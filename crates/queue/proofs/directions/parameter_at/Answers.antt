-- `parameter_at` meets its contract: a law for each place. Assumes nothing.
use Rattle.queue.proofs.DirectionLaws.{m_at, n_at, theta_at, t_at, beyond_all}
use Rattle.queue.proofs.directions.parameter_at.Goals as goal

pub returns-then-at-m : goal.returns-then-at-m
returns-then-at-m c =
    m_at c.args.set c.args.at _ c.count_of-m.ensures.value c.if-at-m.true

pub returns-then-at-n : goal.returns-then-at-n
returns-then-at-n c =
    n_at c.args.set c.args.at _ c.count_of-m.ensures.value _ c.count_of.ensures.value
    c.if-at-m.false c.if-at-n.true

pub returns-then-at-theta : goal.returns-then-at-theta
returns-then-at-theta c =
    theta_at c.args.set c.args.at _ c.count_of-m.ensures.value _ c.count_of.ensures.value _
    c.count_of-2.ensures.value c.if-at-n.false c.if-at-theta.true

pub returns-then-at-t : goal.returns-then-at-t
returns-then-at-t c =
    t_at c.args.set c.args.at _ c.count_of-m.ensures.value _ c.count_of.ensures.value _
    c.count_of-2.ensures.value _ c.count_of-3.ensures.value c.if-at-theta.false c.if-at-t.true

pub returns : goal.returns
returns c =
    beyond_all c.args.set c.args.at _ c.count_of-m.ensures.value _ c.count_of.ensures.value _
    c.count_of-2.ensures.value _ c.count_of-3.ensures.value c.if-at-t.false
