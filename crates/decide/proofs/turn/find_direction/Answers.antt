-- `decide::turn::find_direction` meets its contract. Assumes nothing.
use Rattle.decide.proofs.TurnLaws.{find_xy, find_nothing}
use Rattle.decide.proofs.turn.find_direction.Goals as goal

pub returns-then-c-is_used : goal.returns-then-c-is_used
returns-then-c-is_used c =
    let a = c.args in
    find_xy a.p a.c a.from c.if-p-eq0.true (rw (← c.is_used.ensures) c.if-c-is_used.true)

pub returns-else-c-is_used : goal.returns-else-c-is_used
returns-else-c-is_used c =
    let a = c.args in
    find_nothing a.p a.c a.from c.if-p-eq0.true (rw (← c.is_used.ensures) c.if-c-is_used.false)
