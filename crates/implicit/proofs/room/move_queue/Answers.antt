-- `room::move_queue` meets its contract. Assumes nothing.
use Rattle.std.specs.Prelude.{Ok, Err}
use Rattle.std.proofs.Common.{sym, ◌∙◌}
use Rattle.implicit.proofs.RoomLaws.{move_damaged, move_by}
use Rattle.implicit.proofs.room.move_queue.Goals as goal

pub returns-then-not-is_sound : goal.returns-then-not-is_sound
returns-then-not-is_sound c = let a = c.args in move_damaged a.s a.ring.now a.other.now (sym c.if-not-is_sound.ensures)

pub returns-in-Ok : goal.returns-in-Ok
returns-in-Ok c =
    let a = c.args in
    rw c.move_record.ensures
    (move_by a.s a.ring.now a.other.now (sym c.if-not-is_sound.ensures) (Ok tt) _ (sym c.in-Ok.is ∙ c.copy.ensures.value)
    c.copy.ensures.other_after)

pub returns-in-Err : goal.returns-in-Err
returns-in-Err c =
    let a = c.args in
    rw c.from.ensures
    (move_by a.s a.ring.now a.other.now (sym c.if-not-is_sound.ensures) (Err c.in-Err.why) _ (sym c.in-Err.is ∙ c.copy.ensures.value)
    c.copy.ensures.other_after)
