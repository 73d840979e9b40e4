-- `write::put_rows` meets its contract: the text with the rows left is the whole text. Assumes nothing.
use Rattle.std.proofs.Common.{◌+◌, arith, length}
use Rattle.sheet.proofs.RowLaws.{row_room, row_put}
use Rattle.sheet.proofs.write.put_rows.Goals as goal

pub loop-y-preserved : goal.loop-y-preserved
loop-y-preserved g c =
    let a = c.args in
    let l = c.loop-y in
    let e = c.split_at.ensures in
    let more = c.loop-y-test.true in
    record {
      pixels = omega (arith, e.back_len, row_room 0 a.width a.height l._y (length l.rest.now) more (omega (arith, l.invariant.pixels)));
      room = omega (arith, e.front_len, c.put_row.ensures.size, row_room (length l.text) (a.width + 1) a.height l._y g.row.N more l.invariant.room);
      shown = row_put a.width a.height l._y l.rest.now _ _ l.text _ _ more e.front e.back c.put_row.ensures.text l.invariant.shown;
    }
