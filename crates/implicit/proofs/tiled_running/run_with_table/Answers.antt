-- `tiled_running::run_with_table` meets its contract. Assumes nothing.
use Rattle.implicit.proofs.TiledRun.{tiled_damaged, tiled_short, tiled_table, tiled_begins, tiled_done}
use mathlib.Core.Path.{ap}
use mathlib.Core.Bool.{not}
use Rattle.implicit.proofs.tiled_running.run_with_table.Goals as goal

pub returns-then-not-is_sound : goal.returns-then-not-is_sound
returns-then-not-is_sound c =
    let a = c.args in
    tiled_damaged a.budget a.s a.ring.now a.cells.now a.tape.now a.table.now c.is_sound.result c.is_sound.ensures (ap not c.if-not-is_sound.true)

pub returns-then-cells-pixel_count : goal.returns-then-cells-pixel_count
returns-then-cells-pixel_count c =
    let a = c.args in
    tiled_short a.budget a.s a.ring.now a.cells.now a.tape.now a.table.now c.is_sound.result c.is_sound.ensures
    (ap not c.if-not-is_sound.false) c.pixel_count.result c.pixel_count.ensures c.if-cells-pixel_count.true

pub returns-then-not-has_room_for_tiles : goal.returns-then-not-has_room_for_tiles
returns-then-not-has_room_for_tiles c =
    let a = c.args in
    tiled_table a.budget a.s a.ring.now a.cells.now a.tape.now a.table.now c.is_sound.result c.is_sound.ensures
    (ap not c.if-not-is_sound.false) c.pixel_count.result c.pixel_count.ensures c.if-cells-pixel_count.false c.has_room_for_tiles.result c.has_room_for_tiles.ensures
    (ap not c.if-not-has_room_for_tiles.true)

pub take_tiled_steps-ending-requires : goal.take_tiled_steps-ending-requires
take_tiled_steps-ending-requires c =
    let a = c.args in
    tiled_begins a.budget a.s a.ring.now a.cells.now a.tape.now a.table.now c.is_sound.result c.is_sound.ensures
    (ap not c.if-not-is_sound.false) c.pixel_count.result c.pixel_count.ensures c.if-cells-pixel_count.false c.has_room_for_tiles.result c.has_room_for_tiles.ensures
    (ap not c.if-not-has_room_for_tiles.false)

pub returns : goal.returns
returns c =
    let a = c.args in
    tiled_done a.budget a.s a.ring.now a.cells.now a.tape.now a.table.now c.is_sound.result c.is_sound.ensures
    (ap not c.if-not-is_sound.false) c.pixel_count.result c.pixel_count.ensures c.if-cells-pixel_count.false c.has_room_for_tiles.result c.has_room_for_tiles.ensures
    (ap not c.if-not-has_room_for_tiles.false) _ c.report.result _ _ _ c.take_tiled_steps-ending.ensures.run_to c.report.ensures
    c.take_tiled_steps-ending.ensures.table_after
