-- `tiled::touch` meets its contract. Assumes nothing.
use Rattle.implicit.specs.Step.{world_of}
use Rattle.implicit.proofs.TiledTests.{touch_damaged, touch_short, touch_table, touch_goes}
use mathlib.Core.Path.{ap}
use mathlib.Core.Bool.{not}
use Rattle.implicit.proofs.tiled.touch.Goals as goal

pub returns-then-not-sound : goal.returns-then-not-sound
returns-then-not-sound c =
    let a = c.args in
    touch_damaged a.room (world_of a.s a.ring.now a.cells.now) a.sound c.requires.0 (ap not c.if-not-sound.true)

pub returns-then-cells-pixel_count : goal.returns-then-cells-pixel_count
returns-then-cells-pixel_count c =
    let a = c.args in
    touch_short a.room (world_of a.s a.ring.now a.cells.now) a.sound c.requires.0 (ap not c.if-not-sound.false)
    c.pixel_count.result c.pixel_count.ensures c.if-cells-pixel_count.true

pub returns-then-not-has_room_for_tiles : goal.returns-then-not-has_room_for_tiles
returns-then-not-has_room_for_tiles c =
    let a = c.args in
    touch_table a.room (world_of a.s a.ring.now a.cells.now) a.sound c.requires.0 (ap not c.if-not-sound.false)
    c.pixel_count.result c.pixel_count.ensures c.if-cells-pixel_count.false c.has_room_for_tiles.result c.has_room_for_tiles.ensures (ap not c.if-not-has_room_for_tiles.true)

pub touch_front-requires : goal.touch_front-requires
touch_front-requires c = c.requires.1

pub returns : goal.returns
returns c =
    let a = c.args in
    touch_goes a.room (world_of a.s a.ring.now a.cells.now) a.sound c.requires.0 (ap not c.if-not-sound.false)
    c.pixel_count.result c.pixel_count.ensures c.if-cells-pixel_count.false c.has_room_for_tiles.result c.has_room_for_tiles.ensures (ap not c.if-not-has_room_for_tiles.false)
    c.touch_front.result c.touch_front.ensures
