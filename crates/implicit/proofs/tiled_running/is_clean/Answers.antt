-- `tiled_running::is_clean` meets its contract. Assumes nothing.
use borrow.Author.Tests.{leb-true}
use Rattle.implicit.proofs.TiledTests.{not_looked, looked}
use Rattle.implicit.proofs.tiled_running.is_clean.Goals as goal

pub returns-then-looked-pixel_count : goal.returns-then-looked-pixel_count
returns-then-looked-pixel_count c =
    let a = c.args in
    not_looked a.budget a.s a.cells.now c.pixel_count.result c.pixel_count.ensures c.if-looked-pixel_count.true

pub are_sound_cells-requires : goal.are_sound_cells-requires
are_sound_cells-requires c = leb-true _ _ c.requires

pub returns : goal.returns
returns c =
    let a = c.args in
    looked a.budget a.s a.cells.now c.pixel_count.result c.pixel_count.ensures c.if-looked-pixel_count.false
    c.are_sound_cells.result c.are_sound_cells.ensures
