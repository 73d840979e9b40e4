-- `tiled::touch_block` meets its contract. Assumes nothing.
use Rattle.implicit.proofs.TiledTests.{block_touch, block_clean}
use Rattle.implicit.proofs.tiled.touch_block.Goals as goal

pub returns-then-clean : goal.returns-then-clean
returns-then-clean c =
    let a = c.args in
    block_clean a.clean a.p a.cells.now a.b _ c.requires c.if-clean.true c.rectangle-r.ensures

pub returns-then-unwrap_or : goal.returns-then-unwrap_or
returns-then-unwrap_or c =
    let a = c.args in
    rw c.if-unwrap_or.true at (block_touch a.p a.cells.now a.b _ _ _ c.rectangle-r.ensures c.holds_damage.ensures c.unwrap_or.ensures)

pub returns : goal.returns
returns c =
    let a = c.args in
    rw c.if-unwrap_or.false at (block_touch a.p a.cells.now a.b _ _ _ c.rectangle-r.ensures c.holds_damage.ensures c.unwrap_or.ensures)
