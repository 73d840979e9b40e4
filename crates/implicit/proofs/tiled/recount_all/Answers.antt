-- `tiled::recount_all` meets its contract. Assumes nothing.
use mathlib.Core.Path.{ap, ◌∙◌}
use Rattle.image.specs.declared.PixelRange.{PixelRange}
use Rattle.tiles.specs.Tiles.{table_recounted}
use Rattle.implicit.proofs.tiled.recount_all.Goals as goal

pub returns : goal.returns
returns c =
    let a = c.args in
    c.recount.ensures.table_after
    ∙ ap (λ (r : PixelRange). table_recounted a.p.width a.p.height r a.taken a.cells.now a.table.now) c.whole-all.ensures
