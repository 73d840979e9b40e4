-- `commit::paint_at` meets its contract. Assumes nothing.
use mathlib.Core.Path.{ap, ◌∙◌}
use Rattle.image.specs.declared.PixelRange.{PixelRange}
use Rattle.image.specs.Painting.{painted_cells}
use Rattle.implicit.proofs.commit.paint_at.Goals as goal

pub returns : goal.returns
returns c =
    let a = c.args in
    c.paint.ensures.cells_after
    ∙ ap (λ (r : PixelRange). painted_cells a.p.width a.p.height r a.op a.cells.now) c.rectangle-r.ensures
