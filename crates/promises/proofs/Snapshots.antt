-- A world as `theory` sees it: what stands in the cell of each pixel, and the snapshot that `theory`'s laws are about. The promises name neither.
use mathlib.Core.List.{List}
use Rattle.theory.specs.Cells.{Standing, marked_true, given_up, named}
use Rattle.theory.specs.Runs.{Snapshot}
use Rattle.image.specs.Cell.{Cell, Named, Marked, GivenUp, Other, meanings}
use Rattle.image.specs.Painting.{pixel_cell}
use Rattle.queue.specs.declared.Block.{Block}
use Rattle.decide.specs.declared.Chosen.{Chosen}
use Rattle.implicit.specs.Step.{World}
use Rattle.promises.specs.Chart.{Pixel, queued_blocks}

-- what stands in a cell; damage, which no finished step leaves, decides nothing, as what is given up does not
unfoldable pub standing : Cell → Standing
standing (Named n) = named n
standing Marked = marked_true
standing GivenUp = given_up
standing (Other n) = given_up

-- what stands in the cell of a pixel
unfoldable pub standing_at : (p : Chosen) → List Cell → Pixel p → Standing
standing_at p l q = standing (pixel_cell p.width p.height q.x q.y l)

-- the snapshot of a world with the picture p
abbrev pub snapshot_of : (p : Chosen) → World → Snapshot Block (Pixel p)
snapshot_of p w = record { taken = w.state.taken; queue = queued_blocks w; cells = standing_at p (meanings w.cells) }
