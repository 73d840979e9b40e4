-- A picture being refined, in the words of `theory`: where a block lies, which pixels it covers, and the queued blocks, which are those that the
-- ring's bytes decode to.
use Rattle.std.specs.Prelude.{Bool, List, ◌-◌}
use Rattle.theory.specs.Levels.{BlockPlace, place_at}
use Rattle.theory.specs.Shapes.{PixelIn, covers_by_place}
use Rattle.queue.specs.declared.Block.{Block}
use Rattle.queue.specs.Ring.{content}
use Rattle.queue.specs.Queue.{queue_of}
use Rattle.decide.specs.declared.Chosen.{Chosen}
use Rattle.implicit.specs.Step.{World}

-- a pixel of the picture: x from the left, y from the bottom
abbrev pub Pixel : Chosen → Type 0
Pixel p = PixelIn p.width p.height

-- where a block lies: its indices and its rank; the rank of a pixel's level is 48
abbrev pub place_of_block : Block → BlockPlace
place_of_block b = place_at b.x.index b.y.index b.x.rank

-- the block covers the pixel
abbrev pub covers_in : (p : Chosen) → Block → Pixel p → Bool
covers_in p = covers_by_place p.width p.height 48 place_of_block

-- the queued blocks, from the front
unfoldable pub queued_blocks : World → List Block
queued_blocks w =
    queue_of w.state.chosen.set w.state.front (w.state.queued - w.state.taken) (content w.ring w.state.head w.state.used)
