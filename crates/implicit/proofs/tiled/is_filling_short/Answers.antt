-- `tiled::is_filling_short` meets its contract. Assumes nothing.
use Rattle.implicit.proofs.TiledBegin.{filling_test}
use Rattle.implicit.proofs.tiled.is_filling_short.Goals as goal

pub returns : goal.returns
returns c =
    filling_test _ _ _ _ _ _ _ c.is_sound.ensures c.pixel_count.ensures c.has_room_for_tiles.ensures
