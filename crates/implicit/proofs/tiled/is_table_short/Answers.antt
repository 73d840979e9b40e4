-- `tiled::is_table_short` meets its contract. Assumes nothing.
use Rattle.implicit.proofs.TiledBegin.{table_test}
use Rattle.implicit.proofs.tiled.is_table_short.Goals as goal

pub returns : goal.returns
returns c =
    table_test _ _ _ _ _ _ _ _ _ c.is_legal_side.ensures c.is_legal_side-2.ensures c.pixel_count.ensures
    c.has_room_for_tiles.ensures
