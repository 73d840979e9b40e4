-- `is_recountable` meets its contract. Assumes nothing.
use Rattle.tiles.specs.Tiles.{recountable}
use Rattle.tiles.proofs.is_recountable.Goals as goal

pub returns : goal.returns
unfolding recountable
returns c = cc
