-- `tiles_of` meets its contract. Assumes nothing.
use native.Mathlib.Omega.{arith}
use Rattle.image.proofs.RangeLaws.{within}
use Rattle.tiles.proofs.tiles_of.Goals as goal

pub tiles_along-requires : goal.tiles_along-requires
tiles_along-requires c = let a = c.args in omega (arith, (within a.width a.height a.r c.requires.2).right)

pub tiles_along-requires-2 : goal.tiles_along-requires-2
tiles_along-requires-2 c = let a = c.args in omega (arith, (within a.width a.height a.r c.requires.2).bottom)
