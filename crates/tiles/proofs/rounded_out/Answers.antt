-- `rounded_out` meets its contract. Assumes nothing.
use native.Mathlib.Omega.{arith}
use Rattle.image.proofs.RangeLaws.{within}
use Rattle.tiles.specs.Tiles.{touched_tiles}
use Rattle.tiles.proofs.rounded_out.Goals as goal

pub tiles_along-requires : goal.tiles_along-requires
tiles_along-requires c = let a = c.args in omega (arith, (within a.width a.height a.r c.requires.2).right)

pub overflow_mul-tiles_along : goal.overflow_mul-tiles_along
overflow_mul-tiles_along c = let a = c.args in omega (arith, (within a.width a.height a.r c.requires.2).right)

pub tiles_along-requires-2 : goal.tiles_along-requires-2
tiles_along-requires-2 c =
    let a = c.args in
    omega (arith, (within a.width a.height a.r c.requires.2).bottom)

pub overflow_mul-tiles_along-2 : goal.overflow_mul-tiles_along-2
overflow_mul-tiles_along-2 c =
    let a = c.args in
    omega (arith, (within a.width a.height a.r c.requires.2).bottom)

pub returns : goal.returns
unfolding touched_tiles
returns c = cc
