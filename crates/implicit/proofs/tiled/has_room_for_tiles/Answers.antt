-- `tiled::has_room_for_tiles` meets its contract. Assumes nothing.
use mathlib.Core.Path.{ap}
use Prim.Native.Nat.{ℕ, ◌*◌}
use native.Mathlib.Omega.{arith}
use lib.Dec.{leb}
use Rattle.tiles.proofs.TileLaws.{tiles_few}
use Rattle.implicit.proofs.tiled.has_room_for_tiles.Goals as goal

pub overflow_mul-result : goal.overflow_mul-result
overflow_mul-result c = let p = c.args.p in omega (arith, tiles_few p.width p.height (omega arith) (omega arith), c.tile_count.ensures)

pub returns : goal.returns
returns c = ap (λ (n : ℕ). leb (4 * n) c.args.room) c.tile_count.ensures
