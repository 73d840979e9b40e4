-- `recount_tile` meets its contract. Assumes nothing.
use mathlib.Core.Path.{◌≡◌, ap}
use Prim.Native.Nat.{ℕ, ◌+◌, ◌*◌, ◌≤◌}
use native.Mathlib.Omega.{arith}
use lib.ListN.{length}
use Rattle.image.specs.Cell.{meanings, tallied}
use Rattle.image.specs.Painting.{held_cells}
use Rattle.tiles.specs.TilesComputed.{tile_in}
use Rattle.tiles.proofs.TileLaws.{tile_below, tile_counted, tile_small, never_outside}
use Rattle.tiles.proofs.RecountLaws.{tile_recounted}
use Rattle.tiles.proofs.counting.recount_tile.Lts
use Rattle.tiles.proofs.counting.recount_tile.Reads
use Rattle.tiles.proofs.counting.recount_tile.Tie
use Rattle.tiles.proofs.counting.recount_tile.Goals as goal

-- its four numbers lie in the table
room : (c : Lts.After-tiles_along Tie.the-claims Reads.Pre Reads.Post Tie.handed_clauses)
    → let a = c.args in 4 * (a.row * c.tiles_along.result + a.column) + 4 ≤ length a.table.now
room c =
    let a = c.args in
    omega (
      arith,
      c.requires.tiles_ready.numbers,
      tile_below a.width a.height a.column a.row c.requires.column_bound.0 c.requires.column_bound.1,
      ap (λ (n : ℕ). a.row * n) c.tiles_along.ensures,
    )

-- what was counted are the tile's numbers
counted : (c : Lts.After-put_numbers-arg Tie.the-claims Reads.Pre Reads.Post Tie.handed_clauses)
    → let a = c.args in
    c.in-Some.tally ≡ tallied a.taken (held_cells a.width (tile_in a.width a.height a.column a.row) (meanings a.cells.now))
counted c =
    let a = c.args in
    tile_counted a.width a.height a.column a.row a.taken a.cells.now c.tile_in-tile.result c.count.result
    c.in-Some.tally c.requires.column_bound.0 c.requires.column_bound.1 c.requires.tiles_ready.pixels c.tile_in-tile.ensures c.count.ensures c.in-Some.is

pub overflow_mul-at : goal.overflow_mul-at
overflow_mul-at c = omega (arith, room c.before)

pub overflow_add-at : goal.overflow_add-at
overflow_add-at c = omega (arith, room c.before)

pub overflow_mul-at-2 : goal.overflow_mul-at-2
overflow_mul-at-2 c = omega (arith, room c.before)

pub returns-in_default : goal.returns-in_default
returns-in_default c =
    let a = c.args in
    absurd (never_outside a.width a.height a.column a.row a.taken a.cells.now c.tile_in-tile.result c.count.result
    c.requires.column_bound.0 c.requires.column_bound.1 c.requires.tiles_ready.pixels c.tile_in-tile.ensures c.count.ensures c.in_default.is)

pub put_numbers-requires : goal.put_numbers-requires
put_numbers-requires c =
    let a = c.args in
    let small = tile_small a.width a.height a.column a.row a.taken a.cells.now c.requires.column_bound.0 c.requires.column_bound.1 c.requires.tiles_ready.pixels in
    (room c.before.before.before.before, rw (counted c.before) small)

pub returns : goal.returns
returns c =
    let a = c.args in
    tile_recounted a.width a.height a.column a.row a.taken c.tiles_along.result (meanings a.cells.now) c.in-Some.tally
    a.table.now c.put_numbers.new.table c.requires.column_bound.0 c.requires.column_bound.1 c.requires.tiles_ready.numbers c.tiles_along.ensures
    (counted c.before.before.before.before) c.put_numbers.ensures
