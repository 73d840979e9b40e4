-- `recount_row` meets its contract. Assumes nothing.
use mathlib.Core.Path.{refl, sym, ap, ◌∙◌}
use Prim.Native.Nat.{◌+◌, ◌*◌}
use native.Mathlib.Omega.{arith}
use lib.Dec.{eqb}
use lib.ListN.{length}
use Rattle.image.specs.Cell.{meanings}
use Rattle.tiles.specs.Tiles.{tiles_along}
use Rattle.tiles.proofs.RecountLaws.{recount_length, tile_turn, tile_end}
use Rattle.tiles.proofs.counting.recount_row.Goals as goal

pub loop-column-init : goal.loop-column-init
loop-column-init c = (omega arith, omega arith, refl, refl)

pub recount_tile-requires : goal.recount_tile-requires
recount_tile-requires c =
    let ready = c.requires.tiles_ready in
    record {
      tiles_ready = record { pixels = ready.pixels; numbers = omega (arith, ready.numbers, c.loop-column.invariant.2) };
      column_bound = (omega (arith, c.loop-column-test.true, c.requires.left_le_right.1), c.requires.left_le_right.2);
    }

pub loop-column-preserved : goal.loop-column-preserved
loop-column-preserved c =
    let l = c.loop-column in
    let a = c.args in
    let start = a.row * tiles_along a.width in
    let first = start + l.column in
    let y = c.recount_tile in
    let after = y.new.table in (
      omega (arith, l.invariant.0),
      omega (arith, c.loop-column-test.true),
      ap length y.ensures ∙ recount_length (λ k. eqb k first) a.width a.height a.taken (meanings a.cells.now) l.table ∙ l.invariant.2,
      tile_turn a.width a.height a.taken (meanings a.cells.now) first (start + a.right) (start + (l.column + 1))
          l.table after (omega (arith, c.loop-column-test.true)) (omega arith) y.ensures ∙ l.invariant.3,
    )

pub returns : goal.returns
returns c =
    let l = c.loop-column in
    let a = c.args in
    let start = a.row * tiles_along a.width in
    sym (tile_end a.width a.height a.taken (meanings a.cells.now) (start + l.column) (start + a.right) l.table
    (omega (arith, c.loop-column-test.false))) ∙ l.invariant.3
