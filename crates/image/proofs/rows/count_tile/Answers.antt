-- `count_tile` meets its contract. Assumes nothing.
use mathlib.Core.Path.{◌≡◌, ap, ◌∙◌}
use mathlib.Core.List.{List}
use Prim.Native.Nat.{◌+◌}
use native.Mathlib.Nat.{zero-add}
use native.Mathlib.Omega.{arith}
use lib.ListN.{length, length-take}
use lib.Seq.{take_all}
use Rattle.image.specs.Cell.{Cell, meanings, tallied}
use Rattle.image.specs.Painting.{held_cells}
use Rattle.image.specs.RowsComputed.{packed_tally}
use Rattle.image.proofs.RegionLaws.{rows_from, rows_all}
use Rattle.image.proofs.PackLaws.{row_sixteen, tile_small, tile_summed, tile_end, tile_asks, tile_back}
use Rattle.image.proofs.rows.count_tile.Lts
use Rattle.image.proofs.rows.count_tile.Reads
use Rattle.image.proofs.rows.count_tile.Tie
use Rattle.image.proofs.rows.count_tile.Goals as goal

-- the sum with this row, and what is left, together
passed : (c : Lts.After-pack_row Tie.the-claims Reads.Pre Reads.Post goal.the-invariant-loop-row goal.the-decreases-loop-row)
    → let v = c.args.v in
    (c.loop-row.packed + c.pack_row-packed.result) + packed_tally (tallied (c.args.last + 1) (rows_from v.width v.r v.cells.now (c.loop-row.row + 1)))
    ≡ packed_tally (tallied (c.args.last + 1) (held_cells v.width v.r (meanings v.cells.now)))
passed c =
    let v = c.args.v in
    let sixteen = row_sixteen v.width v.r v.cells.now v.ready c.requires c.loop-row.row c.loop-row-test.true in
    tile_summed v.width v.r v.cells.now v.ready c.requires (c.args.last + 1) c.loop-row.packed c.pack_row-packed.result c.loop-row.row _ _ c.loop-row-test.true
    c.loop-row.invariant (take_all 16 c.row.result.now (omega (arith, sixteen, ap length c.row.ensures)) ∙ c.row.ensures) c.pack_row-packed.ensures

-- the sum of all rows
summed : (c : Lts.After-loop Tie.the-claims Reads.Pre Reads.Post goal.the-invariant-loop-row goal.the-decreases-loop-row)
    → let v = c.args.v in c.loop-row.packed ≡ packed_tally (tallied (c.args.last + 1) (held_cells v.width v.r (meanings v.cells.now)))
summed c =
    let v = c.args.v in
    tile_end v.width v.r v.cells.now v.ready c.requires (c.args.last + 1) c.loop-row.packed c.loop-row.row _ (omega arith) c.loop-row.invariant

pub loop-row-init : goal.loop-row-init
loop-row-init c =
    let v = c.args.v in
    zero-add (packed_tally (tallied (c.args.last + 1) (rows_from v.width v.r v.cells.now v.r.top)))
    ∙ ap (λ (l : List Cell). packed_tally (tallied (c.args.last + 1) l)) (rows_all v.width v.r v.cells.now)

pub slice_bounds-pack_row-end : goal.slice_bounds-pack_row-end
slice_bounds-pack_row-end c =
    let v = c.args.v in
    omega (arith, row_sixteen v.width v.r v.cells.now v.ready c.requires c.loop-row.row c.loop-row-test.true, ap length c.row.ensures, length-take 16 c.row.result.now)

pub overflow_add-packed : goal.overflow_add-packed
overflow_add-packed c =
    let v = c.args.v in
    record { fits = omega (arith, passed c, tile_small v.width v.r v.cells.now v.ready c.requires (c.args.last + 1)) }

pub returns-then-packed-gt536870912 : goal.returns-then-packed-gt536870912
returns-then-packed-gt536870912 c =
    let v = c.args.v in
    absurd (omega (arith, c.if-packed-gt536870912.true, passed c.before.before, tile_small v.width v.r v.cells.now v.ready c.requires (c.args.last + 1)))

pub loop-row-preserved : goal.loop-row-preserved
loop-row-preserved c = passed c.before

pub unpack-requires : goal.unpack-requires
unpack-requires c =
    let v = c.args.v in
    tile_asks v.width v.r v.cells.now v.ready c.requires (c.args.last + 1) c.loop-row.packed (summed c)

pub returns : goal.returns
returns c =
    let v = c.args.v in
    c.unpack.ensures ∙ tile_back v.width v.r v.cells.now v.ready c.requires (c.args.last + 1) c.loop-row.packed (summed c.before)
