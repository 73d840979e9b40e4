-- `tiled::fill_table` meets its contract. Assumes nothing.
use mathlib.Core.Path.{refl}
use Rattle.std.proofs.lemmas.Result.{err_from_is_err_and}
use Rattle.implicit.proofs.TiledBegin.{fill_short, fill_refused, fill_done}
use Rattle.implicit.proofs.tiled.fill_table.Goals as goal

pub returns-then-is_filling_short : goal.returns-then-is_filling_short
returns-then-is_filling_short c =
    let a = c.args in
    let b = fill_short a.s a.cells.now a.table.now c.is_filling_short.result c.is_filling_short.ensures c.if-is_filling_short.true in
    record { value = b.0; table_after = b.1 }

pub returns : goal.returns
returns c =
    let a = c.args in
    let b = fill_done a.s a.cells.now a.table.now c.is_filling_short.result c.is_filling_short.ensures c.if-is_filling_short.false
    c.pixel_count.result c.pixel_count.ensures _ c.in_ok-examine.ensures c.recount_all.new.table refl c.recount_all.ensures in
    record { value = b.0; table_after = b.1 }

pub returns-in_err-examine : goal.returns-in_err-examine
returns-in_err-examine c =
    let a = c.args in
    let b = fill_refused a.s a.cells.now a.table.now c.is_filling_short.result c.is_filling_short.ensures c.if-is_filling_short.false
    c.pixel_count.result c.pixel_count.ensures _ c.in_err-examine.ensures _ refl in
    let e = err_from_is_err_and c.from_residual.result c.from_residual.ensures.1 in rw (e.1, e.2) (record { value = b.0; table_after = b.1 })
