-- `tiled::setup_with_table` meets its contract. Assumes nothing.
use mathlib.Core.Path.{refl}
use Rattle.std.proofs.lemmas.Result.{err_from_is_err_and}
use Rattle.implicit.specs.Setup.{cleared}
use Rattle.implicit.proofs.SetupLawsStart.{begins}
use Rattle.implicit.proofs.TiledBegin.{setup_short, setup_refused, setup_filled}
use Rattle.implicit.proofs.tiled.setup_with_table.Goals as goal

pub returns-then-is_table_short : goal.returns-then-is_table_short
returns-then-is_table_short c =
    let a = c.args in
    let b = setup_short (cleared a.chosen) a.ranges a.ring.now a.cells.now a.table.now c.is_table_short.result c.is_table_short.ensures
    c.if-is_table_short.true in record { value = b.0; ring_after = b.1.0; cells_after = b.1.1.0; table_after = b.1.1.1 }

pub begin-s-requires : goal.begin-s-requires
begin-s-requires c = let a = c.args in begins c.clear-p.result c.clear-p.result refl a.ranges a.ring.now a.cells.now c.in_ok-check_setup.ensures

pub returns : goal.returns
returns c =
    let a = c.args in
    let s = c.begin-s in
    let b = setup_filled (cleared a.chosen) a.ranges a.ring.now a.cells.now a.table.now c.is_table_short.result c.is_table_short.ensures
    c.if-is_table_short.false c.clear-p.result s.result s.new.ring s.new.cells c.recount_all.new.table c.clear-p.ensures c.in_ok-check_setup.ensures
    s.ensures.value s.ensures.ring_after s.ensures.cells_after c.recount_all.ensures in
    record { value = b.0; ring_after = b.1.0; cells_after = b.1.1.0; table_after = b.1.1.1 }

pub returns-in_err-check_setup : goal.returns-in_err-check_setup
returns-in_err-check_setup c =
    let a = c.args in
    let b = setup_refused (cleared a.chosen) a.ranges a.ring.now a.cells.now a.table.now c.is_table_short.result c.is_table_short.ensures
    c.if-is_table_short.false c.clear-p.result _ c.clear-p.ensures c.in_err-check_setup.ensures in
    let e = err_from_is_err_and c.from_residual.result c.from_residual.ensures.1 in
    rw (e.1, e.2) (record { value = b.0; ring_after = b.1.0; cells_after = b.1.1.0; table_after = b.1.1.1 })
