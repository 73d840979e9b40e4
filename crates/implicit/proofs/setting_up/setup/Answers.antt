-- `setting_up::setup` meets its contract. Assumes nothing.
use mathlib.Core.Path.{refl}
use Rattle.std.proofs.lemmas.Result.{err_from_is_err_and}
use Rattle.implicit.specs.Setup.{cleared}
use Rattle.implicit.proofs.SetupLawsStart.{begins, begun, not_begun}
use Rattle.implicit.proofs.setting_up.setup.Goals as goal

pub begin-requires : goal.begin-requires
begin-requires c = let a = c.args in begins c.clear-p.result c.clear-p.result refl a.ranges a.ring.now a.cells.now c.in_ok-check_setup.ensures

pub returns : goal.returns
returns c =
    let a = c.args in
    let s = c.begin in
    let b = begun (cleared a.chosen) c.clear-p.result c.clear-p.ensures a.ranges a.ring.now a.cells.now s.result s.new.ring s.new.cells
    c.in_ok-check_setup.ensures s.ensures.value s.ensures.ring_after s.ensures.cells_after in
    record { value = b.0; ring_after = b.1; cells_after = b.2 }

pub returns-in_err-check_setup : goal.returns-in_err-check_setup
returns-in_err-check_setup c =
    let a = c.args in
    let b = not_begun (cleared a.chosen) c.clear-p.result c.clear-p.ensures a.ranges a.ring.now a.cells.now _ c.in_err-check_setup.ensures in
    let e = err_from_is_err_and c.from_residual.result c.from_residual.ensures.1 in rw (e.1, e.2) (record { value = b.0; ring_after = b.1; cells_after = b.2 })
