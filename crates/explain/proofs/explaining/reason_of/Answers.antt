-- `explaining::reason_of` meets its contract. Assumes nothing.
use mathlib.Core.Path.{refl}
use native.Mathlib.Omega.{arith}
use Rattle.image.specs.declared.Reading.TheVariants as Rd
use Rattle.explain.proofs.ReasonLaws.{reads_as, given_up_by, open_as}
use Rattle.explain.proofs.explaining.reason_of.Goals as goal

pub bounds-cells-at : goal.bounds-cells-at
bounds-cells-at c = omega (arith, c.requires)

pub returns-in-True : goal.returns-in-True
returns-in-True c =
    let a = c.args in
    reads_as a.s a.ring.now a.k _ c.read_cell.result c.read_cell.ensures Rd.True c.in-True.is _ refl

pub returns-in-False : goal.returns-in-False
returns-in-False c =
    let a = c.args in
    reads_as a.s a.ring.now a.k _ c.read_cell.result c.read_cell.ensures Rd.False c.in-False.is _ refl

pub returns-in-Uncertain : goal.returns-in-Uncertain
returns-in-Uncertain c =
    let a = c.args in
    let h = c.cells_hold-up in
    let o = c.reason_open in
    let up = given_up_by a.s a.ring.now a.cells.now a.at c.requires h.result h.ensures in
    reads_as a.s a.ring.now a.k _ c.read_cell.result c.read_cell.ensures Rd.Uncertain
    c.in-Uncertain.is o.result
    (open_as a.s a.ring.now a.k _ h.result up o.result o.ensures)
