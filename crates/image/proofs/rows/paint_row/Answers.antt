-- `paint_row` meets its contract. Assumes nothing.
use mathlib.Core.Path.{◌≡◌}
use Rattle.image.specs.declared.Op.TheVariants as O
use Rattle.image.specs.Cell.{cell_code, done_to}
use Rattle.image.proofs.rows.paint_row.Goals as goal

pub returns-in-Mark : goal.returns-in-Mark
unfolding done_to cell_code
returns-in-Mark c =
    let e : c.args.op ≡ O.Mark = c.in-Mark.is in
    rw e c.fill_row.ensures

pub returns-in-Name : goal.returns-in-Name
returns-in-Name c =
    let e : c.args.op ≡ O.Name c.in-Name.from c.in-Name.to = c.in-Name.is in
    rw e c.name_row.ensures

pub returns-in-GiveUp : goal.returns-in-GiveUp
unfolding done_to cell_code
returns-in-GiveUp c =
    let e : c.args.op ≡ O.GiveUp = c.in-GiveUp.is in
    rw e c.fill_row-in-GiveUp.ensures

pub returns-in-Fill : goal.returns-in-Fill
unfolding done_to cell_code
returns-in-Fill c =
    let e : c.args.op ≡ O.Fill c.in-Fill.to = c.in-Fill.is in
    rw e c.fill_row-in-Fill.ensures
