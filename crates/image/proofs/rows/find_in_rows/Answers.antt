-- `find_in_rows` meets its contract. Assumes nothing.
use mathlib.Core.Path.{sym, ap, ◌∙◌}
use native.Mathlib.Omega.{arith}
use Rattle.image.specs.Cell.{of_kind}
use Rattle.image.specs.Painting.{some_of}
use Rattle.image.proofs.RegionLaws.{rows_all, some_next, none_left}
use Rattle.image.proofs.rows.find_in_rows.Goals as goal

pub loop-row-init : goal.loop-row-init
loop-row-init g c = let v = c.args.v in ap (some_of (of_kind c.args.kind)) (rows_all v.width v.r v.cells.now)

pub returns-then-find_in_one : goal.returns-then-find_in_one
returns-then-find_in_one g c =
    let v = c.args.v in
    rw c.if-find_in_one.true at (some_next v.width v.r v.cells.now v.ready c.loop-row.row c.loop-row-test.true (of_kind c.args.kind) _ _ c.row.ensures c.find_in_one.ensures)
    ∙ c.loop-row.invariant

pub loop-row-preserved : goal.loop-row-preserved
loop-row-preserved g c =
    let v = c.args.v in
    rw c.if-find_in_one.false at (some_next v.width v.r v.cells.now v.ready c.loop-row.row c.loop-row-test.true (of_kind c.args.kind) _ _ c.row.ensures c.find_in_one.ensures)
    ∙ c.loop-row.invariant

pub returns : goal.returns
returns g c =
    let v = c.args.v in
    sym (none_left v.width v.r v.cells.now (of_kind c.args.kind) c.loop-row.row (omega arith)) ∙ c.loop-row.invariant
