-- `count_rows` meets its contract. Assumes nothing.
use mathlib.Core.Path.{sym, ap, ◌∙◌}
use native.Mathlib.Omega.{arith}
use Rattle.image.specs.Cell.{tallied}
use Rattle.image.proofs.CountLaws.{tally_start}
use Rattle.image.proofs.RegionLaws.{rows_from, rows_all, all_tallied, tally_next, small_next}
use Rattle.image.proofs.rows.count_rows.Goals as goal

pub loop-row-init : goal.loop-row-init
loop-row-init c =
    let v = c.args.v in
    tally_start c.default-tally.result (tallied c.args.taken (rows_from v.width v.r v.cells.now v.r.top)) c.default-tally.ensures
    ∙ ap (tallied c.args.taken) (rows_all v.width v.r v.cells.now)

pub sum-tally-requires : goal.sum-tally-requires
sum-tally-requires c =
    let v = c.args.v in
    small_next v.width v.r v.cells.now v.ready c.loop-row.row c.loop-row-test.true c.args.taken _ _ _ (omega arith) c.loop-row.invariant
    c.row.ensures c.count_cells.ensures

pub loop-row-preserved : goal.loop-row-preserved
loop-row-preserved c =
    let v = c.args.v in
    tally_next v.width v.r v.cells.now v.ready c.loop-row.row c.loop-row-test.true c.args.taken _ _ _ _ _ c.loop-row.invariant
    c.row.ensures c.count_cells.ensures c.sum-tally.ensures

pub returns : goal.returns
returns c =
    let v = c.args.v in
    sym (all_tallied v.width v.r v.cells.now c.args.taken c.loop-row.row c.loop-row.tally (omega arith)) ∙ c.loop-row.invariant
