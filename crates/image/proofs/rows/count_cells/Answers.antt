-- `count_cells` meets its contract. Assumes nothing.
use mathlib.Core.Path.{sym, ap, ◌∙◌}
use mathlib.Core.List.{List, [], ◌∷◌}
use Prim.Native.Nat.{◌+◌}
use native.Mathlib.Omega.{arith}
use lib.ListN.{get_or, drop, drop_of_length-le, length-map}
use Rattle.image.specs.Cell.{Cell, meaning_of, meanings, tallied}
use Rattle.image.specs.RowsComputed.{tally_sum}
use Rattle.image.proofs.CountLaws.{drop_meanings, tally_small, tally_start, tally_none, tally_pass, part_small}
use Rattle.image.proofs.rows.count_cells.Goals as goal

pub loop-cell-init : goal.loop-cell-init
loop-cell-init c = let a = c.args in tally_start c.default-tally.result (tallied a.taken (meanings a.row.now)) c.default-tally.ensures

pub sum-tally-requires : goal.sum-tally-requires
sum-tally-requires c =
    let l = c.loop-cell in
    let a = c.args in (
      part_small l.tally (tallied a.taken (meanings (drop l.cell-index a.row.now))) (tallied a.taken (meanings a.row.now)) l.invariant
          (tally_small a.taken (meanings a.row.now) (omega (arith, length-map a.row.now meaning_of))),
      rw c.count_cell.ensures (tally_small a.taken (meaning_of (get_or a.row.now l.cell-index 0) ∷ []) (omega arith)),
    )

pub loop-cell-preserved : goal.loop-cell-preserved
loop-cell-preserved c =
    let l = c.loop-cell in
    let a = c.args in
    let n = a.row.now in
    tally_pass a.taken l.tally c.count_cell.result c.sum-tally.result (tallied a.taken (meanings n))
    (meaning_of (get_or n l.cell-index 0) ∷ []) (meanings (drop (l.cell-index + 1) n))
    (ap (λ (m : List Cell). tally_sum l.tally (tallied a.taken m)) (sym (drop_meanings n l.cell-index (omega arith))) ∙ l.invariant)
    c.count_cell.ensures
    c.sum-tally.ensures

pub returns : goal.returns
returns c =
    let l = c.loop-cell in
    let a = c.args in
    sym (tally_none a.taken l.tally (meanings (drop l.cell-index a.row.now)) (ap meanings (drop_of_length-le a.row.now {i = l.cell-index} (omega arith))))
    ∙ l.invariant
