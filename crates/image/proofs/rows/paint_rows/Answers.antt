-- `paint_rows` meets its contract. Assumes nothing.
use mathlib.Core.Path.{refl, sym, ◌∙◌}
use Prim.Native.Nat.{◌+◌, ◌-◌, ◌*◌, ◌≤◌}
use native.Mathlib.Omega.{arith}
use borrow.Rule.Slice.PartMut.{same_len_mid}
use lib.ListN.{length}
use Rattle.image.proofs.RangeLaws.{row_fits}
use Rattle.image.proofs.PaintLaws.{paint_all, paint_end, paint_pass}
use Rattle.image.proofs.rows.paint_rows.Lts
use Rattle.image.proofs.rows.paint_rows.Reads
use Rattle.image.proofs.rows.paint_rows.Tie
use Rattle.image.proofs.rows.paint_rows.Goals as goal

-- the row ends inside the cells
room : (c : Lts.In-loop Tie.the-claims Reads.Pre Reads.Post goal.the-invariant-loop-row goal.the-decreases-loop-row)
    → let l = c.loop-row in let a = c.args in l.row * a.width + a.r.right ≤ length l.cells
room c =
    let l = c.loop-row in
    let a = c.args in
    omega (arith, l.invariant.2, row_fits a.width a.r (length a.cells.now) l.row c.requires c.loop-row-test.true)

pub loop-row-init : goal.loop-row-init
loop-row-init c = (omega arith, c.requires.down, refl, refl)

pub overflow_mul-start : goal.overflow_mul-start
overflow_mul-start c = omega (arith, room c)

pub overflow_add-start : goal.overflow_add-start
overflow_add-start c = omega (arith, room c, c.requires.across)

pub overflow_mul-end : goal.overflow_mul-end
overflow_mul-end c = omega (arith, room c)

pub overflow_add-end : goal.overflow_add-end
overflow_add-end c = omega (arith, room c)

pub offset_bounds-cells-start : goal.offset_bounds-cells-start
offset_bounds-cells-start c = omega (arith, room c, c.requires.across)

pub slice_bounds-paint_row-count : goal.slice_bounds-paint_row-count
slice_bounds-paint_row-count c = omega (arith, room c, c.requires.across)

pub slice_bounds-paint_row-start : goal.slice_bounds-paint_row-start
slice_bounds-paint_row-start c = omega (arith, c.requires.across)

pub slice_bounds-paint_row-end : goal.slice_bounds-paint_row-end
slice_bounds-paint_row-end c = room c

pub loop-row-preserved : goal.loop-row-preserved
loop-row-preserved c =
    let l = c.loop-row in
    let a = c.args in
    let r = a.r in
    let y = c.paint_row in (
      omega (arith, l.invariant.0),
      omega (arith, c.loop-row-test.true),
      same_len_mid (l.row * a.width + r.left) (l.row * a.width + r.right - (l.row * a.width + r.left)) l.cells y.new.row y.auto.row ∙ l.invariant.2,
      paint_pass a.width r.left r.right l.row r.bottom (l.row * a.width + r.left) (l.row * a.width + r.right) a.op l.cells y.new.row
          c.requires.across c.requires.right c.loop-row-test.true refl refl (room c.before.before.before.before.before) y.ensures ∙ l.invariant.3,
    )

pub returns : goal.returns
returns c =
    let l = c.loop-row in
    let a = c.args in
    sym (paint_end a.width a.r.left a.r.right l.row a.r.bottom a.op l.cells (omega (arith, l.invariant.1))) ∙ l.invariant.3
    ∙ paint_all a.width a.r a.op a.cells.now
