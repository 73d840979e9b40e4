-- `draw` meets its contract. Assumes nothing.
use mathlib.Core.Path.{sym}
use borrow.Author.Tests.{eq-eqb, ne_eqb}
use lib.ListN.{length}
use Rattle.image.proofs.DrawLaws.{drawn_done, drawn_not}
use Rattle.image.proofs.draw.Goals as goal

pub returns-then-cells-out : goal.returns-then-cells-out
returns-then-cells-out c =
    let a = c.args in
    let m = c.min in
    let d = c.draw_stretch in
    let e = c.if-cells-out.true in
    record {
      value = sym (eq-eqb (length a.cells.now) (length a.out.now) e);
      out_after = drawn_done a.taken m.result a.cells.now a.out.now d.new.out e m.ensures d.ensures;
    }

pub returns : goal.returns
returns c =
    let a = c.args in
    let e = ne_eqb (length a.cells.now) (length a.out.now) c.if-cells-out.false in
    record { value = sym e; out_after = drawn_not a.taken a.cells.now a.out.now e }
