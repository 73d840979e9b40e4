-- `implicit::view::draw` meets its contract. Assumes nothing.
use Prim.Native.Nat.{◌-◌}
use native.Mathlib.Omega.{arith}
use Rattle.implicit.proofs.ViewLaws.{left_drawn}
use Rattle.implicit.proofs.view.draw.Goals as goal

pub returns : goal.returns
returns c =
    let a = c.args in
    left_drawn a.s (c.pixel_count-pixels.result - 0) a.cells.now a.out.now c.draw.new.out c.draw.ensures.out_after
    (omega arith) (omega arith) (omega arith)
