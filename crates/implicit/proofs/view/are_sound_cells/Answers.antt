-- `implicit::view::are_sound_cells` meets its contract. Assumes nothing.
use Prim.Native.Nat.{◌-◌}
use native.Mathlib.Omega.{arith}
use Rattle.implicit.proofs.ViewLaws.{fine_as}
use Rattle.implicit.proofs.view.are_sound_cells.Goals as goal

pub returns : goal.returns
returns c =
    fine_as c.args.s _ (c.pixel_count-pixels.result - 0) _ c.cells_hold.ensures (omega arith)
