-- `pack_cell` meets its contract. Assumes nothing.
use mathlib.Core.Path.{◌≡◌, ap₂, ◌∙◌}
use mathlib.Core.List.{[], ◌∷◌}
use Prim.Native.Nat.{◌+◌, ◌/◌, ◌%◌}
use lib.Bits.{bit_or}
use Rattle.image.specs.Cell.{meaning_of, tallied}
use Rattle.image.specs.RowsComputed.{packed_tally}
use Rattle.image.proofs.PackLaws.{weigh_cell, either_weight}
use Rattle.image.proofs.rows.pack_cell.Goals as goal

-- what the two functions gave is the cell's packed counts
sum_is : (c : goal.After-weigh_false) → let a = c.args in
    bit_or c.weigh_settled.result c.weigh_false.result ≡ packed_tally (tallied (a.last + 1) (meaning_of a.cell ∷ []))
sum_is c =
    let a = c.args in
    ap₂ bit_or c.weigh_settled.ensures c.weigh_false.ensures
    ∙ either_weight (a.cell / 4294967296) (a.cell % 4294967296) (a.last + 1) ∙ weigh_cell (a.last + 1) a.cell

pub returns : goal.returns
returns c = sum_is c
