-- `pack_row` meets its contract. Assumes nothing.
use mathlib.Core.Path.{◌∙◌, sym}
use Prim.Native.Nat.{◌+◌}
use Rattle.std.proofs.Common.{rules, tests}
use Rattle.std.proofs.lemmas.Iterator.{YieldsList-from_slice, YieldsList-from_map}
use Rattle.std.proofs.lemmas.Iterator.Consumers.{sum_by_from_yields_List, fits_by_from_yields_list}
use Rattle.image.proofs.PackLaws.{packed_cell, packed_each, packed_few}
use Rattle.image.proofs.rows.pack_row.Goals as goal

pub sum-requires-clause-fits : goal.sum-requires-clause-fits
sum-requires-clause-fits c =
    let a = c.args in
    fits_by_from_yields_list (packed_cell (a.last + 1)) a.row.now c.map.result _
    (YieldsList-from_map _ (packed_cell (a.last + 1)) (YieldsList-from_slice a.row.now cc) c.map.ensures.closure (λ x r q k. search (rules, tests)))
    (packed_few (a.last + 1) a.row.now c.requires)

pub returns : goal.returns
returns c =
    let a = c.args in
    sum_by_from_yields_List (packed_cell (a.last + 1)) a.row.now c.map.result _ c.sum.ensures.ran
    (YieldsList-from_map _ (packed_cell (a.last + 1)) (YieldsList-from_slice a.row.now cc) c.map.ensures.closure (λ x r q k. search (rules, tests)))
    ∙ sym (packed_each (a.last + 1) a.row.now)
