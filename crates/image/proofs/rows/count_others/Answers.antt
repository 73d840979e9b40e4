-- `count_others` meets its contract. Assumes nothing.
use mathlib.Core.Path.{sym, ap, ◌∙◌}
use Prim.Native.Nat.{ℕ}
use native.Mathlib.Omega.{arith}
use borrow.Author.Tests.{eqb-true}
use lib.Dec.{eqb}
use lib.ListN.{length}
use Rattle.base.proofs.Test.{and_left, and_right}
use Rattle.image.specs.Cell.{meanings, tallied}
use Rattle.image.specs.Painting.{held_cells}
use Rattle.image.specs.RowsComputed.{untaken_tally}
use Rattle.image.proofs.CountLaws.{tally_small}
use Rattle.image.proofs.RegionLaws.{rows_all, rows_few}
use Rattle.image.proofs.PackLaws.{untaken_counts}
use Rattle.image.proofs.rows.count_others.Goals as goal

pub count_tile-requires : goal.count_tile-requires
count_tile-requires c =
    sym c.is_tile_shaped.ensures ∙ and_left c.is_tile_shaped.result (eqb c.args.taken 0) c.if-is_tile_shaped-taken.true

pub untaken-requires : goal.untaken-requires
untaken-requires c =
    let v = c.args.v in
    rw c.count_tile.ensures (tally_small 1 (held_cells v.width v.r (meanings v.cells.now))
    (omega (arith, ap length (rows_all v.width v.r v.cells.now), rows_few v.width v.r v.cells.now v.r.top)))

pub returns-then-is_tile_shaped-taken : goal.returns-then-is_tile_shaped-taken
returns-then-is_tile_shaped-taken c =
    let a = c.args in
    let held = held_cells a.v.width a.v.r (meanings a.v.cells.now) in
    c.untaken.ensures ∙ ap untaken_tally c.count_tile.ensures ∙ untaken_counts held
    ∙ ap (λ (n : ℕ). tallied n held) (sym (eqb-true a.taken 0 (and_right c.is_tile_shaped.result (eqb a.taken 0) c.if-is_tile_shaped-taken.true)))
