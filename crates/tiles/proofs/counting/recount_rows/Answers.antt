-- `recount_rows` meets its contract. Assumes nothing.
use mathlib.Core.Path.{refl, sym, ap, ◌∙◌}
use Prim.Native.Nat.{◌+◌, ◌*◌}
use native.Mathlib.Omega.{arith}
use lib.ListN.{length}
use Rattle.image.specs.Cell.{meanings}
use Rattle.image.specs.Range.{in_stretch}
use Rattle.image.proofs.RangeLaws.{Within, within}
use Rattle.tiles.specs.Tiles.{tiles_along}
use Rattle.tiles.proofs.RecountLaws.{recount_length, row_turn, row_end}
use Rattle.tiles.proofs.counting.recount_rows.Lts
use Rattle.tiles.proofs.counting.recount_rows.Reads
use Rattle.tiles.proofs.counting.recount_rows.Tie
use Rattle.tiles.proofs.counting.recount_rows.Goals as goal

-- the tiles lie in the picture
inside : (s : Lts.Start Tie.the-claims Reads.Pre Reads.Post goal.the-invariant-loop-row goal.the-decreases-loop-row Tie.handed_clauses)
    → let a = s.args in Within (tiles_along a.width) (tiles_along a.height) a.tiles
inside s = let a = s.args in within (tiles_along a.width) (tiles_along a.height) a.tiles s.requires.tiles_value

pub loop-row-init : goal.loop-row-init
loop-row-init c = ((inside c.before.before.before).down, refl, refl)

pub recount_row-requires : goal.recount_row-requires
recount_row-requires c =
    let ready = c.requires.tiles_ready in
    let w = inside c.before.before.before.before.before.before in
    record {
      tiles_ready = record { pixels = ready.pixels; numbers = omega (arith, ready.numbers, c.loop-row.invariant.1) };
      left_le_right = (w.across, w.right, omega (arith, c.loop-row-test.true, w.bottom));
    }

pub loop-row-preserved : goal.loop-row-preserved
loop-row-preserved c =
    let l = c.loop-row in
    let a = c.args in
    let t = a.tiles in
    let across = tiles_along a.width in
    let cells = meanings a.cells.now in
    let y = c.recount_row in (
      omega (arith, c.loop-row-test.true),
      ap length y.ensures
          ∙ recount_length (in_stretch (l.row * across + t.left) (l.row * across + t.right)) a.width a.height a.taken cells l.table ∙ l.invariant.1,
      row_turn a.width a.height a.taken cells across t.left t.right l.row t.bottom l.table y.new.table
          (inside c.before.before.before.before.before.before.before.before.before).right c.loop-row-test.true y.ensures ∙ l.invariant.2,
    )

pub returns : goal.returns
returns c =
    let l = c.loop-row in
    let a = c.args in
    let t = a.tiles in
    sym (row_end a.width a.height a.taken (meanings a.cells.now) (tiles_along a.width) t.left t.right l.row t.bottom l.table
    (omega (arith, l.invariant.0, c.loop-row-test.false))) ∙ l.invariant.2
