-- `tiled_running::go_on_tiled` meets its contract. Assumes nothing.
use mathlib.Core.Path.{refl}
use native.Mathlib.Omega.{arith}
use lib.ListN.{length}
use Rattle.implicit.specs.Step.{world_of}
use Rattle.implicit.specs.RunComputed.{going_on}
use Rattle.implicit.specs.TiledComputed.{next_tiled}
use Rattle.implicit.proofs.RunLoop.{once_empty, once_spent, once_step}
use Rattle.implicit.proofs.TiledRun.{table_empty, table_spent, table_step}
use Rattle.implicit.proofs.tiled_running.go_on_tiled.Goals as goal

pub empty_ending-requires : goal.empty_ending-requires
empty_ending-requires c = c.requires.1

pub returns-then-is_empty : goal.returns-then-is_empty
returns-then-is_empty c =
    let a = c.args in
    let n = next_tiled (length a.table.now) (going_on a.p) a.ring.now a.cells.now a.tape.now in record {
      once_gone = once_empty a.budget (going_on a.p) a.ring.now a.cells.now n c.is_empty.result c.is_empty.ensures
          _ c.empty_ending.result c.if-is_empty.true c.empty_ending.ensures refl c.requires.2;
      table_after = table_empty a.budget (going_on a.p) (world_of a.p.state a.ring.now a.cells.now) n a.table.now c.is_empty.result c.is_empty.ensures
          c.if-is_empty.true;
    }

pub returns-then-budget-p : goal.returns-then-budget-p
returns-then-budget-p c =
    let a = c.args in
    let n = next_tiled (length a.table.now) (going_on a.p) a.ring.now a.cells.now a.tape.now in record {
      once_gone = once_spent a.budget (going_on a.p) a.ring.now a.cells.now n c.is_empty.result c.is_empty.ensures
          _ c.if-is_empty.false c.if-budget-p.true refl c.requires.2;
      table_after = table_spent a.budget (going_on a.p) (world_of a.p.state a.ring.now a.cells.now) n a.table.now c.is_empty.result c.is_empty.ensures
          c.if-is_empty.false c.if-budget-p.true;
    }

pub go_tiled_step-requires : goal.go_tiled_step-requires
go_tiled_step-requires c =
    (c.requires.0.tape_used, omega (arith, c.if-budget-p.false, c.ranges), c.requires.0.evaluations, c.requires.2, c.requires.3)

pub returns : goal.returns
returns c =
    let a = c.args in
    let n = next_tiled (length a.table.now) (going_on a.p) a.ring.now a.cells.now a.tape.now in
    let w = world_of a.p.state a.ring.now a.cells.now in
    let e = c.go_tiled_step.ensures in record {
      once_gone = once_step a.budget (going_on a.p) a.ring.now a.cells.now n c.is_empty.result c.is_empty.ensures
          _ _ _ c.if-is_empty.false c.if-budget-p.false e.tried.0 e.tried.1 e.tried.2;
      table_after = table_step a.budget (going_on a.p) w n a.table.now c.is_empty.result c.is_empty.ensures _ c.if-is_empty.false c.if-budget-p.false e.table_after;
    }
