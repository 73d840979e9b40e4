-- `tiled_running::go_tiled_step` meets its contract. Assumes nothing.
use mathlib.Core.Path.{refl, ◌∙◌}
use native.Mathlib.Omega.{arith}
use lib.ListN.{length, length-drop}
use lib.Ieee.{binary64, fits}
use denote.Floats.{passes}
use Rattle.implicit.specs.Step.{world_of}
use Rattle.implicit.specs.Tiled.{TiledEndsAs}
use Rattle.implicit.specs.RunComputed.{going_on}
use Rattle.implicit.specs.TiledComputed.{next_tiled}
use Rattle.implicit.proofs.RecordLaws.{use_same}
use Rattle.implicit.proofs.StepLawsKept.{LastHeld}
use Rattle.implicit.proofs.RunLaws.{step_stop, step_on, step_sums}
use Rattle.implicit.proofs.TiledRun.{next_plain, tiled_rest}
use Rattle.implicit.proofs.tiled_running.go_tiled_step.Goals as goal

-- the remembered bounds are values of binary64, as all are that code holds
held : (c : goal.After-add_step) → LastHeld c.args.p.state.front
held c =
    let l = c.args.p.state.front in
    let g = c.well_formed.0.1.1.0.1.1.1.1.1.1.1.1.0.1.1.1.1 in (
      (passes (fits binary64 l.m.lower) g.0.1.1.0.1, passes (fits binary64 l.m.upper) g.0.1.1.1.0.1),
      (passes (fits binary64 l.n.lower) g.1.0.1.1.0.1, passes (fits binary64 l.n.upper) g.1.0.1.1.1.0.1),
      (passes (fits binary64 l.theta.lower) g.1.1.0.1.1.0.1, passes (fits binary64 l.theta.upper) g.1.1.0.1.1.1.0.1),
      (passes (fits binary64 l.t.lower) g.1.1.1.0.1.1.0.1, passes (fits binary64 l.t.upper) g.1.1.1.0.1.1.1.0.1),
    )

-- the step is the next one: it was lent the rest of the tape
ends : (c : goal.In-Ok) → let a = c.args in let s = c.step_tiled in
    TiledEndsAs (world_of a.p.state a.ring.now a.cells.now) a.table.now
    (next_tiled (length a.table.now) (going_on a.p) a.ring.now a.cells.now a.tape.now) s.result
    s.new.ring s.new.cells s.new.table
ends c =
    let a = c.args in
    let s = c.step_tiled in
    tiled_rest (going_on a.p) a.ring.now a.cells.now a.tape.now a.table.now s.result
    s.new.ring s.new.cells s.new.table s.ensures

-- the step is the next one: it was lent the rest of the tape
ends-2 : (c : goal.In-Err) → let a = c.args in let s = c.step_tiled in
    TiledEndsAs (world_of a.p.state a.ring.now a.cells.now) a.table.now
    (next_tiled (length a.table.now) (going_on a.p) a.ring.now a.cells.now a.tape.now) s.result
    s.new.ring s.new.cells s.new.table
ends-2 c =
    let a = c.args in
    let s = c.step_tiled in
    tiled_rest (going_on a.p) a.ring.now a.cells.now a.tape.now a.table.now s.result
    s.new.ring s.new.cells s.new.table s.ensures

-- the step is the next one: it was lent the rest of the tape
ends-3 : (c : goal.After-add_step) → let a = c.args in let s = c.step_tiled in
    TiledEndsAs (world_of a.p.state a.ring.now a.cells.now) a.table.now
    (next_tiled (length a.table.now) (going_on a.p) a.ring.now a.cells.now a.tape.now) s.result
    s.new.ring s.new.cells s.new.table
ends-3 c =
    let a = c.args in
    let s = c.step_tiled in
    tiled_rest (going_on a.p) a.ring.now a.cells.now a.tape.now a.table.now s.result
    s.new.ring s.new.cells s.new.table s.ensures

pub step_tiled-requires : goal.step_tiled-requires
step_tiled-requires c =
    let a = c.args in
    (c.has_sound_use-sound.ensures ∙ use_same (length a.ring.now) a.p.state c.requires.3, c.requires.4)

pub add_step-requires : goal.add_step-requires
add_step-requires c =
    let a = c.args in
    let few =
    step_sums (going_on a.p) a.ring.now a.cells.now a.tape.now _ (next_plain (length a.table.now) (going_on a.p) a.ring.now a.cells.now a.tape.now)
    c.step_tiled.result _ _ (ends c).0 _ _ _ c.in-Ok.is in (
      c.requires.1,
      omega (arith, c.requires.1, c.requires.2, few.1),
      omega (arith, c.requires.0, c.well_formed, few.0, length-drop a.p.tape a.tape.now),
    )

pub returns-in-Err : goal.returns-in-Err
returns-in-Err c =
    let a = c.args in
    let e = ends-2 c in record {
      tried = step_stop (going_on a.p) a.ring.now a.cells.now a.tape.now _ (next_plain (length a.table.now) (going_on a.p) a.ring.now a.cells.now a.tape.now)
          c.step_tiled.result _ _ e.0 _ _ _ c.in-Err.is refl c.requires.3;
      table_after = e.1;
    }

pub returns-in-Ok : goal.returns-in-Ok
returns-in-Ok c =
    let a = c.args in
    let e = ends-3 c in record {
      tried = step_on (going_on a.p) a.ring.now a.cells.now a.tape.now _ (next_plain (length a.table.now) (going_on a.p) a.ring.now a.cells.now a.tape.now)
          c.step_tiled.result _ _ e.0 _ _ _ c.in-Ok.is _ c.add_step.ensures (held c);
      table_after = e.1;
    }
