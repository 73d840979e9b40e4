-- `running::go_step` meets its contract. Assumes nothing.
use mathlib.Core.Path.{refl, ◌∙◌}
use native.Mathlib.Omega.{arith}
use Rattle.implicit.proofs.RunLaws.{next_itself, step_rest, step_stop, step_on, step_sums}
use lib.ListN.{length, length-drop}
use Rattle.implicit.proofs.RecordLaws.{use_same}
use lib.Ieee.{binary64, fits}
use denote.Floats.{passes}
use Rattle.implicit.proofs.StepLawsKept.{LastHeld}
use Rattle.implicit.specs.Step.{world_of, EndsAs}
use Rattle.implicit.specs.RunComputed.{going_on, next_step}
use Rattle.implicit.proofs.running.go_step.Goals as goal

-- the remembered bounds are values of binary64, as all are that code holds
held : (c : goal.After-add_step) → LastHeld c.args.p.state.front
held c =
    let l = c.args.p.state.front in
    let g = c.well_formed.0.1.1.0.1.1.1.1.1.1.1.1.0.1.1.1.1 in (
      (passes (fits binary64 l.m.lower) g.0.1.1.0.1, passes (fits binary64 l.m.upper) g.0.1.1.1.0.1),
      (passes (fits binary64 l.n.lower) g.1.0.1.1.0.1, passes (fits binary64 l.n.upper) g.1.0.1.1.1.0.1),
      (passes (fits binary64 l.theta.lower) g.1.1.0.1.1.0.1, passes (fits binary64 l.theta.upper) g.1.1.0.1.1.1.0.1),
      (passes (fits binary64 l.t.lower) g.1.1.1.0.1.1.0.1, passes (fits binary64 l.t.upper) g.1.1.1.0.1.1.1.0.1),
    )

-- the step is the next one: it was lent the rest of the tape
ends : (c : goal.In-Ok) → let a = c.args in
    EndsAs (world_of a.p.state a.ring.now a.cells.now) (next_step (going_on a.p) a.ring.now a.cells.now a.tape.now) c.step_known.result
    c.step_known.new.ring c.step_known.new.cells
ends c =
    let a = c.args in
    let s = c.step_known in
    step_rest (going_on a.p) a.ring.now a.cells.now a.tape.now s.result s.new.ring s.new.cells s.ensures

-- the step is the next one: it was lent the rest of the tape
ends-2 : (c : goal.In-Err) → let a = c.args in
    EndsAs (world_of a.p.state a.ring.now a.cells.now) (next_step (going_on a.p) a.ring.now a.cells.now a.tape.now) c.step_known.result
    c.step_known.new.ring c.step_known.new.cells
ends-2 c =
    let a = c.args in
    let s = c.step_known in
    step_rest (going_on a.p) a.ring.now a.cells.now a.tape.now s.result s.new.ring s.new.cells s.ensures

-- the step is the next one: it was lent the rest of the tape
ends-3 : (c : goal.After-add_step) → let a = c.args in
    EndsAs (world_of a.p.state a.ring.now a.cells.now) (next_step (going_on a.p) a.ring.now a.cells.now a.tape.now) c.step_known.result
    c.step_known.new.ring c.step_known.new.cells
ends-3 c =
    let a = c.args in
    let s = c.step_known in
    step_rest (going_on a.p) a.ring.now a.cells.now a.tape.now s.result s.new.ring s.new.cells s.ensures

pub step_known-requires : goal.step_known-requires
step_known-requires c =
    let a = c.args in
    c.has_sound_use-sound.ensures ∙ use_same (length a.ring.now) a.p.state c.requires.3

pub add_step-requires : goal.add_step-requires
add_step-requires c =
    let s = c.step_known in
    let a = c.args in
    let few =
    step_sums (going_on a.p) a.ring.now a.cells.now a.tape.now _ (next_itself (going_on a.p) a.ring.now a.cells.now a.tape.now)
    s.result s.new.ring s.new.cells (ends c) _ _ _
    c.in-Ok.is in (
      c.requires.1,
      omega (arith, c.requires.1, c.requires.2, few.1),
      omega (arith, c.requires.0, c.well_formed, few.0, length-drop a.p.tape a.tape.now),
    )

pub returns-in-Err : goal.returns-in-Err
returns-in-Err c =
    let s = c.step_known in
    let a = c.args in
    step_stop (going_on a.p) a.ring.now a.cells.now a.tape.now _ (next_itself (going_on a.p) a.ring.now a.cells.now a.tape.now)
    s.result s.new.ring s.new.cells (ends-2 c) _ _
    _ c.in-Err.is refl c.requires.3

pub returns-in-Ok : goal.returns-in-Ok
returns-in-Ok c =
    let s = c.step_known in
    let a = c.args in
    step_on (going_on a.p) a.ring.now a.cells.now a.tape.now _ (next_itself (going_on a.p) a.ring.now a.cells.now a.tape.now)
    s.result s.new.ring s.new.cells (ends-3 c) _ _ _
    c.in-Ok.is _ c.add_step.ensures (held c)
