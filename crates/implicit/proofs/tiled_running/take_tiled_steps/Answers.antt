-- `tiled_running::take_tiled_steps` meets its contract. The loop's invariant: what is left to do, with what was counted, is the run, and the
-- table that it leaves the run's. The measure: the steps left in the budget. Assumes nothing.
use mathlib.Core.Path.{refl, ◌∙◌}
use lib.ListN.{length}
use Rattle.implicit.specs.Step.{world_of}
use Rattle.implicit.specs.RunComputed.{going_on, stopped}
use Rattle.implicit.specs.Tiled.{tiled_tape_step_of, tiled_run_from}
use Rattle.implicit.proofs.RunLoop.{pass_kept, pass_ended, run_start, start_bounded}
use Rattle.implicit.proofs.TiledTests.{looked_clean}
use Rattle.implicit.proofs.TiledRun.{runs_tiled, once_clean, once_length, by_room, table_pass, table_start, table_end}
use Rattle.implicit.proofs.tiled_running.take_tiled_steps.Goals as goal

pub is_clean-clean-requires : goal.is_clean-clean-requires
is_clean-clean-requires c = c.requires.0

pub loop-next-init : goal.loop-next-init
loop-next-init c =
    let a = c.args in (
      start_bounded a.budget a.s a.tape.now,
      refl,
      refl,
      c.requires.0,
      refl,
      λ u. c.requires.1,
      refl,
      looked_clean c.is_clean-clean.result a.budget a.s a.cells.now c.is_clean-clean.ensures c.requires.0,
      refl,
    )

pub go_on_tiled-requires : goal.go_on_tiled-requires
go_on_tiled-requires c =
    let i = c.loop-next.invariant in
    (i.0, i.3, i.5, i.7)

pub loop-next-smaller : goal.loop-next-smaller
loop-next-smaller c =
    let l = c.loop-next in
    let i = l.invariant in
    let a = c.args in
    let g = c.go_on_tiled in
    let room = length a.table.now in
    let e = by_room (length l.table) room a.budget (going_on l.p) l.ring l.cells a.tape.now _ g.new.ring g.new.cells i.6 c.in-Ok.ensures.once_gone in
    (pass_kept (tiled_tape_step_of room) (tiled_run_from room) (runs_tiled room) a.budget a.tape.now l.p l.ring l.cells i.0 i.3
    c.in-Ok.next g.new.ring g.new.cells e.0 e.1).less

pub loop-next-preserved : goal.loop-next-preserved
loop-next-preserved c =
    let l = c.loop-next in
    let i = l.invariant in
    let a = c.args in
    let g = c.go_on_tiled in
    let o = c.in-Ok.ensures in
    let room = length a.table.now in
    let p = going_on l.p in
    let e = by_room (length l.table) room a.budget p l.ring l.cells a.tape.now _ g.new.ring g.new.cells i.6 o.once_gone in
    let k =
    pass_kept (tiled_tape_step_of room) (tiled_run_from room) (runs_tiled room) a.budget a.tape.now l.p l.ring l.cells i.0 i.3
    c.in-Ok.next g.new.ring g.new.cells e.0 e.1 in
    let long = once_length a.budget p (world_of l.p.state l.ring l.cells) _ l.table _ o.table_after in (
      k.bounded,
      k.same_ring ∙ i.1,
      k.same_cells ∙ i.2,
      k.enough,
      k.same_whole ∙ i.4,
      o.once_gone.2,
      long ∙ i.6,
      once_clean _ a.budget (length l.table) p l.ring l.cells a.tape.now (going_on c.in-Ok.next) _ _ o.once_gone.1 i.7,
      table_pass a.budget a.tape.now p l.ring l.cells l.table refl _ _ _ _ o.once_gone.0 o.once_gone.1 o.table_after ∙ i.8,
    )

pub returns-in-Err : goal.returns-in-Err
returns-in-Err c =
    let l = c.loop-next in
    let i = l.invariant in
    let a = c.args in
    let g = c.go_on_tiled in
    let o = c.in-Err.ensures in
    let room = length a.table.now in
    let p = going_on l.p in
    let e = by_room (length l.table) room a.budget p l.ring l.cells a.tape.now _ g.new.ring g.new.cells i.6 o.once_gone in record {
      run_to = pass_ended (tiled_tape_step_of room) (tiled_run_from room) (runs_tiled room) a.budget a.tape.now l.p l.ring l.cells i.0 i.3
          c.in-Err.ending g.new.ring g.new.cells e.0 e.1 _
          (i.4 ∙ run_start (tiled_tape_step_of room) (tiled_run_from room) a.budget a.s a.ring.now a.cells.now a.tape.now);
      table_after = table_end a.budget (stopped l.p c.in-Err.ending) g.new.ring g.new.cells a.tape.now g.new.table refl
          ∙ table_pass a.budget a.tape.now p l.ring l.cells l.table refl _ _ _ _ o.once_gone.0 o.once_gone.1 o.table_after
          ∙ i.8 ∙ table_start a.budget a.s a.ring.now a.cells.now a.tape.now a.table.now;
    }
