-- `stepping::step_known` meets its contract. Assumes nothing.
use mathlib.Core.Path.{sym, ◌∙◌}
use denote.Floats.{passes}
use lib.Ieee.{binary64, fits}
use lib.ListN.{length}
use Rattle.implicit.proofs.RecordLaws.{sound_chosen}
use Rattle.implicit.proofs.StepLawsKept.{LastHeld}
use Rattle.implicit.proofs.StepLaws.{step_undecided, room_asked, taken_asked, step_no_room, step_finished}
use Rattle.implicit.proofs.stepping.step_known.Goals as goal

-- the remembered bounds are values of binary64, as all are that code holds
held : (c : goal.In-Err-check_room) → LastHeld c.args.s.front
held c =
    let l = c.args.s.front in
    let g = c.well_formed.0.1.1.1.1.1.1.1.1.0.1.1.1.1 in (
      (passes (fits binary64 l.m.lower) g.0.1.1.0.1, passes (fits binary64 l.m.upper) g.0.1.1.1.0.1),
      (passes (fits binary64 l.n.lower) g.1.0.1.1.0.1, passes (fits binary64 l.n.upper) g.1.0.1.1.1.0.1),
      (passes (fits binary64 l.theta.lower) g.1.1.0.1.1.0.1, passes (fits binary64 l.theta.upper) g.1.1.0.1.1.1.0.1),
      (passes (fits binary64 l.t.lower) g.1.1.1.0.1.1.0.1, passes (fits binary64 l.t.upper) g.1.1.1.0.1.1.1.0.1),
    )

held-2 : (c : goal.After-finish) → LastHeld c.args.s.front
held-2 c =
    let l = c.args.s.front in
    let g = c.well_formed.0.1.1.1.1.1.1.1.1.0.1.1.1.1 in (
      (passes (fits binary64 l.m.lower) g.0.1.1.0.1, passes (fits binary64 l.m.upper) g.0.1.1.1.0.1),
      (passes (fits binary64 l.n.lower) g.1.0.1.1.0.1, passes (fits binary64 l.n.upper) g.1.0.1.1.1.0.1),
      (passes (fits binary64 l.theta.lower) g.1.1.0.1.1.0.1, passes (fits binary64 l.theta.upper) g.1.1.0.1.1.1.0.1),
      (passes (fits binary64 l.t.lower) g.1.1.1.0.1.1.0.1, passes (fits binary64 l.t.upper) g.1.1.1.0.1.1.1.0.1),
    )

pub decide-requires : goal.decide-requires
decide-requires c = λ e. sound_chosen (length c.args.ring.now) c.args.s (sym c.requires ∙ e)

pub returns-in-Err : goal.returns-in-Err
returns-in-Err c =
    let a = c.args in
    step_undecided a.tape a.s a.ring.now a.cells.now a.verdicts.now a.sound c.requires _ c.in-Err.ensures

pub check_room-requires : goal.check_room-requires
check_room-requires c =
    let a = c.args in
    room_asked a.tape a.s a.ring.now a.cells.now a.verdicts.now a.sound c.requires _ c.in-Ok.ensures

pub returns-in-Err-check_room : goal.returns-in-Err-check_room
returns-in-Err-check_room c =
    let a = c.args in
    step_no_room a.tape a.s a.ring.now a.cells.now a.verdicts.now a.sound c.requires _ c.in-Ok.ensures (held c) _ c.in-Err-check_room.ensures

pub commit-left-requires : goal.commit-left-requires
commit-left-requires c =
    let a = c.args in
    let r = room_asked a.tape a.s a.ring.now a.cells.now a.verdicts.now a.sound c.requires _ c.in-Ok.ensures in
    (r.0, r.2)

pub finish-requires : goal.finish-requires
finish-requires c =
    let a = c.args in
    taken_asked a.tape a.s a.ring.now a.cells.now a.verdicts.now a.sound c.requires _ c.in-Ok.ensures

pub returns : goal.returns
returns c =
    let a = c.args in
    step_finished a.tape a.s a.ring.now a.cells.now a.verdicts.now a.sound c.requires _ c.in-Ok.ensures (held-2 c)
    c.commit-left.result c.finish.result c.commit-left.new.ring c.commit-left.new.cells c.in_default.ensures c.commit-left.ensures c.finish.ensures
