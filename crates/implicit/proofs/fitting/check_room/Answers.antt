-- `fitting::check_room` meets its contract. Assumes nothing.
use mathlib.Core.Path.{ap, ◌∙◌}
use Prim.Native.Nat.{◌-◌}
use Rattle.queue.specs.declared.Last.{Last}
use Rattle.implicit.specs.Record.{put_last}
use Rattle.implicit.specs.StepComputed.{size_of, size_check}
use Rattle.implicit.proofs.StepLawsChildren.{size_few}
use Rattle.implicit.proofs.fitting.check_room.Goals as goal

pub returns-then-room-queued : goal.returns-then-room-queued
returns-then-room-queued c =
    let a = c.args in
    size_few a.p a.queued (a.len - a.g.used) (put_last a.back) a.g c.if-room-queued.true

pub returns : goal.returns
returns c =
    let a = c.args in
    c.check_size.ensures
    ∙ ap (size_check a.queued (a.len - a.g.used))
    (c.size_of.ensures.0 ∙ ap (λ (l : Last). size_of a.p l a.g) c.put_last.ensures)
