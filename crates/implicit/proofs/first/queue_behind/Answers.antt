-- `first::queue_behind` meets its contract: by what it requires, the block is appended. Assumes nothing.
use Rattle.std.specs.Prelude.{Err}
use mathlib.Core.Path.{refl}
use Rattle.implicit.proofs.SetupLawsQueueing.{queued_ring, queued_behind, queued_else}
use Rattle.implicit.proofs.first.queue_behind.Goals as goal

pub returns-in-Ok : goal.returns-in-Ok
returns-in-Ok c =
    let a = c.args in (
      queued_behind a.ring.now a.set a.k a.b c.requires.0 c.requires.1 c.requires.2 c.requires.3 c.append.result
          c.append.ensures.0 c.in-Ok.done.last c.in-Ok.done.used c.in-Ok.is,
      queued_ring a.ring.now a.set a.k a.b c.requires.0 c.requires.1 c.requires.2 c.requires.3 c.append.new.ring c.append.ensures.1,
    )

pub returns-in-Err : goal.returns-in-Err
returns-in-Err c =
    let a = c.args in
    queued_else a.ring.now a.set a.k a.b c.requires.0 c.requires.1 c.requires.2 c.requires.3 c.append.result
    c.append.ensures.0 (Err c.in-Err.field-0) refl c.in-Err.is
