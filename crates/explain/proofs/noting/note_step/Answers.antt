-- `noting::note_step` meets its contract. Assumes nothing.
use Rattle.std.specs.Prelude.{Result}
use Rattle.queue.specs.declared.QueueError.{QueueError}
use mathlib.Core.Path.{◌≡◌, sym, ap, ◌∙◌}
use Rattle.queue.specs.declared.Peeked.{Peeked}
use Rattle.queue.specs.declared.Taken.{Taken}
use Rattle.queue.specs.Queue.{taken_by}
use Rattle.implicit.specs.Listing.{front_of}
use Rattle.explain.specs.NotesComputed.{noted_front}
use Rattle.explain.proofs.noting.note_step.Goals as goal
use Rattle.explain.proofs.noting.note_step.Goals.{After-peek}

-- the notes, once the front was read so
noted : (k : After-peek) (t : Result Peeked QueueError) → k.peek.result ≡ t → let a = k.args in
    noted_front a.s.chosen a.pixel.column a.pixel.row a.cells.now a.tape.now a.step (taken_by t) a.k
    ≡ noted_front a.s.chosen a.pixel.column a.pixel.row a.cells.now a.tape.now a.step (front_of a.s a.ring.now) a.k
noted k t e =
    let a = k.args in
    ap (λ (t : Result Taken QueueError). noted_front a.s.chosen a.pixel.column a.pixel.row a.cells.now a.tape.now a.step t a.k)
    (ap taken_by (sym e) ∙ k.peek.ensures)

pub returns-in-Ok : goal.returns-in-Ok
returns-in-Ok c = c.note_block.ensures ∙ noted (goal.at.returns-in-Ok c).After-peek _ c.in-Ok.is

pub returns-in-Err : goal.returns-in-Err
returns-in-Err c = noted (goal.at.returns-in-Err c).After-peek _ c.in-Err.is
