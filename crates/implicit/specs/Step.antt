-- Document 01, the step, with its refusals in their order: 8 for the record, 2, 13, 8 for the block, 4, 5, 7, 6.
-- A step is a function of the record, the ring, the cells and the verdicts: this page says what it answers and leaves.
use Rattle.queue.specs.declared.QueueError.{QueueError}
use Rattle.std.specs.Prelude.{◌≡◌, Bool, true, false, cond, not, ◌&&◌, List, ℕ, ◌+◌, ◌^◌, leb, ltb, eqb, length, take, Result, Ok, Err}
use Rattle.base.specs.Event.{Event, queued_by}
use Rattle.refusal.specs.declared.Refusal.{Refusal}
use Rattle.refusal.specs.declared.Refusal.TheVariants as R
use Rattle.image.specs.Cell as Cells
use Rattle.queue.specs.declared.Block.{Block}
use Rattle.queue.specs.declared.Taken.{Taken}
use Rattle.queue.specs.declared.Last.{Last}
use Rattle.queue.specs.Ring.{stored_behind}
use Rattle.queue.specs.Queue as Queue
use Rattle.decide.specs.declared.Chosen.{Chosen}
use Rattle.decide.specs.declared.verdict.Outcome.{Outcome}
use Rattle.decide.specs.Damage.{undamaged, cell_damaged}
use Rattle.decide.specs.Children.{children_of}
use Rattle.decide.specs.Verdict.{all_legal}
use Rattle.plan.specs.Plan.{outcomes, evaluations, events_for, cells_after}
use Rattle.implicit.specs.declared.state.State.{State}
use Rattle.implicit.specs.declared.state.Refused.{Refused}
use Rattle.implicit.specs.declared.state.Finished.{Finished}
use Rattle.implicit.specs.Record.{refused_unless, pixel_count, sound_record, put_last}
use Rattle.implicit.specs.Listing.{front_of}

-- what a call is lent and what it leaves: the record, the ring and the cells
pub record World : Type 0 where
  pub state : State
  pub ring : List ℕ
  pub cells : List ℕ

abbrev pub world_of : State → List ℕ → List ℕ → World
world_of s ring cells = record { state = s; ring = ring; cells = cells }

-- how a step ends: refused, with everything as it was; or finished, with the world that it leaves, its evaluations and the verdict bytes that it took
pub data StepEnd : Type 0 where
  refused : Refusal → StepEnd
  finished : World → ℕ → ℕ → StepEnd

-- refused, unless the test passes: `refused_unless` of a step's end
unfoldable pub unless : Refusal → Bool → StepEnd → StepEnd
unless why test rest = refused_unless (refused why) test rest

-- what row 4 does not refuse: as many verdicts as children; on a tape, at least as many
abbrev pub enough_verdicts : Bool → ℕ → ℕ → Bool
enough_verdicts tape children verdicts = cond tape (leb children verdicts) (eqb verdicts children)

-- the outcomes of the children of b under the verdicts, what the step does by them, and the blocks that it queues
abbrev pub outcomes_of : World → Block → List ℕ → List Outcome
outcomes_of w b vs = outcomes w.state.chosen (Cells.meanings w.cells) (children_of w.state.chosen b) vs

abbrev pub events_of : World → Block → List ℕ → List (Event Block)
events_of w b vs = events_for w.state.chosen b (children_of w.state.chosen b) (outcomes_of w b vs)

abbrev pub new_blocks : World → Block → List ℕ → List Block
new_blocks w b vs = queued_by (events_of w b vs)

-- their codes, each against the block queued before it
abbrev pub new_bytes : World → Block → List ℕ → List ℕ
new_bytes w b vs = Queue.queue_codes w.state.chosen.set (put_last w.state.back) (new_blocks w b vs)

-- what the step leaves, once the front block b is taken, with what is remembered of it and the head and the use that this leaves
unfoldable pub world_left : World → Block → Last → ℕ → ℕ → List ℕ → World
world_left w b last head used vs = record {
  state = record {
    chosen = w.state.chosen;
    taken = w.state.taken + 1;
    queued = w.state.queued + length (new_blocks w b vs);
    len = w.state.len;
    head = head;
    used = used + length (new_bytes w b vs);
    front = last;
    back = Queue.memory (put_last w.state.back) (new_blocks w b vs);
  };
  ring = stored_behind w.ring head used (new_bytes w b vs);
  cells = Cells.codes (cells_after w.state.chosen b w.state.taken w.state.queued (events_of w b vs) (Cells.meanings w.cells));
}

-- neither the block nor a cell that it covers is damaged
abbrev pub block_sound : Chosen → List ℕ → Block → Bool
block_sound p cells b = undamaged p b && not (cell_damaged p b (Cells.meanings cells))

-- refusals 5, 7 and 6, with as many verdicts as children
unfoldable pub judged : World → Block → Last → ℕ → ℕ → List ℕ → StepEnd
judged w b last head used own =
    unless R.Verdict (all_legal (children_of w.state.chosen b) own)
    (unless R.Numbers (leb (w.state.queued + length (new_blocks w b own)) (2 ^ 32))
    (unless R.Room (leb (used + length (new_bytes w b own)) (length w.ring))
    (finished (world_left w b last head used own) (evaluations (outcomes_of w b own)) (length (children_of w.state.chosen b)))))

-- refusals 8 of the block and 4, and then those
unfoldable pub after_taking : Bool → World → List ℕ → Result Taken QueueError → StepEnd
after_taking tape w vs (Err why) = refused R.Damaged
after_taking tape w vs (Ok t) =
    let children = length (children_of w.state.chosen t.block) in
    unless R.Damaged (block_sound w.state.chosen w.cells t.block)
    (unless R.Verdicts (enough_verdicts tape children (length vs))
    (judged w t.block t.last t.head t.used (take children vs)))

-- THE STEP: refusals 8 of the record, 2 and 13, and then the block's; on a tape, or a single one
unfoldable pub step_with : Bool → World → List ℕ → StepEnd
step_with tape w vs =
    unless R.Damaged (sound_record (length w.ring) w.state)
    (unless R.Cells (leb (pixel_count w.state.chosen) (length w.cells))
    (unless R.Empty (ltb w.state.taken w.state.queued)
    (after_taking tape w vs (front_of w.state w.ring))))

abbrev pub step_of : World → List ℕ → StepEnd
step_of = step_with false

abbrev pub tape_step_of : World → List ℕ → StepEnd
tape_step_of = step_with true

-- the answer of a step on a record, and the world afterwards: by a refusal the number, the record as given, and the world as it was
abbrev pub step_answer : State → StepEnd → Result Finished Refused
step_answer s (refused why) = Err (record { why = why; state = s })
step_answer s (finished left evals bytes) = Ok (record { state = left.state; evaluations = evals; verdicts = bytes })

abbrev pub world_after : World → StepEnd → World
world_after w (refused why) = w
world_after w (finished left evals bytes) = left

-- what a call answered, with the ring and the cells afterwards, is what the step's end says
abbrev pub EndsAs : World → StepEnd → Result Finished Refused → List ℕ → List ℕ → Type 0
EndsAs w e r ring cells = (r ≡ step_answer w.state e) × (ring ≡ (world_after w e).ring) × (cells ≡ (world_after w e).cells)
