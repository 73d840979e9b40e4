-- A queue moved to another ring, longer or shorter: added. The same blocks in the same order, their codes from byte 0 on. What the old ring holds are these
-- codes, so they are copied as they are. Cells, counts and what is remembered stay. Refused by 8 for the record, which has the old ring's length, then by 6
-- where the codes do not fit, or the other ring has no byte.
use Rattle.std.specs.Prelude.{◌≡◌, ◌&&◌, List, ℕ, leb, ltb, length, Result, Ok, Err}
use Rattle.refusal.specs.declared.Refusal.{Refusal}
use Rattle.refusal.specs.declared.Refusal.TheVariants as R
use Rattle.queue.specs.Ring.{content, stored}
use Rattle.implicit.specs.declared.state.State.{State}
use Rattle.implicit.specs.declared.state.Refused.{Refused}
use Rattle.implicit.specs.Record.{refused_unless, sound_record}
use Rattle.implicit.specs.Step.{World, world_of}

-- the record with a ring of len bytes, and the head at byte 0
unfoldable pub moved_record : State → ℕ → State
moved_record s len = record {
  chosen = s.chosen;
  taken = s.taken;
  queued = s.queued;
  len = len;
  head = 0;
  used = s.used;
  front = s.front;
  back = s.back;
}

-- the world with the other ring, whose bytes behind the queue's stay
unfoldable pub moved_world : World → List ℕ → World
moved_world w ring = record {
  state = moved_record w.state (length ring);
  ring = stored ring 0 (content w.ring w.state.head w.state.used);
  cells = w.cells;
}

-- THE MOVE: refused, or the world that it leaves
pub data MoveEnd : Type 0 where
  not_moved : Refusal → MoveEnd
  moved : World → MoveEnd

unfoldable pub move_of : World → List ℕ → MoveEnd
move_of w ring =
    refused_unless (not_moved R.Damaged) (sound_record (length w.ring) w.state)
    (refused_unless (not_moved R.Room) (ltb 0 (length ring) && leb w.state.used (length ring)) (moved (moved_world w ring)))

-- the answer of a move, and the other ring afterwards: by a refusal the record as given, and the bytes as they were
abbrev pub move_answer : State → MoveEnd → Result State Refused
move_answer s (not_moved why) = Err (record { why = why; state = s })
move_answer s (moved left) = Ok left.state

abbrev pub other_after : List ℕ → MoveEnd → List ℕ
other_after other (not_moved why) = other
other_after other (moved left) = left.ring

-- what a call answered, with the other ring afterwards, is what the move's end says, whatever the cells are: the call is not lent them
abbrev pub MovesAs : State → List ℕ → List ℕ → Result State Refused → List ℕ → Type 0
MovesAs s ring other r after =
    (cells : List ℕ) → (r ≡ move_answer s (move_of (world_of s ring cells) other)) × (after ≡ other_after other (move_of (world_of s ring cells) other))
