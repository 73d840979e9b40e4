-- The answers: document 01's number of each error, 0 where the call was done, and its values. A ring,
-- a block or a memory that cannot be is damage. A value that a refused call does not have is blank: 0, the
-- memory before the first block, or the block of blank coordinates and whole lines.
use Rattle.std.specs.Prelude.{Result, Ok, Err}
use Rattle.queue.specs.declared.QueueError.{QueueError}
use Rattle.queue.specs.declared.QueueError.TheVariants as Q
use Rattle.std.specs.Prelude.{ℕ}
use Rattle.refusal.specs.Number.{number}
use Rattle.refusal.specs.declared.Refusal.{Refusal}
use Rattle.refusal.specs.declared.Refusal.TheVariants as R
use Rattle.coordinate.specs.Answers.{blank_coordinate}
use Rattle.queue.specs.declared.Block.{Block}
use Rattle.queue.specs.declared.Last.{Last}
use Rattle.queue.specs.declared.Taken.{Taken}
use Rattle.queue.specs.declared.Appended.{Appended}
use Rattle.queue.specs.declared.Measured.{Measured}
use Rattle.queue.specs.Block.{whole_line, starting_last}

-- the refusal that an error is
abbrev pub refusal_of : QueueError → Refusal
refusal_of Q.NoRoom = R.Room
refusal_of Q.Damaged = R.Damaged
refusal_of Q.Outside = R.Damaged
refusal_of Q.NotCodable = R.Damaged

abbrev pub blank_block : Block
blank_block =
    record { x = blank_coordinate; y = blank_coordinate; m = whole_line; n = whole_line; theta = whole_line; t = whole_line; dir = 0 }

-- TAKE: its number, the front block, what is remembered of it, and the head and the use afterwards
abbrev pub taken_number : Result Taken QueueError → ℕ
taken_number (Ok t) = 0
taken_number (Err why) = number R.Damaged

abbrev pub taken_block : Result Taken QueueError → Block
taken_block (Ok t) = t.block
taken_block (Err why) = blank_block

abbrev pub taken_last : Result Taken QueueError → Last
taken_last (Ok t) = t.last
taken_last (Err why) = starting_last

abbrev pub taken_head : Result Taken QueueError → ℕ
taken_head (Ok t) = t.head
taken_head (Err why) = 0

abbrev pub taken_used : Result Taken QueueError → ℕ
taken_used (Ok t) = t.used
taken_used (Err why) = 0

-- APPEND: its number, what is remembered of the block, and the use afterwards
abbrev pub appended_number : Result Appended QueueError → ℕ
appended_number (Ok a) = 0
appended_number (Err why) = number (refusal_of why)

abbrev pub appended_last : Result Appended QueueError → Last
appended_last (Ok a) = a.last
appended_last (Err why) = starting_last

abbrev pub appended_used : Result Appended QueueError → ℕ
appended_used (Ok a) = a.used
appended_used (Err why) = 0

-- MEASURE: its number, the bytes that the code takes, and what would be remembered
abbrev pub measured_number : Result Measured QueueError → ℕ
measured_number (Ok m) = 0
measured_number (Err why) = number R.Damaged

abbrev pub measured_count : Result Measured QueueError → ℕ
measured_count (Ok m) = m.count
measured_count (Err why) = 0

abbrev pub measured_last : Result Measured QueueError → Last
measured_last (Ok m) = m.last
measured_last (Err why) = starting_last

-- COPY: its number; it has no other value
abbrev pub copied_number : Result (Unit {0}) QueueError → ℕ
copied_number (Ok done) = 0
copied_number (Err why) = number (refusal_of why)
