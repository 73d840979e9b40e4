-- When a record agrees: what the queue's definitions answer to it is what the record holds. And how records are counted.
use Rattle.std.specs.Prelude.{Result, Ok, Err}
use Rattle.queue.specs.declared.QueueError.{QueueError}
use Rattle.queue.specs.declared.QueueError.TheVariants as Q
use Rattle.std.specs.Prelude.{Bool, true, false, ◌&&◌, List, ℕ, ◌+◌, eqb, length, get_or, take, drop, Option, Some, None}
use Rattle.std.specs.Str.{bytes_eq}
use Rattle.queue.specs.declared.Block.{Block}
use Rattle.queue.specs.declared.Last.{Last}
use Rattle.queue.specs.declared.Appended.{Appended}
use Rattle.queue.specs.declared.Taken.{Taken}
use Rattle.queue.specs.Queue.{taken, measured, appended}
use Rattle.replay_blocks.specs.declared.tested.Tested.{Tested}
use Rattle.replay_blocks.specs.declared.score.Score.{Score}
use Rattle.replay_blocks.specs.declared.score.Outcome.{Outcome}
use Rattle.replay_blocks.specs.declared.score.Outcome.TheVariants as O
use Rattle.replay_blocks.specs.declared.kind.Kind.{Kind}
use Rattle.replay_blocks.specs.declared.kind.Kind.TheVariants as K
use Rattle.replay_blocks.specs.Kind.{kind_of}
use Rattle.replay_blocks.specs.Record.{number_at, block_at, last_at, same_block, same_last, same_measure}

-- an answer to append against the answer, the use and the memory that are wanted
abbrev pub same_appended : Result Appended QueueError → ℕ → ℕ → Last → Bool
same_appended (Ok a) want used memory = eqb want 0 && eqb a.used used && same_last a.last memory
same_appended (Err Q.NoRoom) want used memory = eqb want 1
same_appended (Err Q.NotCodable) want used memory = eqb want 2
same_appended (Err Q.Outside) want used memory = eqb want 3
same_appended (Err Q.Damaged) want used memory = false

-- an answer to take against the answer, the head, the use, the block and the memory that are wanted
abbrev pub same_taken : Result Taken QueueError → ℕ → ℕ → ℕ → Block → Last → Bool
same_taken (Ok t) want head used block memory = eqb want 0 && eqb t.head head && eqb t.used used && same_block t.block block && same_last t.last memory
same_taken (Err Q.Damaged) want head used block memory = eqb want 1
same_taken (Err Q.Outside) want head used block memory = eqb want 2
same_taken (Err Q.NoRoom) want head used block memory = false
same_taken (Err Q.NotCodable) want head used block memory = false

-- the bytes of the ring under test
abbrev pub ring_of : Tested → List ℕ
ring_of q = take q.len q.buffer

-- a block is measured as the record says
abbrev pub measure_agrees : List ℕ → Tested → Bool
measure_agrees rec q = same_measure (measured q.set q.back (block_at rec 8)) (number_at rec 4) (last_at rec 91)

-- and appended
abbrev pub append_agrees : List ℕ → Tested → Bool
append_agrees rec q =
    measure_agrees rec q
    && same_appended
    (appended (length (ring_of q)) q.head q.used q.set q.back (block_at rec 8))
    (get_or rec 1 0)
    (number_at rec 2)
    (last_at rec 91)

-- the front block is the record's
abbrev pub take_agrees : List ℕ → Tested → Bool
take_agrees rec q =
    same_taken
    (taken (ring_of q) q.head q.used q.set q.front)
    (get_or rec 1 0)
    (number_at rec 2)
    (number_at rec 4)
    (block_at rec 8)
    (last_at rec 91)

-- the ring's bytes are the record's
abbrev pub ring_agrees : List ℕ → Tested → Bool
ring_agrees rec q = bytes_eq (ring_of q) (take q.len (drop 16 rec))

-- how a comparison went
abbrev pub compared : Bool → Outcome
compared true = O.Agreed
compared false = O.Differed

-- what becomes of a record of a kind: a start and a recall hold no answer, and one of no kind differs
abbrev pub outcome_of : Option Kind → List ℕ → Tested → Outcome
outcome_of (Some K.Start) rec q = O.SetUp
outcome_of (Some K.Append) rec q = compared (append_agrees rec q)
outcome_of (Some K.Take) rec q = compared (take_agrees rec q)
outcome_of (Some K.Compare) rec q = compared (ring_agrees rec q)
outcome_of (Some K.Recall) rec q = O.SetUp
outcome_of None rec q = O.Differed

abbrev pub outcome : List ℕ → Tested → Outcome
outcome rec q = outcome_of (kind_of (get_or rec 0 0)) rec q

-- how many records were counted
abbrev pub records : Score → ℕ
records t = t.agree + t.differ + t.setup

-- THE COUNTS with one record more: it set up, agreed or differed
abbrev pub counted_by : Outcome → Score → Score
counted_by O.SetUp t = record { agree = t.agree; differ = t.differ; setup = t.setup + 1 }
counted_by O.Agreed t = record { agree = t.agree + 1; differ = t.differ; setup = t.setup }
counted_by O.Differed t = record { agree = t.agree; differ = t.differ + 1; setup = t.setup }

-- and with a record of the list, by what becomes of it
abbrev pub tallied_by : List ℕ → Tested → Score → Score
tallied_by rec q t = counted_by (outcome rec q) t
