-- The queue: what take, append, measure and copy answer, and the list of blocks that the ring's bytes decode to.
-- Document 01, "The queue's bytes": taking frees the block's bytes at once, the ring may become full to its last
-- byte, and appending changes no byte but those of the new code.
use Rattle.std.specs.Prelude.{Result, Ok, Err}
use Rattle.queue.specs.declared.QueueError.{QueueError}
use Rattle.queue.specs.declared.QueueError.TheVariants as Q
use Rattle.std.specs.Prelude.{Bool, cond, ◌&&◌, List, [], ◌∷◌, ◌++◌, ℕ, zero, suc, ◌+◌, ◌-◌, leb, length, drop, Option, Some, None}
use Rattle.queue.specs.declared.Block.{Block}
use Rattle.queue.specs.declared.Last.{Last}
use Rattle.queue.specs.declared.Peeked.{Peeked}
use Rattle.queue.specs.declared.Taken.{Taken}
use Rattle.queue.specs.declared.Appended.{Appended}
use Rattle.queue.specs.declared.Measured.{Measured}
use Rattle.queue.specs.Ring.{content, fits_ring, wrapped, stored, stored_behind}
use Rattle.queue.specs.Block.{as_queued, remembered}
use Rattle.queue.specs.Code.{encode, can_queue, indices_known}
use Rattle.queue.specs.Decode.{decode}

-- an answer that was given, by its parts
abbrev pub front_taken : Block → Last → ℕ → ℕ → Result Taken QueueError
front_taken b last head used = Ok (record { block = b; last = last; head = head; used = used })

abbrev pub code_appended : Last → ℕ → Result Appended QueueError
code_appended last used = Ok (record { last = last; used = used })

abbrev pub code_measured : ℕ → Last → Result Measured QueueError
code_measured count last = Ok (record { count = count; last = last })

-- the front block, what is remembered of it, and the head and the use once its bytes are free
abbrev pub taken_with : ℕ → ℕ → ℕ → Option (Block × ℕ) → Result Taken QueueError
taken_with len head used (Some (b, count)) = front_taken b (remembered b) (wrapped len (head + count)) (used - count)
taken_with len head used None = Err Q.Damaged

unfoldable pub taken : List ℕ → ℕ → ℕ → ℕ → Last → Result Taken QueueError
taken ring head used set front =
    cond (fits_ring (length ring) head used)
    (taken_with (length ring) head used (decode set front (content ring head used)))
    (Err Q.Outside)

-- the front block that was read, as taken
abbrev pub taken_by : Result Peeked QueueError → Result Taken QueueError
taken_by (Ok p) = front_taken p.block (remembered p.block) p.head p.used
taken_by (Err why) = Err why

-- a block can be coded if it can be queued and the remembered indices are ones that a block can have
abbrev pub codable : ℕ → Last → Block → Bool
codable set back b = can_queue set b && indices_known back

-- the code of a block as the queue keeps it
abbrev pub code_of_kept : ℕ → Last → Block → List ℕ
code_of_kept set back b = encode set back (as_queued set b)

-- the bytes that a block's code takes, and what is remembered once it is queued
unfoldable pub measured : ℕ → Last → Block → Result Measured QueueError
measured set back b =
    cond (codable set back b) (code_measured (length (code_of_kept set back b)) (remembered (as_queued set b))) (Err Q.NotCodable)

-- a code appended: what is remembered of its block and the use afterwards, if there is room
abbrev pub appended_code : ℕ → ℕ → List ℕ → Last → Result Appended QueueError
appended_code len used code last = cond (leb (used + length code) len) (code_appended last (used + length code)) (Err Q.NoRoom)

-- a block appended: the same, or why not
unfoldable pub appended : ℕ → ℕ → ℕ → ℕ → Last → Block → Result Appended QueueError
appended len head used set back b =
    cond (fits_ring len head used)
    (cond (codable set back b) (appended_code len used (code_of_kept set back b) (remembered (as_queued set b))) (Err Q.NotCodable))
    (Err Q.Outside)

-- the ring's bytes afterwards: changed only by what is done
abbrev pub changed_by : Result Appended QueueError → List ℕ → List ℕ → List ℕ
changed_by (Ok a) ring after = after
changed_by (Err why) ring after = ring

unfoldable pub appended_ring : List ℕ → ℕ → ℕ → ℕ → Last → Block → List ℕ
appended_ring ring head used set back b =
    changed_by (appended (length ring) head used set back b) ring (stored_behind ring head used (code_of_kept set back b))

-- the bytes used copied to another ring of so many bytes, in which byte 0 is the head
unfoldable pub copied : ℕ → ℕ → ℕ → ℕ → Result (Unit {0}) QueueError
copied len head used other = cond (fits_ring len head used) (cond (fits_ring other 0 used) (Ok tt) (Err Q.NoRoom)) (Err Q.Outside)

-- the other ring's bytes afterwards: changed only by what is done
abbrev pub if_copied : Result (Unit {0}) QueueError → List ℕ → List ℕ → List ℕ
if_copied (Ok done) after before = after
if_copied (Err why) after before = before

unfoldable pub copied_ring : List ℕ → ℕ → ℕ → List ℕ → List ℕ
copied_ring ring head used other =
    if_copied (copied (length ring) head used (length other)) (stored other 0 (content ring head used)) other

-- the first so many blocks that bytes decode to, the reader remembering each: what a theorem calls the queue
abbrev pub and_then : Option (Block × ℕ) → (Block → ℕ → List Block) → List Block
and_then (Some (b, count)) rest = b ∷ rest b count
and_then None rest = []

unfoldable pub queue_of : ℕ → Last → ℕ → List ℕ → List Block
queue_of set front zero bytes = []
queue_of set front (suc n) bytes =
    and_then (decode set front bytes) (λ b count. queue_of set (remembered b) n (drop count bytes))

-- the codes of blocks, each against the one before, and what is remembered after the last
unfoldable pub queue_codes : ℕ → Last → List Block → List ℕ
queue_codes set last [] = []
queue_codes set last (b ∷ q) = encode set last b ++ queue_codes set (remembered b) q

unfoldable pub memory : Last → List Block → Last
memory last [] = last
memory last (b ∷ q) = memory (remembered b) q
