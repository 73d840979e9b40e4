-- FOR READERS: the numbers of refusal, entry by entry, to be held against document 01's table. Each theorem tells the number of the answer
-- that an entry's contract names: that of the first row that applies, in the order of the paragraph below the table, and 0 where none does.
-- Assumes nothing.
use Rattle.queue.specs.declared.QueueError.{QueueError}
use mathlib.Core.Path.{◌≡◌, refl, ap}
use mathlib.Core.Bool.{Bool, true, false, not, ◌&&◌, ◌||◌}
use mathlib.Core.List.{List, [], ◌∷◌}
use Prim.Native.Nat.{ℕ, zero, suc, ◌+◌, ◌^◌, ◌≤◌}
use native.Mathlib.Omega.{arith}
use lib.Dec.{leb, ltb, eqb}
use lib.ListN.{length, take}
use borrow.Author.Tests.{leb-true, leb-false, lt-ltb, le-ltb, ne_eqb}
use Rattle.std.specs.Prelude.{Result, Ok, Err}
use Rattle.refusal.specs.declared.Refusal.{Refusal}
use Rattle.refusal.specs.declared.Refusal.TheVariants as R
use Rattle.refusal.specs.Number.{number}
unfoldable pub use Rattle.refusal.specs.Number.{first_of}
use Rattle.refusal.proofs.Rows.{row, none, one_fails}
use Rattle.image.specs.Cell.{is_damaged}
use Rattle.image.specs.Painting.{some_of}
use Rattle.queue.specs.declared.Taken.{Taken}
use Rattle.decide.specs.declared.Chosen.{Chosen}
use Rattle.decide.specs.Damage.{legal_side, undamaged}
use Rattle.decide.specs.Children.{children_of}
use Rattle.decide.specs.Verdict.{all_legal}
use Rattle.implicit.specs.declared.state.State.{State}
use Rattle.implicit.specs.declared.state.Ranges.{Ranges}
use Rattle.implicit.specs.Record.{pixel_count, pixel_cells, sound_record, queue_empty}
use Rattle.implicit.specs.Setup.{ranges_legal, first_bytes, setup_refusal, least_ring, start_record, started_by, setup_answer, cleared}
use Rattle.implicit.specs.Listing.{front_of, listed_block, listed_from, children_listed}
use Rattle.implicit.specs.Step.{World, StepEnd, refused, unless, enough_verdicts, new_blocks, new_bytes, block_sound, judged, after_taking, step_with, step_answer}
use Rattle.implicit.specs.Run.{RunEnd, RunResult, not_run, has_run, run_of, run_answer}
use Rattle.implicit.specs.Room.{enough_ring}
use Rattle.implicit.specs.Move.{MoveEnd, not_moved, move_of, move_answer}
use Rattle.implicit.specs.View.{cells_sound, picture_answer, counts_answer}
use Rattle.implicit.specs.Answers.{setup_number, setup_state, needed_number, move_number, step_number, run_number, call_number, children_number, counts_number, ending_word, run_word}
use Rattle.implicit.proofs.RecordLaws.{waiting_by_count}
use Rattle.implicit.proofs.RoomLaws.{least_exactly}

-- LAWS OF ROWS

-- a single row that applies
pub unread : 8 ≡ first_of ((8, true) ∷ [])
unfolding first_of
unread = refl

-- fewer than enough
pub fewer : (m n : ℕ) → ltb n m ≡ not (leb m n)
fewer m n = go (leb m n) refl
  where
    go : (k : Bool) → leb m n ≡ k → ltb n m ≡ not k
    go true e = le-ltb n m (leb-true m n e)
    go false e = lt-ltb n m (leb-false m n e)

-- no byte, or fewer than are used
no_room : (n used : ℕ) → eqb n 0 || ltb n used ≡ not (ltb 0 n && leb used n)
no_room zero used = refl
no_room (suc n) used = rw (ne_eqb (suc n) 0 (λ e. omega arith), lt-ltb 0 (suc n) (omega arith)) (fewer used (suc n))

pub not_not : (t : Bool) → t ≡ not (not t)
not_not true = refl
not_not false = refl

-- no block is left
pub none_left : (len : ℕ) (s : State) → sound_record len s ≡ true → queue_empty s ≡ not (ltb s.taken s.queued)
none_left len s h = rw (waiting_by_count len s h) (not_not (queue_empty s))

-- THE NUMBERS

-- no refusal has the number 0
pub never_zero : (why : Refusal) → ¬ (number why ≡ 0)
never_zero R.Side e = omega arith
never_zero R.Cells e = omega arith
never_zero R.Parameter e = omega arith
never_zero R.Verdicts e = omega arith
never_zero R.Verdict e = omega arith
never_zero R.Room e = omega arith
never_zero R.Numbers e = omega arith
never_zero R.Damaged e = omega arith
never_zero R.TooLarge e = omega arith
never_zero R.EndsEarly e = omega arith
never_zero R.HeadZero e = omega arith
never_zero R.Picture e = omega arith
never_zero R.Empty e = omega arith
never_zero R.Sheet e = omega arith
never_zero R.Bounds e = omega arith
never_zero R.Padding e = omega arith
never_zero R.Table e = omega arith
never_zero R.Pixel e = omega arith

-- setup
pub setup_number_lem : (p : Chosen) (r : Ranges) (len count : ℕ)
    → setup_number (setup_answer p r len count)
    ≡ first_of ((1, not (legal_side p.width) || not (legal_side p.height))
    ∷ (2, ltb count (pixel_count p))
    ∷ (3, not (ranges_legal p.set r))
    ∷ (6, ltb len (length (first_bytes p r)))
    ∷ [])
unfolding setup_answer setup_refusal
setup_number_lem p r len count =
    let f : Result (Unit {0}) Refusal → ℕ = λ e. setup_number (started_by e (start_record p r len)) in
    row f (legal_side p.width && legal_side p.height) (Err R.Side) _ _ _ (one_fails (legal_side p.width) (legal_side p.height)) (λ _.
    row f (leb (pixel_count p) count) (Err R.Cells) _ _ _ (fewer (pixel_count p) count) (λ _.
    row f (ranges_legal p.set r) (Err R.Parameter) _ _ _ refl (λ _.
    row f (leb (length (first_bytes p r)) len) (Err R.Room) _ _ _ (fewer (length (first_bytes p r)) len) (λ _. none))))

-- a setup whose number is 0 was accepted, with the record that it answers
pub ready_by_number : (d : Result State Refusal) (s : State) → setup_number d ≡ 0 → setup_state d ≡ s → d ≡ Ok s
ready_by_number (Ok t) s e f = ap Ok f
ready_by_number (Err why) s e f = absurd (never_zero why e)

-- the least ring
pub least_ring_number : (p : Chosen) (r : Ranges)
    → needed_number (least_ring p r) ≡ first_of ((1, not (legal_side p.width) || not (legal_side p.height)) ∷ (3, not (ranges_legal p.set r)) ∷ [])
unfolding least_ring
least_ring_number p r =
    row needed_number (legal_side p.width && legal_side p.height) (Err R.Side) _ _ _ (one_fails (legal_side p.width) (legal_side p.height)) (λ _.
    row needed_number (ranges_legal p.set r) (Err R.Parameter) _ _ _ refl (λ _. none))

-- and it is least: with enough cells a setup is refused by 6 on every shorter ring, and on no other
pub least_ring_is_least : (p : Chosen) (r : Ranges) (len count n : ℕ) → least_ring p r ≡ Ok n → pixel_count p ≤ count
    → setup_number (setup_answer (cleared p) r len count) ≡ first_of ((6, ltb len n) ∷ [])
unfolding setup_answer
least_ring_is_least p r len count n e cells =
    let f : Result (Unit {0}) Refusal → ℕ = λ e. setup_number (started_by e (start_record (cleared p) r len)) in
    rw (least_exactly p r len count n e cells) (row f (leb n len) (Err R.Room) _ _ _ (fewer n len) (λ _. none))

-- a ring that is enough for n steps
pub enough_ring_number : (p : Chosen) (r : Ranges) (n : ℕ)
    → needed_number (enough_ring p r n) ≡ first_of ((1, not (legal_side p.width) || not (legal_side p.height)) ∷ (3, not (ranges_legal p.set r)) ∷ [])
unfolding enough_ring
enough_ring_number p r n =
    row needed_number (legal_side p.width && legal_side p.height) (Err R.Side) _ _ _ (one_fails (legal_side p.width) (legal_side p.height)) (λ _.
    row needed_number (ranges_legal p.set r) (Err R.Parameter) _ _ _ refl (λ _. none))

-- the move of the queue to another ring
pub move_number_lem : (w : World) (other : List ℕ)
    → move_number (move_answer w.state (move_of w other))
    ≡ first_of ((8, not (sound_record (length w.ring) w.state)) ∷ (6, eqb (length other) 0 || ltb (length other) w.state.used) ∷ [])
unfolding move_of
move_number_lem w other =
    let f : MoveEnd → ℕ = λ e. move_number (move_answer w.state e) in
    let u = w.state.used in
    row f (sound_record (length w.ring) w.state) (not_moved R.Damaged) _ _ _ refl (λ _.
    row f (ltb 0 (length other) && leb u (length other)) (not_moved R.Room) _ _ _ (no_room (length other) u) (λ _. none))

-- the children: of the block that was read, without a look at cells
unfoldable pub listed_rows : Chosen → Result Taken QueueError → List (ℕ × Bool)
listed_rows p (Err why) = (8, true) ∷ []
listed_rows p (Ok t) = (8, not (undamaged p t.block)) ∷ []

listed_number : (s : State) (t : Result Taken QueueError) → children_number (listed_from s t) ≡ first_of (listed_rows s.chosen t)
unfolding listed_block listed_rows
listed_number s (Err why) = unread
listed_number s (Ok t) = row children_number (undamaged s.chosen t.block) (Err R.Damaged) _ _ _ refl (λ _. none)

pub children_number_lem : (s : State) (ring : List ℕ)
    → children_number (children_listed s ring) ≡ first_of ((8, not (sound_record (length ring) s)) ∷ (13, queue_empty s) ∷ listed_rows s.chosen (front_of s ring))
unfolding children_listed
children_number_lem s ring =
    row children_number (sound_record (length ring) s) (Err R.Damaged) _ _ _ refl (λ h.
    row children_number (ltb s.taken s.queued) (Err R.Empty) _ _ _ (none_left (length ring) s h) (λ _. listed_number s (front_of s ring)))

-- the step, on a tape or a single one: of the block that was read, `used` being the bytes used without its own; a verdict for each of its children is looked at
unfoldable pub block_rows : Bool → World → List ℕ → Result Taken QueueError → List (ℕ × Bool)
block_rows tape w vs (Err why) = (8, true) ∷ []
block_rows tape w vs (Ok t) =
    let cs = children_of w.state.chosen t.block in
    let own = take (length cs) vs in
    (8, not (block_sound w.state.chosen w.cells t.block))
    ∷ (4, not (enough_verdicts tape (length cs) (length vs)))
    ∷ (5, not (all_legal cs own))
    ∷ (7, ltb (2 ^ 32) (w.state.queued + length (new_blocks w t.block own)))
    ∷ (6, ltb (length w.ring) (t.used + length (new_bytes w t.block own)))
    ∷ []

pub block_number : (tape : Bool) (w : World) (vs : List ℕ) (t : Result Taken QueueError) → step_number (step_answer w.state (after_taking tape w vs t)) ≡ first_of (block_rows tape w vs t)
unfolding after_taking judged unless block_rows
block_number tape w vs (Err why) = unread
block_number tape w vs (Ok t) =
    let f : StepEnd → ℕ = λ e. step_number (step_answer w.state e) in
    let cs = children_of w.state.chosen t.block in
    let own = take (length cs) vs in
    row f (block_sound w.state.chosen w.cells t.block) (refused R.Damaged) _ _ _ refl (λ _.
    row f (enough_verdicts tape (length cs) (length vs)) (refused R.Verdicts) _ _ _ refl (λ _.
    row f (all_legal cs own) (refused R.Verdict) _ _ _ refl (λ _.
    row f (leb (w.state.queued + length (new_blocks w t.block own)) (2 ^ 32)) (refused R.Numbers) _ _ _
    (fewer (w.state.queued + length (new_blocks w t.block own)) (2 ^ 32)) (λ _.
    row f (leb (t.used + length (new_bytes w t.block own)) (length w.ring)) (refused R.Room) _ _ _
    (fewer (t.used + length (new_bytes w t.block own)) (length w.ring)) (λ _. none)))))

pub step_number_lem : (tape : Bool) (w : World) (vs : List ℕ)
    → step_number (step_answer w.state (step_with tape w vs))
    ≡ first_of ((8, not (sound_record (length w.ring) w.state))
    ∷ (2, ltb (length w.cells) (pixel_count w.state.chosen))
    ∷ (13, queue_empty w.state)
    ∷ block_rows tape w vs (front_of w.state w.ring))
unfolding step_with unless
step_number_lem tape w vs =
    let f : StepEnd → ℕ = λ e. step_number (step_answer w.state e) in
    let p = w.state.chosen in
    row f (sound_record (length w.ring) w.state) (refused R.Damaged) _ _ _ refl (λ h.
    row f (leb (pixel_count p) (length w.cells)) (refused R.Cells) _ _ _ (fewer (pixel_count p) (length w.cells)) (λ _.
    row f (ltb w.state.taken w.state.queued) (refused R.Empty) _ _ _ (none_left (length w.ring) w.state h) (λ _.
    block_number tape w vs (front_of w.state w.ring))))

-- the run
pub run_number_lem : (budget : ℕ) (w : World) (tape : List ℕ)
    → run_number (run_answer w.state (run_of budget w tape))
    ≡ first_of ((8, not (sound_record (length w.ring) w.state)) ∷ (2, ltb (length w.cells) (pixel_count w.state.chosen)) ∷ [])
unfolding run_of
run_number_lem budget w tape =
    let f : RunResult → ℕ = λ a. run_number (run_answer w.state a) in
    let p = w.state.chosen in
    row f (sound_record (length w.ring) w.state) (not_run R.Damaged) _ _ _ refl (λ _.
    row f (leb (pixel_count p) (length w.cells)) (not_run R.Cells) _ _ _ (fewer (pixel_count p) (length w.cells)) (λ _. none))

-- its word, where it is not refused, is its ending's
pub run_word_lem : (budget : ℕ) (w : World) (tape : List ℕ) (e : RunEnd) → run_of budget w tape ≡ has_run e
    → run_word (run_answer w.state (run_of budget w tape)) ≡ ending_word e.ending
run_word_lem budget w tape e h = ap (λ a. run_word (run_answer w.state a)) h

-- the picture, into so many bytes of room
pub picture_number : (s : State) (cells : List ℕ) (room : ℕ)
    → call_number (picture_answer s cells room)
    ≡ first_of ((8, not (sound_record s.len s))
    ∷ (2, ltb (length cells) (pixel_count s.chosen))
    ∷ (12, ltb room (pixel_count s.chosen))
    ∷ (8, some_of is_damaged (pixel_cells s.chosen cells))
    ∷ [])
unfolding picture_answer
picture_number s cells room =
    let p = s.chosen in
    row call_number (sound_record s.len s) (Err R.Damaged) _ _ _ refl (λ _.
    row call_number (leb (pixel_count p) (length cells)) (Err R.Cells) _ _ _ (fewer (pixel_count p) (length cells)) (λ _.
    row call_number (leb (pixel_count p) room) (Err R.Picture) _ _ _ (fewer (pixel_count p) room) (λ _.
    row call_number (cells_sound s cells) (Err R.Damaged) _ _ _ (not_not (some_of is_damaged (pixel_cells p cells))) (λ _. none))))

-- the counts
pub counts_number_lem : (s : State) (cells : List ℕ)
    → counts_number (counts_answer s cells)
    ≡ first_of ((8, not (sound_record s.len s))
    ∷ (2, ltb (length cells) (pixel_count s.chosen))
    ∷ (8, some_of is_damaged (pixel_cells s.chosen cells))
    ∷ [])
unfolding counts_answer
counts_number_lem s cells =
    let p = s.chosen in
    row counts_number (sound_record s.len s) (Err R.Damaged) _ _ _ refl (λ _.
    row counts_number (leb (pixel_count p) (length cells)) (Err R.Cells) _ _ _ (fewer (pixel_count p) (length cells)) (λ _.
    row counts_number (cells_sound s cells) (Err R.Damaged) _ _ _ (not_not (some_of is_damaged (pixel_cells p cells))) (λ _. none)))
