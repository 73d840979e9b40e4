-- Document 02, (v), the reason, by what the pixel reads and by the history of the finished steps. Steps and children count from 1,
-- children over all of their step, the skipped ones too; 0 is none. `here` says which blocks cover the pixel.
use Rattle.std.specs.Prelude.{Result, Ok, Err}
use Rattle.queue.specs.declared.QueueError.{QueueError}
use Rattle.std.specs.Prelude.{Bool, true, false, cond, ◌&&◌, List, map, ℕ, zero, suc, ◌-◌, ◌*◌, ◌+◌, get_or}
use Rattle.base.specs.Places.{any_of, first_place, last_place, last_value, latest_number, latest_value}
use Rattle.image.specs.declared.PixelRange.{PixelRange}
use Rattle.image.specs.declared.Reading.{Reading}
use Rattle.image.specs.declared.Reading.TheVariants as R
use Rattle.image.specs.Cell.{Cell, Named, cell_code, is_given_up, reading, meanings}
use Rattle.image.specs.Range.{in_stretch, rectangle_of}
use Rattle.queue.specs.declared.Block.{Block}
use Rattle.queue.specs.declared.Taken.{Taken}
use Rattle.queue.specs.Answers.{blank_block, taken_block}
use Rattle.queue.specs.Queue.{taken}
use Rattle.decide.specs.declared.Chosen.{Chosen}
use Rattle.decide.specs.declared.verdict.Outcome.{Outcome}
use Rattle.decide.specs.declared.verdict.Outcome.TheVariants as O
use Rattle.decide.specs.Verdict.{is_marking, is_incomplete}
use Rattle.decide.specs.Turn.{Turned, To, Nowhere, turned}
use Rattle.plan.specs.Plan.{incomplete_count}
use Rattle.implicit.specs.declared.state.State.{State}
use Rattle.implicit.specs.Listing.{front_of}
use Rattle.implicit.specs.Step.{World}
use Rattle.explain.specs.declared.reason.Moment.{Moment}
use Rattle.explain.specs.declared.reason.Reason.{Reason}
use Rattle.explain.specs.declared.reason.Reason.TheVariants as B
use Rattle.explain.specs.History.{Answered, PastStep}

-- ---- which blocks cover the pixel

-- the pixel in this column, and in this row from the top, lies in the rectangle
abbrev pub holds_pixel : PixelRange → ℕ → ℕ → Bool
holds_pixel r column row = in_stretch r.left r.right column && in_stretch r.top r.bottom row

-- the block covers it
unfoldable pub covers_at : Chosen → ℕ → ℕ → Block → Bool
covers_at p column row b = holds_pixel (rectangle_of b.x b.y p.width p.height) column row

-- ---- what an answer does

-- "answered false": the child was looked at, and the result of its verdict is false
abbrev pub is_denied : Outcome → Bool
is_denied O.Skipped = false
is_denied O.False = true
is_denied O.Area = false
is_denied (O.Point place) = false
is_denied (O.Incomplete tried) = false

-- "the area verdict or which sample point": 0 for the area verdict, else the place of the point
abbrev pub point_of : Outcome → ℕ
point_of O.Skipped = 0
point_of O.False = 0
point_of O.Area = 0
point_of (O.Point place) = place
point_of (O.Incomplete tried) = 0

-- no direction was found
abbrev pub is_nowhere : Turned → Bool
is_nowhere (To d) = false
is_nowhere Nowhere = true

-- where a child of the step would go on
abbrev pub turned_in : Chosen → PastStep → Block → Turned
turned_in p e = turned p e.block (incomplete_count (map (λ (a : Answered). a.outcome) e.answers))

-- "found no direction": the child is incomplete, and there is none
unfoldable pub finds_none : Chosen → PastStep → Answered → Bool
finds_none p e a = is_incomplete a.outcome && is_nowhere (turned_in p e a.child)

-- a moment by its two numbers
abbrev pub moment_at : ℕ → ℕ → Moment
moment_at step child = record { step = step; child = child }

module _ (p : Chosen) (here : Block → Bool) where
  -- a covering child that marks its pixels; one that is answered false
  unfoldable pub marks_here : Answered → Bool
  marks_here a = is_marking a.outcome && here a.child

  unfoldable pub denies_here : Answered → Bool
  denies_here a = is_denied a.outcome && here a.child

  -- the step marks the pixel; it takes a block that covers it; it gives the pixel up, as all of its block, where a child finds no
  -- direction
  unfoldable pub marks_in : PastStep → Bool
  marks_in e = any_of marks_here e.answers

  unfoldable pub takes_here : PastStep → Bool
  takes_here e = here e.block

  unfoldable pub gives_up_here : PastStep → Bool
  gives_up_here e = here e.block && any_of (finds_none p e) e.answers

  -- "the step, the child's place in it, and whether the area verdict or which sample point marked it last"
  unfoldable pub last_mark : List PastStep → Moment
  last_mark h = moment_at (latest_number marks_in h) (latest_value marks_in (λ e. last_place marks_here e.answers) 0 h)

  unfoldable pub last_point : List PastStep → ℕ
  last_point h = latest_value marks_in (λ e. last_value marks_here (λ a. point_of a.outcome) 0 e.answers) 0 h

  -- "the step that took the last covering block, and the first covering child answered false"
  unfoldable pub last_denial : List PastStep → Moment
  last_denial h = moment_at (latest_number takes_here h) (latest_value takes_here (λ e. first_place denies_here e.answers) 0 h)

  -- "the last step that gave it up and the first child there that found no direction"
  unfoldable pub last_giving_up : List PastStep → Moment
  last_giving_up h = moment_at (latest_number gives_up_here h) (latest_value gives_up_here (λ e. first_place (finds_none p e) e.answers) 0 h)

-- ---- the reason

-- the block that comes out of the queue once so many before it were taken, where this is what is taken first
unfoldable pub block_behind : ℕ → List ℕ → ℕ → Result Taken QueueError → Block
block_behind zero ring set t = taken_block t
block_behind (suc d) ring set (Err why) = blank_block
block_behind (suc d) ring set (Ok t) = block_behind d ring set (taken ring t.head t.used set t.last)

-- "the last queued block that covers it and how many stand before it": it is the one of this number, which the pixel's cell names
unfoldable pub waiting_for : State → List ℕ → ℕ → Reason
waiting_for s ring n = B.Waiting n (n - s.taken) (block_behind (n - s.taken) ring s.chosen.set (front_of s ring))

-- by what the pixel reads; one that is Uncertain is given up, or waits
abbrev pub reason_by : Chosen → (Block → Bool) → World → List PastStep → Cell → Reading → Reason
reason_by p here w h c R.True = B.True (last_mark p here h) (last_point p here h)
reason_by p here w h c R.False = B.False (last_denial p here h)
reason_by p here w h c R.Uncertain =
    cond (is_given_up c) (B.GivenUp (last_giving_up p here h)) (waiting_for w.state w.ring (cell_code c))

-- THE REASON for a pixel with this cell, after the steps of a history that left this world
unfoldable pub reason_of : (Block → Bool) → World → List PastStep → Cell → Reason
reason_of here w h c = reason_by w.state.chosen here w h c (reading w.state.taken c)

-- the cell of the pixel in this column, and in this row from the top
abbrev pub cell_at : Chosen → ℕ → ℕ → List ℕ → Cell
cell_at p column row cells = get_or (meanings cells) (row * p.width + column) (Named 0)
