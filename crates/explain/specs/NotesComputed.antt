-- The notes kept of the steps so far, and what one step more adds: what private functions compute. The laws say that they are the
-- moments of the page Reasons.
use Rattle.std.specs.Prelude.{Result, Ok, Err}
use Rattle.queue.specs.declared.QueueError.{QueueError}
use Rattle.std.specs.Prelude.{cond, List, ℕ, Option, Some, None}
use Rattle.std.specs.Option.{unwrap_or}
use Rattle.queue.specs.declared.Block.{Block}
use Rattle.queue.specs.declared.Taken.{Taken}
use Rattle.decide.specs.declared.Chosen.{Chosen}
use Rattle.decide.specs.ChildAt.{cut_of}
use Rattle.plan.specs.AtOnce.{judged_of}
use Rattle.explain.specs.declared.look.Look.{Look}
use Rattle.explain.specs.declared.look.Mark.{Mark}
use Rattle.explain.specs.declared.noting.Notes.{Notes}
use Rattle.explain.specs.declared.reason.Moment.{Moment}
use Rattle.explain.specs.Reasons.{covers_at, moment_at}
use Rattle.explain.specs.LookComputed.{looked_by}

-- nothing happened yet
abbrev pub no_notes : Notes
no_notes = record { mark = moment_at 0 0; point = 0; denial = moment_at 0 0; up = moment_at 0 0 }

-- this step with a child's place in it, if there is one, else the moment before
abbrev pub later_moment : ℕ → Option ℕ → Moment → Moment
later_moment step None before = before
later_moment step (Some child) before = moment_at step child

-- the place in this step of a child that marks the pixel, and the sample point's
abbrev pub marked_child : Option Mark → Option ℕ
marked_child None = None
marked_child (Some m) = Some m.child

abbrev pub marked_point : Option Mark → ℕ → ℕ
marked_point None before = before
marked_point (Some m) before = m.point

-- the notes with a step that took a covering block
abbrev pub with_look : Notes → ℕ → Look → Notes
with_look k step l = record {
  mark = later_moment step (marked_child l.mark) k.mark;
  point = marked_point l.mark k.point;
  denial = moment_at step (unwrap_or l.denied 0);
  up = later_moment step l.stuck k.up;
}

-- the same for any block, with the cells before the step and the tape that it is given
unfoldable pub noted_block : Chosen → ℕ → ℕ → List ℕ → List ℕ → ℕ → Block → Notes → Notes
noted_block p column row cells tape step b k =
    cond (covers_at p column row b)
    (with_look k step (looked_by p (covers_at p column row) b (cut_of p b) (judged_of p b (cut_of p b) tape cells))) k

-- and for what is read at the front
abbrev pub noted_front : Chosen → ℕ → ℕ → List ℕ → List ℕ → ℕ → Result Taken QueueError → Notes → Notes
noted_front p column row cells tape step (Err why) k = k
noted_front p column row cells tape step (Ok t) k = noted_block p column row cells tape step t.block k
