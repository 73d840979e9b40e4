-- Document 02, (v): what a reason for a pixel's reading promises, by the history of the finished steps. What a past step is, which of them mark the
-- pixel, take a block that covers it or give it up, and the reason itself stand in specs/ History and Reasons of `explain`; the list words in
-- base's Places. A history has the latest step first; steps and children count from 1.
use Rattle.std.specs.Prelude.{◌≡◌, Bool, List, [], ◌∷◌, ℕ, zero, suc, ◌-◌, ◌≤◌, T, length}
use Rattle.base.specs.Lists.{Every}
use Rattle.base.specs.Places.{IsFirst, IsLast, Latest}
use Rattle.theory.specs.Colours.{Question, Holds}
use Rattle.image.specs.declared.Reading.TheVariants as Reads
use Rattle.image.specs.Cell.{Named, meanings}
use Rattle.image.specs.Painting.{pixel_cell}
use Rattle.queue.specs.declared.Block.{Block}
use Rattle.decide.specs.declared.Chosen.{Chosen}
use Rattle.decide.specs.declared.verdict.Outcome.{Outcome}
use Rattle.decide.specs.declared.verdict.Outcome.TheVariants as O
use Rattle.decide.specs.Verdict.{result_of}
use Rattle.implicit.specs.Step.{World}
use Rattle.explain.specs.declared.reason.Moment.{Moment}
use Rattle.explain.specs.declared.reason.Reason.{Reason}
use Rattle.explain.specs.declared.reason.Reason.TheVariants as B
use Rattle.explain.specs.History.{Answered, PastStep, past_step}
use Rattle.explain.specs.Reasons.{finds_none, marks_here, denies_here, marks_in, takes_here, gives_up_here}
use Rattle.promises.specs.Chart.{Pixel, covers_in, queued_blocks}
use Rattle.promises.specs.Steps.{Steps, no_steps, then_step, then_move, reads_in, StandsGivenUp}

-- ---- the history of steps

-- the steps so far, and one under these verdicts, which takes the first block of the queue
unfoldable pub past_with : World → List ℕ → List Block → List PastStep → List PastStep
past_with w vs [] h = h
past_with w vs (b ∷ rest) h = past_step w vs b ∷ h

-- all of them; a move is none
unfoldable pub past_in : {n : ℕ} {w w' : World} → Steps n w w' → List PastStep
past_in no_steps = []
past_in (then_step {w' = w'} r vs evals bytes e) = past_with w' vs (queued_blocks w') (past_in r)
past_in (then_move r m) = past_in r

-- ---- the reasons

-- "whether the area verdict or which sample point": 0 is the area verdict
unfoldable pub marking_by : ℕ → Outcome
marking_by zero = O.Area
marking_by (suc k) = O.Point (suc k)

module _ (p : Chosen) (q : Pixel p) where
  -- the block covers the pixel
  abbrev pub over_pixel : Block → Bool
  over_pixel b = covers_in p b q

  -- no step of these marked the pixel; none gave it up
  abbrev pub NoMark : List PastStep → Type 0
  NoMark h = Every (λ e. ¬ T (marks_in p over_pixel e)) h

  abbrev pub NoGivingUp : List PastStep → Type 0
  NoGivingUp h = Every (λ e. ¬ T (gives_up_here p over_pixel e)) h

  -- "For True: the step, the child's place in it, and whether the area verdict or which sample point marked it last." Neither that step nor one
  -- since gave it up
  pub record WhyTrue (h : List PastStep) (at : Moment) (point : ℕ) : Type 0 where
    pub last : Latest (marks_in p over_pixel) h
    pub step_is : at.step ≡ suc (length last.before)
    pub child_is : IsLast (marks_here p over_pixel) last.this.answers at.child
    pub marked_by : child_is.this.outcome ≡ marking_by point
    pub not_withdrawn : NoGivingUp (last.this ∷ last.since)

  -- "For False: the step that took the last covering block, and the first covering child answered false"; "it is also proved that every covering
  -- child of that step was answered false": it was looked at, and the result bits of its verdict are 0. No step ever marked the pixel or gave it up
  pub record WhyFalse (h : List PastStep) (at : Moment) : Type 0 where
    pub last : Latest (takes_here p over_pixel) h
    pub step_is : at.step ≡ suc (length last.before)
    pub child_is : IsFirst (denies_here p over_pixel) last.this.answers at.child
    pub all_false : Every (λ a. T (covers_in p a.child q) → (a.outcome ≡ O.False) × (result_of a.verdict ≡ 0)) last.this.answers
    pub never_marked : NoMark h
    pub never_given_up : NoGivingUp h

  -- "For given up: the last step that gave it up and the first child there that found no direction." No step since marked it
  pub record WhyGivenUp (h : List PastStep) (at : Moment) : Type 0 where
    pub last : Latest (gives_up_here p over_pixel) h
    pub step_is : at.step ≡ suc (length last.before)
    pub child_is : IsFirst (finds_none p last.this) last.this.answers at.child
    pub not_marked_since : NoMark last.since

  -- "For waiting: the last queued block that covers it and how many stand before it." Its cell names the block's number; no step ever marked it or
  -- gave it up
  pub record WhyWaiting (h : List PastStep) (w : World) (number before : ℕ) (block : Block) : Type 0 where
    pub cell_is : pixel_cell p.width p.height q.x q.y (meanings w.cells) ≡ Named number
    pub not_taken : w.state.taken ≤ number
    pub last : IsLast over_pixel (queued_blocks w) (suc before)
    pub stand_before : before ≡ number - w.state.taken
    pub block_is : block ≡ last.this
    pub never_marked : NoMark h
    pub never_given_up : NoGivingUp h

  -- THE PROMISE of a reason, after the steps of a history, which left this world: it is the one that the pixel's reading asks for, and it names
  -- what happened
  unfoldable pub Explains : List PastStep → World → Reason → Type 0
  Explains h w (B.True at point) = (reads_in p w q ≡ Reads.True) × WhyTrue h at point
  Explains h w (B.False at) = (reads_in p w q ≡ Reads.False) × WhyFalse h at
  Explains h w (B.GivenUp at) = StandsGivenUp p w q × WhyGivenUp h at
  Explains h w (B.Waiting number before block) = (reads_in p w q ≡ Reads.Uncertain) × WhyWaiting h w number before block

  -- a false answer is right as far as this pixel is concerned: no mix of the pixel in the child solves
  unfoldable pub RightAnswer : Question Block (Pixel p) → Answered → Type 0
  RightAnswer Q a = a.outcome ≡ O.False → (x : Q.Mix) → Q.Given x → Q.At x q → Holds (covers_in p) Q x q a.child → ¬ Q.Solves x

  -- and so of all answers of some steps
  abbrev pub RightAnswers : Question Block (Pixel p) → List PastStep → Type 0
  RightAnswers Q h = Every (λ e. Every (RightAnswer Q) e.answers) h
