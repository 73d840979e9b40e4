-- Demand 3's conditions and its words, over the definitions that the engine's contracts cite: an accepted setup, finished steps each on the
-- record, ring and cells that setup or the step before it left, with moves between them, what a pixel reads, and what was queued and given up on
-- the way.
use Rattle.std.specs.Prelude.{◌≡◌, ◌⊎◌, Bool, true, false, ◌&&◌, List, [], ◌∷◌, ◌++◌, ℕ, zero, suc, ◌+◌, ◌-◌, ◌^◌, ◌≤◌, T, length}
use Rattle.base.specs.Lists.{Every}
use Rattle.theory.specs.Demand3.{any_gives_up}
use Rattle.refusal.specs.declared.Refusal.{Refusal}
use Rattle.refusal.specs.Number.{number}
use Rattle.interval.specs.Bounds.{InFormat}
use Rattle.image.specs.declared.Reading.{Reading}
use Rattle.image.specs.Cell.{GivenUp, reading, meanings}
use Rattle.image.specs.Painting.{pixel_cell}
use Rattle.queue.specs.declared.Block.{Block}
use Rattle.queue.specs.declared.directions.Direction.TheVariants as D
use Rattle.queue.specs.Directions.{in_use, parameters}
use Rattle.queue.specs.Code.{encode}
use Rattle.decide.specs.declared.Chosen.{Chosen}
use Rattle.decide.specs.Children.{children_of}
use Rattle.decide.specs.Verdict.{all_legal}
use Rattle.implicit.specs.declared.state.Ranges.{Ranges}
use Rattle.implicit.specs.Setup.{setup_answer, ring_begun, cells_begun}
use Rattle.implicit.specs.Listing.{children_listed}
use Rattle.implicit.specs.Step.{World, finished, step_of, step_answer, events_of, new_blocks, new_bytes}
use Rattle.implicit.specs.Move.{not_moved, moved, move_of}
use Rattle.implicit.specs.Run.{run_of, run_answer}
use Rattle.implicit.specs.View.{picture_answer, counts_answer}
use Rattle.implicit.specs.Answers.{setup_number, setup_state, step_number, run_number, run_stop, children_number, call_number, counts_number}
use Rattle.promises.specs.Chart.{Pixel, covers_in, queued_blocks}

-- what a setup was called with
pub record Asked : Type 0 where
  pub chosen : Chosen
  pub ranges : Ranges
  pub ring : List ℕ
  pub cells : List ℕ

-- "an accepted setup" has the number 0, answers a record and leaves the ring and the cells: this world. The bounds handed in are values of f64, as every f64 is
pub record BegunAs (a : Asked) (w : World) : Type 0 where
  pub accepted : setup_number (setup_answer a.chosen a.ranges (length a.ring) (length a.cells)) ≡ 0
  pub state : setup_state (setup_answer a.chosen a.ranges (length a.ring) (length a.cells)) ≡ w.state
  pub ring : w.ring ≡ ring_begun a.chosen a.ranges a.ring a.cells
  pub cells : w.cells ≡ cells_begun a.chosen a.ranges a.ring a.cells
  pub held : InFormat a.ranges.m × InFormat a.ranges.n × InFormat a.ranges.theta × InFormat a.ranges.t

-- a move of the chart's memory that is no step: one more way to move is one more constructor here, and every promise over `Steps` holds over it too
pub data MovesTo : World → World → Type 0 where
  -- the queue moves to another ring, longer or shorter
  to_ring : {w w' : World} (ring : List ℕ) → move_of w ring ≡ moved w' → MovesTo w w'

-- n finished steps, "each on the record, ring and cells that setup or the step before it left", or that a move between them left: steps and moves come in any
-- order, and n counts the steps. A step that is finished has had a legal verdict for each child
pub data Steps : ℕ → World → World → Type 0 where
  no_steps : {w : World} → Steps zero w w
  then_step : {n : ℕ} {w w' w'' : World} → Steps n w w' → (vs : List ℕ) (evals bytes : ℕ) → step_of w' vs ≡ finished w'' evals bytes → Steps (suc n) w w''
  then_move : {n : ℕ} {w w' w'' : World} → Steps n w w' → MovesTo w' w'' → Steps n w w''

-- steps with no move among them
unfoldable pub NoMove : {n : ℕ} {w w' : World} → Steps n w w' → Type 0
NoMove no_steps = Unit {0}
NoMove (then_step r vs evals bytes e) = NoMove r
NoMove (then_move r m) = ⊥

-- the verdict bytes that the steps took, in order
unfoldable pub verdicts_of : {n : ℕ} {w w' : World} → Steps n w w' → List ℕ
verdicts_of no_steps = []
verdicts_of (then_step r vs evals bytes e) = verdicts_of r ++ vs
verdicts_of (then_move r m) = verdicts_of r

-- and their evaluations in all
unfoldable pub evaluations_of : {n : ℕ} {w w' : World} → Steps n w w' → ℕ
evaluations_of no_steps = 0
evaluations_of (then_step r vs evals bytes e) = evaluations_of r + evals
evaluations_of (then_move r m) = evaluations_of r

-- "a pixel reads ..": by its cell and the number of blocks taken so far
unfoldable pub reads_in : (p : Chosen) → World → Pixel p → Reading
reads_in p w q = reading w.state.taken (pixel_cell p.width p.height q.x q.y (meanings w.cells))

-- "no queued block covers it"
unfoldable pub NoneQueuedCovers : (p : Chosen) → World → Pixel p → Type 0
NoneQueuedCovers p w q = Every (λ b. ¬ T (covers_in p b q)) (queued_blocks w)

-- a step under these verdicts takes the first block of the queue: does it give the pixel up? The block covers it, and a child of the block finds no direction
unfoldable pub gave_up_taking : (p : Chosen) → World → List ℕ → List Block → Pixel p → Bool
gave_up_taking p w vs [] q = false
gave_up_taking p w vs (b ∷ rest) q = any_gives_up (events_of w b vs) && covers_in p b q

-- the pixel was given up by one of the steps
unfoldable pub GivenUpIn : (p : Chosen) → {n : ℕ} {w w' : World} → Steps n w w' → Pixel p → Type 0
GivenUpIn p no_steps q = ⊥
GivenUpIn p (then_step {w' = w'} r vs evals bytes e) q = GivenUpIn p r q ⊎ T (gave_up_taking p w' vs (queued_blocks w') q)
GivenUpIn p (then_move r m) q = GivenUpIn p r q

-- it is given up now: the pixel's cell says so
abbrev pub StandsGivenUp : (p : Chosen) → World → Pixel p → Type 0
StandsGivenUp p w q = pixel_cell p.width p.height q.x q.y (meanings w.cells) ≡ GivenUp

-- the blocks that a step queues, taking the first block of the queue
unfoldable pub new_taking : World → List ℕ → List Block → List Block
new_taking w vs [] = []
new_taking w vs (b ∷ rest) = new_blocks w b vs

-- all that the steps queued, in order
unfoldable pub queued_since : {n : ℕ} {w w' : World} → Steps n w w' → List Block
queued_since no_steps = []
queued_since (then_step {w' = w'} r vs evals bytes e) = queued_since r ++ new_taking w' vs (queued_blocks w')
queued_since (then_move r m) = queued_since r

-- "x or y is used and there is no parameter"
pub record PlaneOnly (p : Chosen) : Type 0 where
  pub plane : in_use p.set D.XY ≡ true
  pub no_parameter : Every (λ d. in_use p.set d ≡ false) parameters

-- a legal verdict for each child of the first block of the queue
unfoldable pub LegalVerdicts : World → List ℕ → List Block → Type 0
LegalVerdicts w vs [] = Unit {0}
LegalVerdicts w vs (b ∷ rest) =
    (length vs ≡ length (children_of w.state.chosen b)) × (all_legal (children_of w.state.chosen b) vs ≡ true)

-- other than one verdict for each child of the first block of the queue
unfoldable pub WrongCount : World → List ℕ → List Block → Type 0
WrongCount w vs [] = ⊥
WrongCount w vs (b ∷ rest) = ¬ (length vs ≡ length (children_of w.state.chosen b))

-- one for each, but not all of them legal
unfoldable pub SomeIllegal : World → List ℕ → List Block → Type 0
SomeIllegal w vs [] = ⊥
SomeIllegal w vs (b ∷ rest) =
    (length vs ≡ length (children_of w.state.chosen b)) × (all_legal (children_of w.state.chosen b) vs ≡ false)

-- the first block of the queue can be taken and what its step queues has numbers and room: with the new blocks no more than 2^32 were ever queued, and
-- the queue's bytes without those of the block, and the new ones, fit the ring
unfoldable pub Suffices : World → List ℕ → List Block → Type 0
Suffices w vs [] = ⊥
Suffices w vs (b ∷ rest) =
    (w.state.queued + length (new_blocks w b vs) ≤ 2 ^ 32)
    × (w.state.used - length (encode w.state.chosen.set w.state.front b) + length (new_bytes w b vs) ≤ length w.ring)

-- never refused by 8: no call on this world is, whatever else it is given
pub record NeverEight (w : World) : Type 0 where
  pub step : (vs : List ℕ) → ¬ (step_number (step_answer w.state (step_of w vs)) ≡ 8)
  pub run : (budget : ℕ) (tape : List ℕ) → ¬ (run_number (run_answer w.state (run_of budget w tape)) ≡ 8)
  pub step_in_run : (budget : ℕ) (tape : List ℕ) → ¬ (run_stop (run_answer w.state (run_of budget w tape)) ≡ 8)
  pub children : ¬ (children_number (children_listed w.state w.ring) ≡ 8)
  pub picture : (room : ℕ) → ¬ (call_number (picture_answer w.state w.cells room) ≡ 8)
  pub counts : ¬ (counts_number (counts_answer w.state w.cells) ≡ 8)
  pub move : (ring : List ℕ) (why : Refusal) → move_of w ring ≡ not_moved why → ¬ (number why ≡ 8)
