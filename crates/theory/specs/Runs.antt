-- The abstract engine: blocks in a queue, a cell for each pixel, and finished steps one after the other, each on what the step before it left.
-- Blocks, pixels, which block covers which pixel, and whether giving up spares True are variables: so this is every floor, shape, mode and
-- coding of the queue at once. What a step does with its children is a list of events, whatever verdicts led to them.
use Rattle.std.specs.Prelude.{◌≡◌, Bool, cond, List, [], ◌∷◌, ◌++◌, ℕ, zero, suc, ◌+◌, ◌-◌, ◌<◌, T, length}
pub use Rattle.base.specs.Event.{Event, marks, queues, gives_up}
unfoldable pub use Rattle.base.specs.Event.{queued_by}
use Rattle.base.specs.Lists.{Every}
use Rattle.theory.specs.Cells.{Standing, marked_true, named, renamed, after_giving_up}

-- the engine between two steps: how many blocks were taken, those in the queue from the front, and what stands in each pixel's cell;
-- the numbers of the queued blocks are taken, taken + 1, ..
pub record Snapshot (Block Pixel : Type 0) : Type 0 where
  pub taken : ℕ
  pub queue : List Block
  pub cells : Pixel → Standing

module _ {Block Pixel : Type 0} (covers : Block → Pixel → Bool) where
  -- what an accepted setup leaves: at least one block, each covers the whole picture, and all cells name the last
  pub record AcceptedSetup (s : Snapshot Block Pixel) : Type 0 where
    pub none_taken : s.taken ≡ zero
    pub some_block : zero < length s.queue
    pub cover_all : Every (λ b. (p : Pixel) → T (covers b p)) s.queue
    pub name_last : (p : Pixel) → s.cells p ≡ named (length s.queue - 1)

  -- c covers only what b covers
  unfoldable pub Narrower : Block → Block → Type 0
  Narrower b c = (p : Pixel) → T (covers c p) → T (covers b p)

  -- what is marked or queued covers only what the taken block b covers
  unfoldable pub AllNarrower : Block → List (Event Block) → Type 0
  AllNarrower b [] = Unit {0}
  AllNarrower b (marks c ∷ es) = Narrower b c × AllNarrower b es
  AllNarrower b (queues c ∷ es) = Narrower b c × AllNarrower b es
  AllNarrower b (gives_up ∷ es) = AllNarrower b es

  -- spare: does giving up leave True cells as they are?
  module _ (spare : Bool) where
    -- a pixel's cell after the events of the step that takes block b: t is b's number, m the next new one
    unfoldable pub cell_after : ℕ → Block → ℕ → List (Event Block) → Pixel → Standing → Standing
    cell_after t b m [] p v = v
    cell_after t b m (marks c ∷ es) p v = cell_after t b m es p (cond (covers c p) marked_true v)
    cell_after t b m (queues c ∷ es) p v = cell_after t b (suc m) es p (cond (covers c p) (renamed t m v) v)
    cell_after t b m (gives_up ∷ es) p v = cell_after t b m es p (cond (covers b p) (after_giving_up spare v) v)

    -- a finished step: the front block is taken, its children's events happen, and what they queue stands behind the rest
    pub record FinishedStep (s s' : Snapshot Block Pixel) : Type 0 where
      pub front : Block
      pub rest : List Block
      pub events : List (Event Block)
      pub at_front : s.queue ≡ front ∷ rest
      pub narrower : AllNarrower front events
      pub taken' : s'.taken ≡ suc s.taken
      pub queue' : s'.queue ≡ rest ++ queued_by events
      pub cells' : (p : Pixel) → s'.cells p ≡ cell_after s.taken front (s.taken + length s.queue) events p (s.cells p)

    -- n finished steps, each on what the step before it left
    pub data FinishedSteps : ℕ → Snapshot Block Pixel → Snapshot Block Pixel → Type 0 where
      no_step : {s : Snapshot Block Pixel} → FinishedSteps zero s s
      one_more : {n : ℕ} {s s' s'' : Snapshot Block Pixel} → FinishedSteps n s s' → FinishedStep s' s'' → FinishedSteps (suc n) s s''

    -- each of the steps is such
    unfoldable pub EveryStep : ((s s' : Snapshot Block Pixel) → FinishedStep s s' → Type 0)
        → {n : ℕ} {s s' : Snapshot Block Pixel} → FinishedSteps n s s' → Type 0
    EveryStep P no_step = Unit {0}
    EveryStep P (one_more {s' = s'} {s'' = s''} r st) = EveryStep P r × P s' s'' st

    -- all blocks that the steps queued, in order
    unfoldable pub queued_in : {n : ℕ} {s s' : Snapshot Block Pixel} → FinishedSteps n s s' → List Block
    queued_in no_step = []
    queued_in (one_more r st) = queued_in r ++ queued_by st.events
