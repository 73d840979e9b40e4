-- The words of demand 3 about a run: a pixel reads, no queued block covers it, it was given up. And what is asked of a run where giving up
-- spares nothing, so that a pixel that reads True stays True there too.
use Rattle.std.specs.Prelude.{◌≡◌, ◌⊎◌, Bool, true, false, List, [], ◌∷◌, ℕ, zero, suc, ◌+◌, ◌≤◌, T}
use Rattle.base.specs.Lists.{Every}
use Rattle.theory.specs.Cells.{marked_true, PixelReading, standing_reads}
use Rattle.theory.specs.Runs.{Snapshot, Event, marks, queues, gives_up, FinishedStep, FinishedSteps, no_step, one_more, EveryStep}

-- "a pixel reads .."
unfoldable pub pixel_reads : {Block Pixel : Type 0} → Snapshot Block Pixel → Pixel → PixelReading
pixel_reads s p = standing_reads s.taken (s.cells p)

-- does a child find no direction?
unfoldable pub any_gives_up : {Block : Type 0} → List (Event Block) → Bool
any_gives_up [] = false
any_gives_up (marks c ∷ es) = any_gives_up es
any_gives_up (queues c ∷ es) = any_gives_up es
any_gives_up (gives_up ∷ es) = true

module _ {Block Pixel : Type 0} (covers : Block → Pixel → Bool) where
  -- "no queued block covers it"
  unfoldable pub NoneCovers : List Block → Pixel → Type 0
  NoneCovers q p = Every (λ b. ¬ T (covers b p)) q

  -- "covers more than one pixel", denied
  unfoldable pub CoversAtMostOne : Block → Type 0
  CoversAtMostOne b = (p q : Pixel) → T (covers b p) → T (covers b q) → p ≡ q

  -- does the block at place i of the list, counted from 0, cover the pixel?
  unfoldable pub covers_at_place : List Block → ℕ → Pixel → Bool
  covers_at_place [] i p = false
  covers_at_place (b ∷ q) zero p = covers b p
  covers_at_place (b ∷ q) (suc i) p = covers_at_place q i p

  -- the invariant of a cell that names n, where t blocks were taken and q are queued: if n is not under t, it is the number of a queued
  -- block that covers the pixel; and no block with a greater number does
  pub record NamesLast (t : ℕ) (q : List Block) (p : Pixel) (n : ℕ) : Type 0 where
    pub covering : (i : ℕ) → t + i ≡ n → T (covers_at_place q i p)
    pub none_behind : (i : ℕ) → T (covers_at_place q i p) → t + i ≤ n

  -- what is marked or queued covers the whole picture
  unfoldable pub AllWhole : List (Event Block) → Type 0
  AllWhole [] = Unit {0}
  AllWhole (marks c ∷ es) = ((p : Pixel) → T (covers c p)) × AllWhole es
  AllWhole (queues c ∷ es) = ((p : Pixel) → T (covers c p)) × AllWhole es
  AllWhole (gives_up ∷ es) = AllWhole es

  module _ (spare : Bool) where
    -- the pixel was given up: one of the steps took a block that covers the pixel, and a child of that block found no direction
    unfoldable pub WasGivenUp : {n : ℕ} {s s' : Snapshot Block Pixel} → FinishedSteps covers spare n s s' → Pixel → Type 0
    WasGivenUp no_step p = ⊥
    WasGivenUp (one_more r st) p = WasGivenUp r p ⊎ (T (any_gives_up st.events) × T (covers st.front p))

    -- of a step that gives up: a child whose cells are all True is skipped, so a pixel of its block was not True
    unfoldable pub LooksBeforeGivingUp : (s s' : Snapshot Block Pixel) → FinishedStep covers spare s s' → Type 0
    LooksBeforeGivingUp s s' st = T (any_gives_up st.events) → (q : Pixel) × T (covers st.front q) × (¬ (s.cells q ≡ marked_true))

    -- of a step that gives up: the cells that its block covers are alike
    unfoldable pub GivesUpAlike : (s s' : Snapshot Block Pixel) → FinishedStep covers spare s s' → Type 0
    GivesUpAlike s s' st = T (any_gives_up st.events) → (p q : Pixel) → T (covers st.front p) → T (covers st.front q) → s.cells p ≡ s.cells q

    -- the steps withdraw no True: the mode spares it, or the two facts hold of each step
    unfoldable pub KeepsTrue : {n : ℕ} {s s' : Snapshot Block Pixel} → FinishedSteps covers spare n s s' → Type 0
    KeepsTrue r = (spare ≡ true) ⊎ (EveryStep covers spare LooksBeforeGivingUp r × EveryStep covers spare GivesUpAlike r)

    -- the cells are alike because, where x or y is used, a block that gives up covers one pixel (only children on the floor find no direction),
    unfoldable pub GivesUpOnePixel : (s s' : Snapshot Block Pixel) → FinishedStep covers spare s s' → Type 0
    GivesUpOnePixel s s' st = T (any_gives_up st.events) → CoversAtMostOne st.front

    -- and where neither is, every block covers the whole picture
    unfoldable pub WholePicture : (s s' : Snapshot Block Pixel) → FinishedStep covers spare s s' → Type 0
    WholePicture s s' st = ((p : Pixel) → T (covers st.front p)) × AllWhole st.events

    -- of a step that gives up: its block lies on level px or below it
    unfoldable pub GivesUpBelow : (Block → ℕ) → ℕ → (s s' : Snapshot Block Pixel) → FinishedStep covers spare s s' → Type 0
    GivesUpBelow level_of px s s' st = T (any_gives_up st.events) → level_of st.front ≤ px
