-- The promises, each under the sentence that it proves; the words are those of specs/, the proofs stand in the modules cited. First the four sentences
-- of demand 3, then what the colours mean, then why a pixel reads what it reads, then what stands behind them.
-- Blocks, pixels, `covers` (every floor and shape) and `spare` (either mode) are variables throughout. The demand's conditions: an accepted
-- setup is AcceptedSetup; a finished step has had legal verdicts; each on the record, ring and cells that setup or the step before it
-- left, with nobody else writing, is how FinishedSteps are chained. Assumes nothing.
use mathlib.Core.Path.{◌≡◌}
use mathlib.Core.Logic.{◌⊎◌, ◌↔◌}
use mathlib.Core.Bool.{Bool}
use mathlib.Core.List.{List, [], ◌∷◌, ◌++◌, map}
use Prim.Native.Nat.{ℕ, zero, suc, ◌+◌, ◌*◌, ◌^◌, ◌≤◌, ◌<◌}
use lib.Dec.{T}
use lib.ListN.{length, drop}
use lib.IntN.{ℤ}
use lib.Signed.{◌≤ℤ◌}
use Rattle.base.proofs.AxisLaws.{places_over, places_under}
use Rattle.base.specs.Lists.{Every, Some}
use Rattle.base.specs.Places.{Latest}
use Rattle.theory.specs.Cells.{marked_true, given_up, named, reads_true, reads_false, reads_uncertain}
use Rattle.theory.specs.Runs.{Snapshot, AcceptedSetup, Narrower, AllNarrower, FinishedStep, FinishedSteps, EveryStep, queued_in}
use Rattle.theory.specs.Demand3.{pixel_reads, NoneCovers, CoversAtMostOne, NamesLast, WasGivenUp, LooksBeforeGivingUp, GivesUpAlike, KeepsTrue}
use Rattle.theory.specs.Demand3.{GivesUpOnePixel, GivesUpBelow, WholePicture}
use Rattle.theory.specs.Levels.{BlockPlace, place_at, cost_above, OneBlock, QueuesChildren, QueuesAbove, NeverRise, OnTwoLevels, places_along}
use Rattle.theory.specs.Levels.{places_above, strip_places_above, pixel_figure, strip_pixel_figure, sum_over}
use Rattle.theory.specs.Shapes.{PixelIn, covers_pixel, covers_by_place, quarters, halves_in_x}
use Rattle.theory.specs.Colours.{Question, HasSolution, Holds, HoldsAll, Judgement, judged_child, marks_in_order, afterwards, Cutting, Follows}
use Rattle.theory.specs.Colours.{LosesNothing, StepByVerdicts, EveryJudgement, FalseRight, MarkRight, DecidedBelow}
use Rattle.theory.specs.Why.{history_of, AnsweredFalse, KeepsCovered, takes_over, BlackBy, GreyBy, WhiteBy, WaitsFor, RightHere, AllRightHere}
use Rattle.theory.specs.Positions.{Ruler, PlaceHolds, StripHolds, LiesBetween, SharedEdges, Fraction, LiesExactly, InPixelAlong}
use Rattle.theory.specs.Cuts.{Span, first_pieces, later_pieces, InSpan, Owes, first_integers, later_integers}
use Rattle.theory.proofs.Invariant.{setup_sound, steps_sound, sound_named}
use Rattle.theory.proofs.FalseRule.{false_by_events, was_now, false_steps, elsewhere}
use Rattle.theory.proofs.GreyRule.{grey_by_events}
use Rattle.theory.proofs.Decided.{decided_by_figure}
use Rattle.theory.proofs.FirstInFirstOut.{taken_counts, queue_after, queue_behind}
use Rattle.theory.proofs.TrueStays.{true_steps, away_from_uncertain, whole_picture_alike, one_pixel_alike}
use Rattle.theory.proofs.RunLaws.{every_step}
use Rattle.theory.proofs.Potential.{step_costs, levels_fall}
use Rattle.theory.proofs.ChildPlaces.{quarters_lower, halves_lower, quarters_cover_less, halves_cover_less}
use Rattle.theory.proofs.PlaceCount.{root_cost, strip_root_cost}
use Rattle.theory.proofs.Bounds.{square_bound, strip_bound, emptied, low_covers_one, pixel_square_bound, pixel_strip_bound}
use Rattle.theory.proofs.WhiteMeansNo.{reads_false_none, empty_decides}
use Rattle.theory.proofs.TrueMeansYes.{reads_true_solves}
use Rattle.theory.proofs.JudgementLaws.{judgements_narrower, judged_looks, judged_queues}
use Rattle.theory.proofs.WhyReadings.{white_by, black_by, grey_by, waits_for, white_left, white_none_here}
use Rattle.theory.proofs.WhyCovered.{quarters_covered, halves_covered}
use Rattle.theory.proofs.HalvesHold.{root_holds, quarters_hold, halves_hold, strip_root_holds}
use Rattle.theory.proofs.Edges.{edges_ruler, exact_ruler, pixel_exactly}
use Rattle.theory.proofs.CutsHold.{first_pieces_hold, later_pieces_hold, first_integers_owe, later_integers_owe}

-- ---- Demand 3: its four sentences

module _ {Block Pixel : Type 0} (covers : Block → Pixel → Bool) (spare : Bool) where
  -- "A pixel reads False exactly if it isn't True, wasn't given up, and no queued block covers it."
  pub false_rule : {n : ℕ} {s₀ s : Snapshot Block Pixel} → AcceptedSetup covers s₀ → (r : FinishedSteps covers spare n s₀ s) (p : Pixel)
      → (pixel_reads s p ≡ reads_false) ↔ ((¬ (pixel_reads s p ≡ reads_true)) × (¬ WasGivenUp covers spare r p) × NoneCovers covers s.queue p)
  false_rule = false_by_events covers spare

  -- "A pixel that reads False stays False."
  pub false_stays : {n m : ℕ} {s₀ s s' : Snapshot Block Pixel} → AcceptedSetup covers s₀ → FinishedSteps covers spare n s₀ s
      → FinishedSteps covers spare m s s' → (p : Pixel) → pixel_reads s p ≡ reads_false → pixel_reads s' p ≡ reads_false
  false_stays z r = false_steps covers spare (steps_sound covers spare r (setup_sound covers z))

  -- "A block with d blocks before it has left the queue after d + 1 further finished steps": it and those before it are gone, those behind it
  -- come first, and what was queued since stands behind them. (By place: equal blocks may be queued twice.)
  pub leaves_queue : (d : ℕ) {s s' : Snapshot Block Pixel} (r : FinishedSteps covers spare (suc d) s s') → d < length s.queue
      → s'.queue ≡ drop (suc d) s.queue ++ queued_in covers spare r
  leaves_queue d = queue_behind covers spare

-- "If x or y is used and there is no parameter, then once the finished steps reach the sum, over j from 1 to the start level, of
-- ceil(width / 2^j) times ceil(height / 2^j), no queued block covers more than one pixel." (px is the level of a pixel.)
pub pixel_bound : {Block : Type 0} (w h px k : ℕ) (spare : Bool) (place_of : Block → BlockPlace) {n : ℕ} {s₀ s : Snapshot Block (PixelIn w h)}
    → OneBlock place_of px w h k s₀ → (r : FinishedSteps (covers_by_place w h px place_of) spare n s₀ s)
    → EveryStep (covers_by_place w h px place_of) spare (QueuesChildren (covers_by_place w h px place_of) spare place_of (quarters px w h)) r
    → pixel_figure w h k ≤ n → Every (CoversAtMostOne (covers_by_place w h px place_of)) s.queue
pixel_bound = pixel_square_bound

-- of a strip, ceil(width / 2^j) alone
pub strip_pixel_bound : {Block : Type 0} (w px k : ℕ) (spare : Bool) (place_of : Block → BlockPlace) {n : ℕ} {s₀ s : Snapshot Block (PixelIn w 1)}
    → OneBlock place_of px w 1 k s₀ → (r : FinishedSteps (covers_by_place w 1 px place_of) spare n s₀ s)
    → EveryStep (covers_by_place w 1 px place_of) spare (QueuesChildren (covers_by_place w 1 px place_of) spare place_of (halves_in_x px w)) r
    → strip_pixel_figure w k ≤ n → Every (CoversAtMostOne (covers_by_place w 1 px place_of)) s.queue
strip_pixel_bound = pixel_strip_bound

-- ---- What the colours mean: over any mixes, positions and relation

module _ {Block Pixel : Type 0} (covers : Block → Pixel → Bool) (C : Cutting Block) (Q : Question Block Pixel) (spare : Bool) where
  -- if every `false` verdict was right, a pixel that reads False holds no solution
  pub white_means_no : LosesNothing covers C Q → {n : ℕ} {s₀ s : Snapshot Block Pixel} → AcceptedSetup covers s₀ → HoldsAll covers Q s₀
      → (r : FinishedSteps covers spare n s₀ s) (j : EveryStep covers spare (StepByVerdicts covers C spare) r)
      → EveryJudgement covers C spare (FalseRight covers Q) r j
      → (p : Pixel) → pixel_reads s p ≡ reads_false → ¬ HasSolution Q p
  white_means_no laws = reads_false_none covers C Q laws spare

  -- if every mark was right, a pixel that reads True holds one
  pub true_means_yes : {n : ℕ} {s₀ s : Snapshot Block Pixel} → AcceptedSetup covers s₀
      → (r : FinishedSteps covers spare n s₀ s) (j : EveryStep covers spare (StepByVerdicts covers C spare) r)
      → EveryJudgement covers C spare (MarkRight covers Q) r j
      → (p : Pixel) → pixel_reads s p ≡ reads_true → HasSolution Q p
  true_means_yes = reads_true_solves covers C Q spare

  -- when the queue is empty, every pixel that is not given up is decided
  pub done_decides : LosesNothing covers C Q → {n : ℕ} {s₀ s : Snapshot Block Pixel} → AcceptedSetup covers s₀ → HoldsAll covers Q s₀
      → (r : FinishedSteps covers spare n s₀ s) (j : EveryStep covers spare (StepByVerdicts covers C spare) r)
      → EveryJudgement covers C spare (FalseRight covers Q) r j
      → EveryJudgement covers C spare (MarkRight covers Q) r j → s.queue ≡ [] → (p : Pixel) → ¬ (s.cells p ≡ given_up)
      → ((pixel_reads s p ≡ reads_true) × HasSolution Q p) ⊎ ((pixel_reads s p ≡ reads_false) × (¬ HasSolution Q p))
  done_decides laws = empty_decides covers C Q laws spare

-- ---- Why a pixel reads what it reads, request (v): over the history of a run, which is its steps with their judgements, the latest first

module _ {Block Pixel : Type 0} (covers : Block → Pixel → Bool) (C : Cutting Block) (laws : KeepsCovered covers C) (spare : Bool) where
  -- "For True: the step, the child's place in it", that marked it last
  pub why_true : {n : ℕ} {s₀ s : Snapshot Block Pixel} → AcceptedSetup covers s₀ → (r : FinishedSteps covers spare n s₀ s)
      (j : EveryStep covers spare (StepByVerdicts covers C spare) r) (p : Pixel) → pixel_reads s p ≡ reads_true
      → BlackBy covers p spare (history_of covers C spare r j)
  why_true = black_by covers C laws spare

  -- "For False: the step that took the last covering block, and the first covering child answered false"; "it is also proved that every covering
  -- child of that step was answered false"
  pub why_false : {n : ℕ} {s₀ s : Snapshot Block Pixel} → AcceptedSetup covers s₀ → (r : FinishedSteps covers spare n s₀ s)
      (j : EveryStep covers spare (StepByVerdicts covers C spare) r) (p : Pixel) → pixel_reads s p ≡ reads_false
      → WhiteBy covers p (history_of covers C spare r j)
  why_false = white_by covers C laws spare

  -- "For given up: the last step that gave it up and the first child there that found no direction"
  pub why_given_up : {n : ℕ} {s₀ s : Snapshot Block Pixel} → AcceptedSetup covers s₀ → (r : FinishedSteps covers spare n s₀ s)
      (j : EveryStep covers spare (StepByVerdicts covers C spare) r) (p : Pixel) → s.cells p ≡ given_up
      → GreyBy covers p (history_of covers C spare r j)
  why_given_up = grey_by covers C laws spare

  -- "For waiting: the last queued block that covers it and how many stand before it"
  pub why_waiting : {n : ℕ} {s₀ s : Snapshot Block Pixel} → AcceptedSetup covers s₀ → (r : FinishedSteps covers spare n s₀ s)
      (j : EveryStep covers spare (StepByVerdicts covers C spare) r) (p : Pixel) (m : ℕ) → s.cells p ≡ named m → s.taken ≤ m
      → WaitsFor covers p (history_of covers C spare r j) s.taken s.queue m
  why_waiting = waits_for covers C laws spare

  -- what "white because of that step" means: the solutions of the pixel that the steps before it left, as far as their false answers were right
  -- about this pixel, lie in children of that step that were answered false
  pub left_in_false_children : (Q : Question Block Pixel) → LosesNothing covers C Q → {n : ℕ} {s₀ s : Snapshot Block Pixel} → AcceptedSetup covers s₀
      → HoldsAll covers Q s₀ → (r : FinishedSteps covers spare n s₀ s) (j : EveryStep covers spare (StepByVerdicts covers C spare) r) (p : Pixel)
      → pixel_reads s p ≡ reads_false → (o : Latest (takes_over covers p) (history_of covers C spare r j))
      → AllRightHere covers p Q o.before → (x : Q.Mix) → Q.Given x → Q.At x p → Q.Solves x
      → Some (λ t. AnsweredFalse t × Holds covers Q x p (judged_child t)) o.this.judgements
  left_in_false_children = white_left covers C laws spare

  -- so white means no by the false answers up to that step alone, and by what they say of this pixel alone
  pub white_by_that_step : (Q : Question Block Pixel) → LosesNothing covers C Q → {n : ℕ} {s₀ s : Snapshot Block Pixel} → AcceptedSetup covers s₀
      → HoldsAll covers Q s₀ → (r : FinishedSteps covers spare n s₀ s) (j : EveryStep covers spare (StepByVerdicts covers C spare) r) (p : Pixel)
      → pixel_reads s p ≡ reads_false → (o : Latest (takes_over covers p) (history_of covers C spare r j))
      → AllRightHere covers p Q o.before → Every (RightHere covers p Q) o.this.judgements → ¬ HasSolution Q p
  white_by_that_step = white_none_here covers C laws spare

-- what this asks of the cutting, for squares and for strips: a pixel that a place covers, one of its listed children covers
pub quarters_keep_covered : (w h px : ℕ) (p : PixelIn w h) (b : BlockPlace) → zero < b.level → T (covers_pixel px b p)
    → Some (λ c. T (covers_pixel px c p)) (quarters px w h b)
quarters_keep_covered = quarters_covered

pub halves_keep_covered : (w px : ℕ) (p : PixelIn w 1) (b : BlockPlace) → zero < b.level → T (covers_pixel px b p)
    → Some (λ c. T (covers_pixel px c p)) (halves_in_x px w b)
halves_keep_covered = halves_covered

-- ---- Behind the False rule, and first in, first out

module _ {Block Pixel : Type 0} (covers : Block → Pixel → Bool) (spare : Bool) where
  -- given up ever, by a step, and given up now, in the cell: of a pixel that isn't True these are one
  pub given_up_ever_now : {n : ℕ} {s₀ s : Snapshot Block Pixel} → AcceptedSetup covers s₀ → (r : FinishedSteps covers spare n s₀ s) (p : Pixel)
      → ¬ (s.cells p ≡ marked_true) → WasGivenUp covers spare r p ↔ (s.cells p ≡ given_up)
  given_up_ever_now = was_now covers spare

  -- the invariant: a cell that names a block still in the queue names the last queued block that covers its pixel
  pub names_last : {n : ℕ} {s₀ s : Snapshot Block Pixel} → AcceptedSetup covers s₀ → FinishedSteps covers spare n s₀ s
      → (p : Pixel) (m : ℕ) → s.cells p ≡ named m → NamesLast covers s.taken s.queue p m
  names_last {s = s} z r = sound_named covers s (steps_sound covers spare r (setup_sound covers z))

  -- Uncertain is a pixel that was given up by a step, or that a queued block covers: it reads so exactly if it isn't True and one of the two holds
  pub grey_says : {n : ℕ} {s₀ s : Snapshot Block Pixel} → AcceptedSetup covers s₀ → (r : FinishedSteps covers spare n s₀ s) (p : Pixel)
      → (pixel_reads s p ≡ reads_uncertain)
      ↔ ((¬ (pixel_reads s p ≡ reads_true)) × (WasGivenUp covers spare r p ⊎ Some (λ b. T (covers b p)) s.queue))
  grey_says = grey_by_events covers spare

  -- a step changes readings only under the block that it takes
  pub elsewhere_stays : {n : ℕ} {s₀ s s' : Snapshot Block Pixel} → AcceptedSetup covers s₀ → FinishedSteps covers spare n s₀ s
      → (st : FinishedStep covers spare s s') (p : Pixel) → ¬ T (covers st.front p) → pixel_reads s' p ≡ pixel_reads s p
  elsewhere_stays z r = elsewhere covers spare (steps_sound covers spare r (setup_sound covers z))

  -- every finished step takes one block
  pub steps_counted : {n : ℕ} {s s' : Snapshot Block Pixel} → FinishedSteps covers spare n s s' → s'.taken ≡ s.taken + n
  steps_counted = taken_counts covers spare

  -- first in, first out: after n steps the queue is what stood in it and what was queued since, in order, without the first n
  pub first_in_first_out : {n : ℕ} {s s' : Snapshot Block Pixel} (r : FinishedSteps covers spare n s s')
      → s'.queue ≡ drop n (s.queue ++ queued_in covers spare r)
  first_in_first_out = queue_after covers spare

-- ---- True stays True, and the order of the readings

module _ {Block Pixel : Type 0} (covers : Block → Pixel → Bool) (spare : Bool) where
  -- "A pixel that reads True stays True", in the sparing mode; and in the other, if the two facts of KeepsTrue hold of each step
  pub true_stays : {n : ℕ} {s s' : Snapshot Block Pixel} (r : FinishedSteps covers spare n s s') → KeepsTrue covers spare r
      → (p : Pixel) → pixel_reads s p ≡ reads_true → pixel_reads s' p ≡ reads_true
  true_stays = true_steps covers spare

  -- what is asked of each step may be shown of a step
  pub each_step : (P Q : (s s' : Snapshot Block Pixel) → FinishedStep covers spare s s' → Type 0)
      → ((s s' : Snapshot Block Pixel) (st : FinishedStep covers spare s s') → P s s' st → Q s s' st)
      → {n : ℕ} {s s' : Snapshot Block Pixel} (r : FinishedSteps covers spare n s s') → EveryStep covers spare P r → EveryStep covers spare Q r
  each_step = every_step covers spare

  -- one of the facts, where x or y is used, and where neither is
  pub alike_with_xy : {n : ℕ} {s s' : Snapshot Block Pixel} (r : FinishedSteps covers spare n s s')
      → EveryStep covers spare (GivesUpOnePixel covers spare) r → EveryStep covers spare (GivesUpAlike covers spare) r
  alike_with_xy = one_pixel_alike covers spare

  pub alike_without_xy : {n : ℕ} {s₀ s : Snapshot Block Pixel} → AcceptedSetup covers s₀ → (r : FinishedSteps covers spare n s₀ s)
      → EveryStep covers spare (WholePicture covers spare) r → EveryStep covers spare (GivesUpAlike covers spare) r
  alike_without_xy = whole_picture_alike covers spare

  -- so a reading only ever changes away from Uncertain
  pub reading_order : {n m : ℕ} {s₀ s s' : Snapshot Block Pixel} → AcceptedSetup covers s₀ → FinishedSteps covers spare n s₀ s
      → (r : FinishedSteps covers spare m s s') → KeepsTrue covers spare r
      → (p : Pixel) → (pixel_reads s' p ≡ pixel_reads s p) ⊎ (pixel_reads s p ≡ reads_uncertain)
  reading_order z r₀ = away_from_uncertain covers spare (steps_sound covers spare r₀ (setup_sound covers z))

-- ---- The bound, for pictures with x or y and no parameter, and for every level L; px is the level of a pixel

-- the places along a side of w pixels, by one formula: j levels above the pixel's, and j levels below it
pub places_above_pixel : (w px j : ℕ) → places_along (w * 2 ^ px) (px + j) ≡ places_along w j
places_above_pixel = places_over

pub places_below_pixel : (w i j : ℕ) → places_along (w * 2 ^ (i + j)) i ≡ w * 2 ^ j
places_below_pixel = places_under

-- the first block's cost above L is the sum of the places above L, for squares and for strips; their children are one level lower
pub root_costs_places : (px w h L n : ℕ) → zero < w * 2 ^ px → zero < h * 2 ^ px → w * 2 ^ px ≤ 2 ^ (L + n) → h * 2 ^ px ≤ 2 ^ (L + n)
    → cost_above (quarters px w h) L (place_at 0 0 (L + n)) ≡ places_above (w * 2 ^ px) (h * 2 ^ px) L n
root_costs_places = root_cost

pub strip_root_costs_places : (px w L n : ℕ) → zero < w * 2 ^ px → w * 2 ^ px ≤ 2 ^ (L + n)
    → cost_above (halves_in_x px w) L (place_at 0 0 (L + n)) ≡ strip_places_above (w * 2 ^ px) L n
strip_root_costs_places = strip_root_cost

pub quarters_are_lower : (px w h : ℕ) (b : BlockPlace) → Every (λ c. suc c.level ≡ b.level) (quarters px w h b)
quarters_are_lower = quarters_lower

pub halves_are_lower : (px w : ℕ) (b : BlockPlace) → Every (λ c. suc c.level ≡ b.level) (halves_in_x px w b)
halves_are_lower = halves_lower

module _ {Block Pixel : Type 0} (covers : Block → Pixel → Bool) (spare : Bool) (place_of : Block → BlockPlace) where
  -- however places are cut into places one level lower:
  module _ (cut : BlockPlace → List BlockPlace) (lower : (b : BlockPlace) → Every (λ c. suc c.level ≡ b.level) (cut b)) where
    -- a step that takes a block above L lowers what the queue can still cost above L
    pub cost_falls : (L : ℕ) {s s' : Snapshot Block Pixel} (st : FinishedStep covers spare s s') → QueuesChildren covers spare place_of cut s s' st
        → L < (place_of st.front).level
        → sum_over (cost_above cut L) (map place_of s'.queue) < sum_over (cost_above cut L) (map place_of s.queue)
    cost_falls = step_costs cut lower covers spare place_of

    -- "levels never rise from the front of the queue to its back and that at most two neighbouring levels are queued at once"
    pub levels_never_rise : {n : ℕ} {s₀ s : Snapshot Block Pixel} (root : Block) → s₀.queue ≡ root ∷ [] → (r : FinishedSteps covers spare n s₀ s)
        → EveryStep covers spare (QueuesChildren covers spare place_of cut) r
        → NeverRise (map place_of s.queue) × ((j : ℕ) × OnTwoLevels j (map place_of s.queue))
    levels_never_rise = levels_fall cut lower covers spare place_of

  -- "once the finished steps reach the number of places on all levels above L, no queued block is above L"; the start level is L + m
  pub level_bound : (px w h k : ℕ) {n : ℕ} {s₀ s : Snapshot Block Pixel} → OneBlock place_of px w h k s₀ → (r : FinishedSteps covers spare n s₀ s)
      → EveryStep covers spare (QueuesChildren covers spare place_of (quarters px w h)) r
      → (L m : ℕ) → px + k ≡ L + m → places_above (w * 2 ^ px) (h * 2 ^ px) L m ≤ n → Every (λ b. (place_of b).level ≤ L) s.queue
  level_bound = square_bound covers spare place_of

  pub strip_level_bound : (px w k : ℕ) {n : ℕ} {s₀ s : Snapshot Block Pixel} → OneBlock place_of px w 1 k s₀ → (r : FinishedSteps covers spare n s₀ s)
      → EveryStep covers spare (QueuesChildren covers spare place_of (halves_in_x px w)) r
      → (L m : ℕ) → px + k ≡ L + m → strip_places_above (w * 2 ^ px) L m ≤ n → Every (λ b. (place_of b).level ≤ L) s.queue
  strip_level_bound = strip_bound covers spare place_of

  -- "so the queue is empty when the steps reach the sum over all levels above the floor": where nothing above the floor is left, nothing is
  pub empty_at_floor : {px w h k : ℕ} {n : ℕ} {s₀ s : Snapshot Block Pixel} → OneBlock place_of px w h k s₀ → (r : FinishedSteps covers spare n s₀ s)
      → (floor : ℕ) → floor < px + k → EveryStep covers spare (QueuesAbove covers spare place_of floor) r
      → Every (λ b. (place_of b).level ≤ floor) s.queue → s.queue ≡ []
  empty_at_floor = emptied covers spare place_of

-- if everything looked at on a pixel's level or below is decided, no pixel is grey once the steps reach the customer's sum, or the queue is empty: the
-- sum of pixel_bound, of a picture of more than one pixel (k is at least 1), where a step that gives up takes a block on a pixel's level or below
module _ {Block Pixel : Type 0} (covers : Block → Pixel → Bool) (C : Cutting Block) (spare : Bool) (place_of : Block → BlockPlace)
    (same : (c d : Block) → C.Same c d → (place_of d).level ≡ (place_of c).level) where
  pub decided_in_time : (px w h k : ℕ) {n : ℕ} {s₀ s : Snapshot Block Pixel} → AcceptedSetup covers s₀ → OneBlock place_of px w h k s₀ → 1 ≤ k
      → (r : FinishedSteps covers spare n s₀ s)
      → EveryStep covers spare (QueuesChildren covers spare place_of (quarters px w h)) r
      → EveryStep covers spare (GivesUpBelow covers spare (λ b. (place_of b).level) px) r
      → (j : EveryStep covers spare (StepByVerdicts covers C spare) r) → EveryJudgement covers C spare (DecidedBelow (λ b. (place_of b).level) px) r j
      → (pixel_figure w h k ≤ n) ⊎ (s.queue ≡ []) → (s.queue ≡ []) × ((p : Pixel) → ¬ (pixel_reads s p ≡ reads_uncertain))
  decided_in_time = decided_by_figure covers C spare place_of same

-- a block at the pixel's level or below it covers at most one pixel
pub low_covers_at_most_one : {Block : Type 0} (w h px : ℕ) (place_of : Block → BlockPlace) (b : Block) → (place_of b).level ≤ px
    → CoversAtMostOne (covers_by_place w h px place_of) b
low_covers_at_most_one = low_covers_one

-- ---- A step by its verdicts is a finished step, as the others ask

module _ {Block Pixel : Type 0} (covers : Block → Pixel → Bool) (C : Cutting Block) where
  -- of a step by its verdicts, if children cover only what their parent covers: so do its events, as a finished step asks; and a step that gives up
  -- has looked, which is the other fact of KeepsTrue
  pub judgements_stay_inside : ((c d : Block) (p : Pixel) → C.Same c d → covers d p ≡ covers c p) → (b : Block) (ts : List (Judgement Block))
      → Every (Follows C) ts
      → Every (Narrower covers b) (map judged_child ts) → AllNarrower covers b (marks_in_order ts ++ afterwards ts)
  judgements_stay_inside = judgements_narrower covers C

  pub looks_by_skip_rule : (spare : Bool) (s s' : Snapshot Block Pixel) (st : FinishedStep covers spare s s')
      → Every (Narrower covers st.front) (C.children st.front)
      → StepByVerdicts covers C spare s s' st → LooksBeforeGivingUp covers spare s s' st
  looks_by_skip_rule = judged_looks covers C

  -- and what it queues are children of the place, if its block's children are: as the bound asks
  pub queues_by_judgements : (spare : Bool) (place_of : Block → BlockPlace) (cut : BlockPlace → List BlockPlace)
      → ((c d : Block) → C.Same c d → place_of d ≡ place_of c)
      → (s s' : Snapshot Block Pixel) (st : FinishedStep covers spare s s') → map place_of (C.children st.front) ≡ cut (place_of st.front)
      → StepByVerdicts covers C spare s s' st → QueuesChildren covers spare place_of cut s s' st
  queues_by_judgements = judged_queues covers C

-- ---- The covering laws, as far as they are about numbers alone

-- a child covers only what its parent covers
pub quarters_stay_inside : (w h px : ℕ) (b : BlockPlace)
    → Every (λ c. (p : PixelIn w h) → T (covers_pixel px c p) → T (covers_pixel px b p)) (quarters px w h b)
quarters_stay_inside = quarters_cover_less

pub halves_stay_inside : (w px : ℕ) (b : BlockPlace) → b.y ≡ 0
    → Every (λ c. (p : PixelIn w 1) → T (covers_pixel px c p) → T (covers_pixel px b p)) (halves_in_x px w b)
halves_stay_inside = halves_cover_less

-- x and y, over any rulers: the first block holds every point of every pixel; the listed quarters hold what their place holds; so do a strip's halves
module _ {X Y : Type 0} (w h px : ℕ) (LiesX : ℕ → ℕ → X → Type 0) (ruler_x : Ruler px LiesX) (LiesY : ℕ → ℕ → Y → Type 0) (ruler_y : Ruler px LiesY) where
  pub first_block_holds : (k : ℕ) → w ≤ 2 ^ k → h ≤ 2 ^ k → (p : PixelIn w h) (x : X) (y : Y) → LiesX p.x px x → LiesY p.y px y
      → PlaceHolds px LiesX LiesY x y p (place_at 0 0 (px + k))
  first_block_holds = root_holds w h px LiesX ruler_x LiesY ruler_y

  pub quarters_lose_nothing : (p : PixelIn w h) (x : X) (y : Y) (b : BlockPlace) → zero < b.level → LiesX p.x px x → LiesY p.y px y
      → PlaceHolds px LiesX LiesY x y p b → Some (PlaceHolds px LiesX LiesY x y p) (quarters px w h b)
  quarters_lose_nothing = quarters_hold w h px LiesX ruler_x LiesY ruler_y

pub halves_lose_nothing : {X : Type 0} (w px : ℕ) (Lies : ℕ → ℕ → X → Type 0) → Ruler px Lies → (p : PixelIn w 1) (x : X) (b : BlockPlace)
    → zero < b.level → Lies p.x px x
    → StripHolds px Lies x p b → Some (StripHolds px Lies x p) (halves_in_x px w b)
halves_lose_nothing = halves_hold

pub strip_first_block_holds : {X : Type 0} (w px : ℕ) (Lies : ℕ → ℕ → X → Type 0) → Ruler px Lies → (k : ℕ) → w ≤ 2 ^ k → (p : PixelIn w 1) (x : X)
    → Lies p.x px x → StripHolds px Lies x p (place_at 0 0 (px + k))
strip_first_block_holds = strip_root_holds

-- rulers: edges that are shared, and exact fractions, of which a pixel is one unit
pub shared_edges_rule : {R : Type 0} (Le : R → R → Type 0) (low high : ℕ → ℕ → R) (px : ℕ) → SharedEdges Le low high px
    → Ruler px (LiesBetween Le low high)
shared_edges_rule = edges_ruler

pub fractions_rule : (px : ℕ) → Ruler px (LiesExactly px)
fractions_rule = exact_ruler

pub pixel_is_unit : (px i : ℕ) (x : Fraction) → InPixelAlong i x ↔ LiesExactly px i px x
pixel_is_unit = pixel_exactly

-- a real parameter, in any order: both cuts hold what the interval holds
pub first_real_loses_nothing : {N : Type 0} (Le : N → N → Type 0) (v : Span N) (x : N) → InSpan Le v x → Some (λ u. InSpan Le u x) (first_pieces v)
first_real_loses_nothing = first_pieces_hold

pub later_real_loses_nothing : {N : Type 0} (Le : N → N → Type 0) → ((a b : N) → Le a b ⊎ Le b a) → (c : N) (v : Span N) (x : N) → InSpan Le v x
    → Some (λ u. InSpan Le u x) (later_pieces c v)
later_real_loses_nothing = later_pieces_hold

-- an integer parameter: the first cut owes every integer of the range; a later one, at an integer of the interval, owes what the interval owes
pub first_integer_loses_nothing : (v : Span ℤ) (x : ℤ) → InSpan (λ a b. a ≤ℤ b) v x → Some (λ u. Owes u x) (first_integers v)
first_integer_loses_nothing = first_integers_owe

pub later_integer_loses_nothing : (divisible : Span ℤ → Bool) (c : ℤ) (v : Span ℤ) (x : ℤ) → InSpan (λ a b. a ≤ℤ b) v c → Owes v x
    → Some (λ u. Owes u x) (later_integers divisible c v)
later_integer_loses_nothing = later_integers_owe
