-- Where everything looked at on a pixel's level or below is decided, no queued block lies that low and nothing is given up. So once the bound has sunk
-- the queue to that level it is empty, and no pixel is grey. Assumes nothing.
use mathlib.Core.Path.{◌≡◌, refl, ap, subst}
use mathlib.Core.Logic.{◌⊎◌, ⊎_elim}
use mathlib.Core.Bool.{Bool}
use mathlib.Core.List.{List, [], ◌∷◌}
use Prim.Native.Nat.{ℕ, ◌≤◌, ◌<◌}
use native.Mathlib.Decide.{dec_lt}
use native.Mathlib.Omega.{arith}
use lib.Dec.{T}
use Rattle.theory.specs.Cells.{reads_uncertain}
use Rattle.theory.specs.Runs.{Snapshot, queued_by, AcceptedSetup, FinishedStep, FinishedSteps, no_step, one_more, EveryStep}
use Rattle.theory.specs.Demand3.{pixel_reads, any_gives_up, WasGivenUp, GivesUpBelow}
use Rattle.theory.specs.Levels.{BlockPlace, OneBlock, QueuesChildren, pixel_figure}
use Rattle.theory.specs.Shapes.{quarters}
use Rattle.theory.specs.Colours.{Said, said_undecided, skipped, denied, marked, waits_as, stuck, Judgement, judgement, afterwards, Cutting}
use Rattle.theory.specs.Colours.{Follows, StepByVerdicts, EveryJudgement, DecidedBelow}
use Rattle.base.specs.Lists.{Every, Some}
use Rattle.base.proofs.ListLaws.{every_append}
use Rattle.theory.proofs.JudgementLaws.{queued_afterwards}
use Rattle.theory.proofs.Bounds.{none_left, square_bound, sum_in_pixels}
use Rattle.theory.proofs.GreyRule.{grey_by_events}

pub queued_looked : {Block : Type 0} (d : Block) → ¬ (waits_as d ≡ skipped)
queued_looked d e = let z : ◌≡◌ {A = ℕ} 0 1 = cc in omega arith

module _ {Block Pixel : Type 0} (covers : Block → Pixel → Bool) (C : Cutting Block) (spare : Bool) (level_of : Block → ℕ) (px : ℕ)
    (same : (c d : Block) → C.Same c d → level_of d ≡ level_of c) where
  abbrev Above : Block → Type 0
  Above b = px < level_of b

  -- a child that is queued was left undecided, so it lies above
  queued_above : (c d : Block) (v : Said) → (v ≡ said_undecided) × C.Same c d → (¬ (waits_as d ≡ skipped) → level_of c ≤ px → ¬ (v ≡ said_undecided)) → Above d
  queued_above c d v f k = elim (dec_lt px (level_of c)) [
    | yes h ↦ omega (arith, h, same c d f.1)
    | no h ↦ absurd (k (queued_looked d) (omega arith) f.0)
  ]

  all_above : (ts : List (Judgement Block)) → Every (Follows C) ts → Every (DecidedBelow level_of px) ts → Every Above (queued_by (afterwards ts))
  unfolding Follows DecidedBelow afterwards queued_by
  all_above [] f k = tt
  all_above (judgement c v skipped ∷ ts) f k = all_above ts f.1 k.1
  all_above (judgement c v denied ∷ ts) f k = all_above ts f.1 k.1
  all_above (judgement c v marked ∷ ts) f k = all_above ts f.1 k.1
  all_above (judgement c v (waits_as d) ∷ ts) f k = (queued_above c d v f.0 k.0, all_above ts f.1 k.1)
  all_above (judgement c v stuck ∷ ts) f k = all_above ts f.1 k.1

  -- the front block lies above, so nothing is given up, and what is queued behind the rest lies above too
  step_above : {s s' : Snapshot Block Pixel} (st : FinishedStep covers spare s s') (j : StepByVerdicts covers C spare s s' st)
      → Every (DecidedBelow level_of px) j.judgements
      → GivesUpBelow covers spare level_of px s s' st → Every Above s.queue → Every Above s'.queue × (¬ T (any_gives_up st.events))
  unfolding GivesUpBelow
  step_above {s' = s'} st j k low h = go (subst (Every Above) st.at_front h)
    where
      new : Every Above (queued_by st.events)
      new = rw (j.these_events, queued_afterwards j.judgements (afterwards j.judgements)) (all_above j.judgements j.by_verdict k)

      go : Every Above (st.front ∷ st.rest) → Every Above s'.queue × (¬ T (any_gives_up st.events))
      go h = (rw st.queue' (every_append Above st.rest (queued_by st.events) h.1 new), (λ g. (let l = low g in omega (arith, l, h.0))))

  pub steps_above : {n : ℕ} {s₀ s : Snapshot Block Pixel} (r : FinishedSteps covers spare n s₀ s) (j : EveryStep covers spare (StepByVerdicts covers C spare) r)
      → EveryJudgement covers C spare (DecidedBelow level_of px) r j → EveryStep covers spare (GivesUpBelow covers spare level_of px) r
      → Every Above s₀.queue → Every Above s.queue × ((p : Pixel) → ¬ WasGivenUp covers spare r p)
  unfolding EveryStep EveryJudgement WasGivenUp
  steps_above no_step j k low h = (h, (λ p g. g))
  steps_above (one_more r st) j k low h =
      let (above, none) = steps_above r j.0 k.0 low.0 h in
      let (above', not_up) = step_above st j.1 k.1 low.1 above in
      (above', (λ p. ⊎_elim (none p) (λ g. not_up g.0)))

just : {Block : Type 0} (P : Block → Type 0) (b : Block) → P b → Every P (b ∷ [])
just P b h = (h, tt)

none_covers : {Block : Type 0} (P : Block → Type 0) (q : List Block) → q ≡ [] → ¬ Some P q
unfolding Some
none_covers P q e h = rw e at h

-- the customer's sum reached, of a picture of more than one pixel
module _ {Block Pixel : Type 0} (covers : Block → Pixel → Bool) (C : Cutting Block) (spare : Bool) (place_of : Block → BlockPlace)
    (same : (c d : Block) → C.Same c d → (place_of d).level ≡ (place_of c).level) where
  pub decided_by_figure : (px w h k : ℕ) {n : ℕ} {s₀ s : Snapshot Block Pixel} → AcceptedSetup covers s₀ → OneBlock place_of px w h k s₀ → 1 ≤ k
      → (r : FinishedSteps covers spare n s₀ s)
      → EveryStep covers spare (QueuesChildren covers spare place_of (quarters px w h)) r
      → EveryStep covers spare (GivesUpBelow covers spare (λ b. (place_of b).level) px) r
      → (j : EveryStep covers spare (StepByVerdicts covers C spare) r) → EveryJudgement covers C spare (DecidedBelow (λ b. (place_of b).level) px) r j
      → (pixel_figure w h k ≤ n) ⊎ (s.queue ≡ []) → (s.queue ≡ []) × ((p : Pixel) → ¬ (pixel_reads s p ≡ reads_uncertain))
  decided_by_figure px w h k {n = n} {s₀ = s₀} {s = s} z o some r children low j d l =
      let root : px < (place_of o.root).level = rw (ap (λ (b : BlockPlace). b.level) o.at_root) (omega arith) in
      let start : Every (λ b. px < (place_of b).level) s₀.queue = rw o.one_block (just (λ b. px < (place_of b).level) o.root root) in
      let (above, none) = steps_above covers C spare (λ b. (place_of b).level) px same r j d low start in
      let e : s.queue ≡ [] = ⊎_elim
      (λ reached.
      none_left place_of px s.queue above (square_bound covers spare place_of px w h k o r children px k refl (rw (sum_in_pixels px w h k) reached)))
      (λ e. e) l in (
        e,
        (λ p g. ⊎_elim (none p) (none_covers (λ b. T (covers b p)) s.queue e) ((grey_by_events covers spare z r p).0 g).1),
      )
