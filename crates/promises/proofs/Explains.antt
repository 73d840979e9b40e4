-- What the explainer names is what happened: the steps that it repeats are finished steps, its history is theirs, and its reason, which asks
-- rectangles whether they hold the pixel, is the one by the blocks that cover it. Assumes nothing.
use mathlib.Core.Path.{◌≡◌, refl, sym, ap, ◌∙◌, subst}
use mathlib.Core.Bool.{Bool, true, false, cond}
use mathlib.Core.List.{List, [], ◌∷◌, ◌++◌}
use Prim.Native.Nat.{ℕ, zero, suc, ◌+◌, ◌-◌}
use native.Mathlib.Omega.{arith}
use native.Mathlib.Nat.{zero-add}
use lib.Dec.{leb, ltb}
use lib.ListN.{length, take, drop}
use borrow.Author.Tests.{leb-true, le-leb, lt-ltb}
use Rattle.std.specs.Prelude.{Ok}
use Rattle.base.proofs.Test.{by_test, cond_yes, cond_no, and_both}
use Rattle.interval.specs.Bounds.{InFormat}
use Rattle.image.specs.declared.Reading.TheVariants as R
use Rattle.image.specs.Cell.{Cell, Named, Marked, GivenUp, Other, cell_code, is_given_up, reading, meanings}
use Rattle.image.specs.Painting.{pixel_cell}
use Rattle.queue.specs.declared.Block.{Block}
use Rattle.queue.specs.declared.Last.{Last}
use Rattle.queue.specs.Block.{remembered}
use Rattle.queue.specs.Ring.{content, fits_ring}
use Rattle.queue.specs.Queue.{taken}
use Rattle.queue.proofs.QueueAnswers.{fits_both}
use Rattle.queue.proofs.QueueLaws.{BytesHold, take_answers, take_frees}
use Rattle.decide.specs.declared.Chosen.{Chosen}
use Rattle.implicit.specs.declared.state.Ending.{Ending}
use Rattle.implicit.specs.declared.state.Ending.TheVariants as E
use Rattle.implicit.specs.declared.state.Ranges.{Ranges}
use Rattle.implicit.specs.declared.state.State.{State}
use Rattle.implicit.specs.Record.{queue_empty}
use Rattle.implicit.specs.Setup.{cleared, start_record, start_ring, start_cells, setup_answer, ring_begun, cells_begun}
use Rattle.implicit.specs.Listing.{front_of}
use Rattle.implicit.specs.Step.{World, world_of, StepEnd, refused, finished, step_of, tape_step_of}
use Rattle.implicit.specs.Run.{RunEnd, ended_as, gone_on, empty_ending, run_from}
use Rattle.explain.specs.History.{PastStep, past_taking, past_on, history_from}
use Rattle.explain.specs.Reasons.{covers_at}
use Rattle.explain.specs.Reasons.{block_behind, waiting_for, reason_by, reason_of, cell_at}
use Rattle.promises.specs.Chart.{Pixel}
use Rattle.promises.specs.Steps.{Asked, BegunAs, Steps, no_steps, then_step, NoMove, reads_in, StandsGivenUp}
use Rattle.promises.specs.Calls.{asked_by}
use Rattle.promises.specs.Why.{past_with, past_in, over_pixel, WhyWaiting, Explains}
use Rattle.promises.proofs.Snapshots.{standing, standing_at}
use Rattle.promises.proofs.Invariant.{Keeps, keeps_queue, keeps_fits, front_is, step_empty}
use Rattle.promises.proofs.Linked.{Reached, begun_by, begun_reached, steps_reached}
use Rattle.promises.proofs.Answered.{setup_begins}
use Rattle.promises.proofs.RunSteps.{tape_step}
use Rattle.promises.proofs.Demand3.{stands}
use Rattle.promises.proofs.WhyAlike.{past_level, reason_is}
use Rattle.promises.proofs.WhyHolds.{false_why, true_why, given_up_why, waiting_at}

-- ---- its steps are finished steps, and its history is theirs

module _ (p : Chosen) {w₀ : World} (h : Reached p w₀) where
  -- a further step takes the first block of the queue, which is the one that the ring gives
  taking_is : (w : World) (vs : List ℕ) (past : List PastStep) (b : List Block) → Keeps w b → ¬ (b ≡ [])
      → past_taking w vs (front_of w.state w.ring) past ≡ past_with w vs b past
  unfolding past_with
  taking_is w vs past [] k n = absurd (n refl)
  taking_is w vs past (c ∷ rest) k n = rw (front_is w c rest k)

  -- the queue of a world on which a step is finished is not empty
  not_empty : (w : World) (b : List Block) → Keeps w b → (vs : List ℕ) (left : World) (evals bytes : ℕ) → step_of w vs ≡ finished left evals bytes
      → ¬ (b ≡ [])
  not_empty w b k vs left evals bytes e f =
      let g = step_empty w (subst (Keeps w) f k) false vs in let z : ◌≡◌ {A = ℕ} 0 1 = cc in omega arith

  one_more_past : {n : ℕ} {w w' : World} (r : Steps n w₀ w) (vs : List ℕ) (evals bytes : ℕ) (e : step_of w vs ≡ finished w' evals bytes)
      → past_taking w vs (front_of w.state w.ring) (past_in r) ≡ past_in (then_step r vs evals bytes e)
  unfolding past_in
  one_more_past {w = w} {w' = w'} r vs evals bytes e =
      let o = steps_reached p h r in
      rw (keeps_queue w o.blocks o.keeps)
      (taking_is w vs (past_in r) o.blocks o.keeps (not_empty w o.blocks o.keeps vs w' evals bytes e))

  -- what a run after n steps ends with, and a history: steps with no move among them, and theirs
  abbrev pub EndsWith : ℕ → RunEnd → List PastStep → Type 0
  EndsWith n e past = (k : ℕ) → k ≡ n + e.steps → (s : Steps k w₀ e.world) × NoMove s × (past ≡ past_in s)

  ends_here : {n : ℕ} {w : World} (r : Steps n w₀ w) → NoMove r → (x : Ending) → EndsWith n (ended_as w x) (past_in r)
  ends_here {n} r alone x k e = let f : k ≡ n = omega arith in rw f (r, alone, refl)

  run_past : (left : ℕ) {n : ℕ} {w : World} (r : Steps n w₀ w) → NoMove r → (tape : List ℕ)
      → EndsWith n (run_from left w tape) (history_from left w tape (past_in r))
  unfolding run_from history_from NoMove
  run_past zero {n} {w} r alone tape =
      let empty = empty_ending w.state.chosen w.cells in
      by_test (λ (e : RunEnd). EndsWith n e (past_in r)) (queue_empty w.state) (ended_as w empty) (ended_as w E.More)
      (λ t. ends_here r alone empty) (λ t. ends_here r alone E.More)
  run_past (suc left) {n} {w} r alone tape = go (queue_empty w.state) (on (tape_step_of w tape) refl (λ w' s a rest. run_past left s a rest))
    where
      Rest : StepEnd → RunEnd
      Rest s = gone_on w s (λ next bytes. run_from left next (drop bytes tape))

      Past : StepEnd → List PastStep
      Past s = past_on w tape s (past_in r) (λ next bytes past. history_from left next (drop bytes tape) past)

      go : (t : Bool) → EndsWith n (Rest (tape_step_of w tape)) (Past (tape_step_of w tape))
          → EndsWith n (cond t (ended_as w (empty_ending w.state.chosen w.cells)) (Rest (tape_step_of w tape)))
          (cond t (past_in r) (Past (tape_step_of w tape)))
      go true i = ends_here r alone (empty_ending w.state.chosen w.cells)
      go false i = i

      on : (s : StepEnd) → tape_step_of w tape ≡ s
          → ((w' : World) (s : Steps (suc n) w₀ w') → NoMove s → (rest : List ℕ)
          → EndsWith (suc n) (run_from left w' rest) (history_from left w' rest (past_in s)))
          → EndsWith n (Rest s) (Past s)
      on (refused why) f ih k e = ends_here r alone (E.Stop why) k e
      on (finished next evals bytes) f ih k e =
          let g = tape_step w tape next evals bytes f in
          let s : Steps (suc n) w₀ next = then_step r (take bytes tape) evals bytes g in
          rw (one_more_past r (take bytes tape) evals bytes g) (ih next s alone (drop bytes tape) k (omega (arith, e)))

  pub tool_steps : (steps : ℕ) (tape : List ℕ)
      → (r : Steps (run_from steps w₀ tape).steps w₀ (run_from steps w₀ tape).world) × NoMove r × (history_from steps w₀ tape [] ≡ past_in r)
  unfolding past_in NoMove
  tool_steps steps tape = run_past steps no_steps tt tape (run_from steps w₀ tape).steps (sym (zero-add (run_from steps w₀ tape).steps))

-- ---- the block that waits

-- behind so many others the ring gives the block that stands there
behind_is : (ring : List ℕ) (set : ℕ) (before : List Block) (head used : ℕ) (front back : Last) (b : Block) (behind : List Block)
    → fits_ring (length ring) head used ≡ true → BytesHold set front back (content ring head used) (before ++ (b ∷ behind))
    → block_behind (length before) ring set (taken ring head used set front) ≡ b
unfolding block_behind
behind_is ring set [] head used front back b behind f h = rw (take_answers ring head used set f h).0
behind_is ring set (c ∷ before) head used front back b behind f h =
    let (e, k, r) = take_answers ring head used set f h in
    let (inside, less) = take_frees ring head used set f front c (remembered c) _ _ e in
    let g = fits_both (length ring) head used f in
    rw e
    (behind_is ring set before _ _ (remembered c) back b behind
    (and_both (ltb _ (length ring)) (leb _ (length ring)) (lt-ltb _ (length ring) inside) (le-leb _ (length ring) (omega (arith, less, g.1)))) r)

-- ---- the reason is right

module _ (a : Asked) {w₀ : World} (z : BegunAs a w₀) where
  abbrev p : Chosen
  p = a.chosen

  -- the block that the explainer finds is the one that waits
  waits_there : {w : World} (o : Reached p w) (q : Pixel p) (h : List PastStep) (m : ℕ) (b : Block) → WhyWaiting p q h w m (m - w.state.taken) b
      → block_behind (m - w.state.taken) w.ring w.state.chosen.set (front_of w.state w.ring) ≡ b
  waits_there {w} o q h m b y =
      let e : o.blocks ≡ y.last.before ++ (y.last.this ∷ y.last.behind) = sym (keeps_queue w o.blocks o.keeps) ∙ y.last.in_order in
      let n : m - w.state.taken ≡ length y.last.before = omega (arith, y.last.number) in
      let k = o.keeps in
      let s = w.state in
      rw n
      (behind_is w.ring s.chosen.set y.last.before s.head s.used s.front s.back y.last.this y.last.behind
      (keeps_fits w o.blocks k)
      (subst (BytesHold s.chosen.set s.front s.back (content w.ring s.head s.used)) e k.holds)
      ∙ sym y.block_is)

  -- the reason by the blocks that cover the pixel
  covering_right : {n : ℕ} {w : World} (r : Steps n w₀ w) (q : Pixel p) (c : Cell)
      → pixel_cell p.width p.height q.x q.y (meanings w.cells) ≡ c
      → Explains p q (past_in r) w (reason_by p (over_pixel p q) w (past_in r) c (reading w.state.taken c))
  unfolding Explains reading reads_in is_given_up cell_code waiting_for
  covering_right {w = w} r q (Named m) e = by_number (leb w.state.taken m) refl
    where
      by_number : (t : Bool) → leb w.state.taken m ≡ t
          → Explains p q (past_in r) w (reason_by p (over_pixel p q) w (past_in r) (Named m) (cond t R.Uncertain R.False))
      by_number true f =
          let (b, y) = waiting_at a z r q m e (leb-true w.state.taken m f) in
          let is = waits_there (steps_reached p (begun_reached a w₀ z) r) q (past_in r) m b y in
          (ap (reading w.state.taken) e ∙ cond_yes (leb w.state.taken m) R.Uncertain R.False f, rw is y)
      by_number false f =
          let g : reads_in p w q ≡ R.False = ap (reading w.state.taken) e ∙ cond_no (leb w.state.taken m) R.Uncertain R.False f in
          (g, false_why a z r q g)
  covering_right {w = w} r q Marked e = let g : reads_in p w q ≡ R.True = ap (reading w.state.taken) e in (g, true_why a z r q g)
  covering_right r q GivenUp e = (e, given_up_why a z r q e)
  covering_right {w = w} r q (Other m) e =
      let g : StandsGivenUp p w q = (stands a z r q).1 (unfold standing_at standing in ap standing e) in
      let f : Other m ≡ GivenUp = sym e ∙ g in
      let o : ◌≡◌ {A = ℕ} 0 1 = cc in
      absurd (omega (arith, o))

  -- THE REASON, as the explainer gives it
  pub reason_right : {n : ℕ} {w : World} (r : Steps n w₀ w) (q : Pixel p) (column row : ℕ) → column ≡ q.x → row ≡ p.height - 1 - q.y
      → Explains p q (past_in r) w (reason_of (covers_at p column row) w (past_in r) (cell_at p column row w.cells))
  reason_right {w = w} r q column row e f =
      let h = begun_reached a w₀ z in
      let c = pixel_cell p.width p.height q.x q.y (meanings w.cells) in
      let is = reason_is p q (past_in r) (past_level p h r) w (steps_reached p h r).chosen c in
      rw (e, f) (subst (Explains p q (past_in r) w) (sym is) (covering_right r q c refl))

  -- THE TOOL
  pub tool_right : (steps : ℕ) (tape : List ℕ) (q : Pixel p) (column row : ℕ) → column ≡ q.x → row ≡ p.height - 1 - q.y
      → (let e = run_from steps w₀ tape in
      let h = history_from steps w₀ tape [] in
      (r : Steps e.steps w₀ e.world) × NoMove r × (h ≡ past_in r)
      × Explains p q h e.world (reason_of (covers_at p column row) e.world h (cell_at p column row e.world.cells)))
  tool_right steps tape q column row i j =
      let (r, alone, e) = tool_steps p (begun_reached a w₀ z) steps tape in
      (r, alone, e, rw e (reason_right r q column row i j))

-- ---- where it begins: at what an accepted setup leaves

same_world : (s s' : State) (ring ring' cells cells' : List ℕ) → s ≡ s' → ring ≡ ring' → cells ≡ cells'
    → world_of s ring cells ≡ world_of s' ring' cells'
same_world s s' ring ring' cells cells' e f g = rw (e, f, g)

pub begins_there : (chosen : Chosen) (ranges : Ranges) (ring cells : List ℕ)
    → InFormat ranges.m × InFormat ranges.n × InFormat ranges.theta × InFormat ranges.t
    → (s : State) → setup_answer (cleared chosen) ranges (length ring) (length cells) ≡ Ok s
    → BegunAs (asked_by chosen ranges ring cells)
    (world_of (start_record (cleared chosen) ranges (length ring)) (start_ring (cleared chosen) ranges ring) (start_cells (cleared chosen) ranges cells))
begins_there chosen ranges ring cells held s e =
    let a = asked_by chosen ranges ring cells in
    let w = world_of s (ring_begun (cleared chosen) ranges ring cells) (cells_begun (cleared chosen) ranges ring cells) in
    let z : BegunAs a w = setup_begins chosen ranges ring cells _ _ _ held refl refl refl s e in
    let b = begun_by a w z in
    subst (BegunAs a) (same_world _ _ _ _ _ _ b.state b.ring_is b.cells_are) z
