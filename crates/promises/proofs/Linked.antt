-- The engine is `theory`'s: an accepted setup is one there, each finished step is one there, and so is any number of them. A move is none:
-- it leaves the same snapshot there, so what was said of the steps before it is said along that equation. Assumes nothing.
use mathlib.Core.Path.{◌≡◌, refl, sym, ap, ap₂, ◌∙◌, subst}
use mathlib.Core.Logic.{◌⊎◌, inl, inr, ◌↔◌}
use mathlib.Core.Bool.{Bool, true, false, ◌&&◌}
use mathlib.Core.List.{List, [], ◌∷◌, ◌++◌}
use Prim.Native.Nat.{ℕ, ◌+◌, ◌≤◌}
use native.Mathlib.Omega.{arith}
use native.Mathlib.Numerals.{add-one}
use lib.Dec.{T}
use lib.ListN.{length}
use lib.ListN as L
use Rattle.base.specs.Event.{queued_by}
use Rattle.base.proofs.ListLaws.{every_also}
use Rattle.theory.specs.Runs.{Snapshot, AcceptedSetup, FinishedStep, FinishedSteps, no_step, one_more, EveryStep, queued_in}
use Rattle.theory.specs.Demand3.{any_gives_up, WasGivenUp}
use Rattle.image.specs.Cell.{meanings, meaning_of}
use Rattle.queue.specs.declared.Block.{Block}
use Rattle.decide.specs.declared.Chosen.{Chosen}
use Rattle.decide.specs.Damage.{sound}
use Rattle.decide.specs.Children.{children_of}
use Rattle.decide.specs.Verdict.{all_legal}
use Rattle.plan.specs.Plan.{outcomes, events_for}
use Rattle.decide.proofs.DamageLaws.{is_sound}
use Rattle.plan.proofs.ChildLaws.{ChildPlace, children_placed}
use Rattle.plan.proofs.EventLaws.{EachEvent, events_narrower}
use Rattle.implicit.specs.declared.state.State.{State}
use Rattle.implicit.specs.Record.{pixel_count}
use Rattle.implicit.specs.Setup.{first_blocks, start_record, setup_answer}
use Rattle.implicit.specs.Step.{World, finished, outcomes_of, events_of, new_blocks, world_left, step_of}
use Rattle.implicit.proofs.Numbers.{ready_by_number}
use Rattle.implicit.proofs.SetupLawsRefusal.{Accepted}
use Rattle.implicit.proofs.StepLawsWent.{step_stays}
use Rattle.promises.specs.Chart.{Pixel, covers_in, queued_blocks}
use Rattle.promises.specs.Steps.{Asked, BegunAs, MovesTo, Steps, no_steps, then_step, then_move, gave_up_taking, GivenUpIn, new_taking, queued_since}
use Rattle.promises.proofs.Snapshots.{standing_at, snapshot_of}
use Rattle.promises.proofs.Covering.{Level, all_narrower}
use Rattle.promises.proofs.CellsKept.{standing_after}
use Rattle.promises.proofs.EventsEach.{events_each}
use Rattle.promises.proofs.Along.{along}
use Rattle.promises.proofs.Invariant.{Keeps, keeps_queue, block_sound_lem, step_empty}
use Rattle.promises.proofs.MoveKeeps.{move_keeps, kept_same}
use Rattle.promises.proofs.StepKeeps.{took_front, left_cells, step_keeps}
use Rattle.promises.proofs.SetupKeeps.{Begins, begins, start_keeps, start_accepted}

-- a world with the picture p of which the invariant holds
pub record Reached (p : Chosen) (w : World) : Type 0 where
  pub blocks : List Block
  pub keeps : Keeps w blocks
  pub chosen : w.state.chosen ≡ p

-- A STEP

-- the step of `theory` that a finished step is, with what the engine checked of its block and of its verdicts
pub record Linked (p : Chosen) (w : World) (vs : List ℕ) (w' : World) : Type 0 where
  pub step : FinishedStep (covers_in p) false (snapshot_of p w) (snapshot_of p w')
  pub events_are : step.events ≡ events_of w step.front vs
  pub chosen : w.state.chosen ≡ p
  pub front_sound : sound p step.front ≡ true
  pub enough : pixel_count p ≤ length (meanings w.cells)
  pub verdicts : length vs ≡ length (children_of p step.front)
  pub legal : all_legal (children_of p step.front) vs ≡ true

-- its events by the picture alone
pub linked_events : (p : Chosen) (w : World) (vs : List ℕ) (w' : World) (l : Linked p w vs w')
    → l.step.events ≡ events_for p l.step.front (children_of p l.step.front) (outcomes p (meanings w.cells) (children_of p l.step.front) vs)
linked_events p w vs w' l = l.events_are ∙ rw l.chosen

module _ (w : World) (c : Block) (rest : List Block) (k : Keeps w (c ∷ rest)) (vs : List ℕ) where
  -- both coordinates of all blocks concerned have one level
  front_level : Level c
  front_level = (is_sound w.state.chosen c (block_sound_lem w c rest k)).block.ranks

  events_level : EachEvent Level (events_of w c vs)
  events_level =
      events_each Level (λ d n h. h) w.state.chosen c (children_of w.state.chosen c) (outcomes_of w c vs)
      (every_also (ChildPlace w.state.chosen c) Level (λ d h. h.ranks) (children_of w.state.chosen c) (children_placed w.state.chosen c (block_sound_lem w c rest k)))

  pub linked : (left : World) (evals bytes : ℕ) → step_of w vs ≡ finished left evals bytes → Linked w.state.chosen w vs left
  linked left evals bytes e =
      let p = w.state.chosen in
      let t = took_front w c rest k vs left evals bytes e in
      let k' = step_keeps w c rest k vs left evals bytes e in
      let is = keeps_queue w (c ∷ rest) k in
      let enough : pixel_count p ≤ length (meanings w.cells) = rw (L.length-map w.cells meaning_of) k.enough in
      let number : w.state.queued ≡ w.state.taken + length (queued_blocks w) = rw is (sym k.count) in
      record {
        step = record {
          front = c;
          rest = rest;
          events = events_of w c vs;
          at_front = is;
          narrower = all_narrower p c (events_of w c vs) front_level events_level (events_narrower p c (block_sound_lem w c rest k) (outcomes_of w c vs));
          taken' = ap (λ (v : World). v.state.taken) t.left_is ∙ unfold world_left in add-one w.state.taken;
          queue' = keeps_queue left (rest ++ new_blocks w c vs) k';
          cells' = λ q.
              ap (λ (v : World). standing_at p (meanings v.cells) q) t.left_is
              ∙ rw (left_cells w c rest k vs t.room t.numbers, ← number) (standing_after p c front_level w.state.taken q w.state.queued (events_of w c vs) (meanings w.cells) enough events_level);
        };
        events_are = refl;
        chosen = refl;
        front_sound = block_sound_lem w c rest k;
        enough = enough;
        verdicts = t.verdicts;
        legal = t.legal;
      }

module _ (p : Chosen) (w : World) (h : Reached p w) (vs : List ℕ) (left : World) (evals bytes : ℕ) (e : step_of w vs ≡ finished left evals bytes) where
  -- a step on an empty queue is not finished
  none_finished : {P : Type 0} → Keeps w [] → P
  none_finished k = let f = step_empty w k false vs in let z : ◌≡◌ {A = ℕ} 0 1 = cc in absurd (omega arith)

  pub step_reached : Reached p left
  step_reached = go h.blocks h.keeps
    where
      go : (q : List Block) → Keeps w q → Reached p left
      go [] k = none_finished k
      go (c ∷ rest) k = record {
        blocks = rest ++ new_blocks w c vs;
        keeps = step_keeps w c rest k vs left evals bytes e;
        chosen = (step_stays false w vs left evals bytes e).chosen ∙ h.chosen;
      }

  pub step_linked : Linked p w vs left
  step_linked = go h.blocks h.keeps
    where
      go : (q : List Block) → Keeps w q → Linked p w vs left
      go [] k = none_finished k
      go (c ∷ rest) k = subst (λ (o : Chosen). Linked o w vs left) h.chosen (linked w c rest k vs left evals bytes e)

-- A MOVE

module _ (p : Chosen) (w : World) (h : Reached p w) (w' : World) (m : MovesTo w w') where
  pub move_reached : Reached p w'
  move_reached = let k = move_keeps m h.blocks h.keeps in record { blocks = h.blocks; keeps = k.keeps; chosen = k.chosen ∙ h.chosen }

  pub move_same : snapshot_of p w ≡ snapshot_of p w'
  move_same = kept_same p w h.blocks w' h.keeps (move_keeps m h.blocks h.keeps)

-- ANY NUMBER OF STEPS, with moves between them

-- n steps of `theory` from s on, by their end
abbrev pub StepsFrom : (p : Chosen) → ℕ → Snapshot Block (Pixel p) → Snapshot Block (Pixel p) → Type 0
StepsFrom p n s t = FinishedSteps (covers_in p) false n s t

module _ (p : Chosen) {w : World} (h : Reached p w) where
  pub steps_reached : {n : ℕ} {w' : World} → Steps n w w' → Reached p w'
  steps_reached no_steps = h
  steps_reached (then_step {w' = w'} {w'' = w''} r vs evals bytes e) = step_reached p w' (steps_reached r) vs w'' evals bytes e
  steps_reached (then_move {w' = w'} {w'' = w''} r m) = move_reached p w' (steps_reached r) w'' m

  -- the steps of `theory` that they are
  unfoldable pub in_theory : {n : ℕ} {w' : World} → Steps n w w' → FinishedSteps (covers_in p) false n (snapshot_of p w) (snapshot_of p w')
  in_theory no_steps = no_step
  in_theory (then_step {w' = w'} {w'' = w''} r vs evals bytes e) = one_more (in_theory r) (step_linked p w' (steps_reached r) vs w'' evals bytes e).step
  in_theory (then_move {n = n} {w' = w'} {w'' = w''} r m) = subst (StepsFrom p n (snapshot_of p w)) (move_same p w' (steps_reached r) w'' m) (in_theory r)

  -- what is said of them before a move is said of them after it
  unfoldable pub over_move : {n : ℕ} {w' w'' : World} (r : Steps n w w') (m : MovesTo w' w'')
      (P : (s : Snapshot Block (Pixel p)) → StepsFrom p n (snapshot_of p w) s → Type 0) → P (snapshot_of p w') (in_theory r) → P (snapshot_of p w'') (in_theory (then_move r m))
  unfolding in_theory
  over_move {n = n} {w' = w'} {w'' = w''} r m P = along (StepsFrom p n (snapshot_of p w)) P (move_same p w' (steps_reached r) w'' m) (in_theory r)

  -- what holds of each finished step holds of each of them
  pub each_linked : (P : (s s' : Snapshot Block (Pixel p)) → FinishedStep (covers_in p) false s s' → Type 0)
      → ((v v' : World) (vs : List ℕ) (l : Linked p v vs v') → P (snapshot_of p v) (snapshot_of p v') l.step)
      → {n : ℕ} {w' : World} (r : Steps n w w') → EveryStep (covers_in p) false P (in_theory r)
  unfolding EveryStep in_theory
  each_linked P f no_steps = tt
  each_linked P f (then_step {w' = w'} {w'' = w''} r vs evals bytes e) = (each_linked P f r, f w' w'' vs (step_linked p w' (steps_reached r) vs w'' evals bytes e))
  each_linked P f (then_move r m) = over_move r m (λ s x. EveryStep (covers_in p) false P x) (each_linked P f r)

  -- what they queue is what the engine queues
  queued_one_lem : (v v' : World) (vs : List ℕ) (l : Linked p v vs v') → queued_by l.step.events ≡ new_taking v vs (queued_blocks v)
  unfolding new_taking
  queued_one_lem v v' vs l = rw (l.events_are, l.step.at_front)

  pub queued_as : {n : ℕ} {w' : World} (r : Steps n w w') → queued_in (covers_in p) false (in_theory r) ≡ queued_since r
  unfolding queued_in queued_since in_theory
  queued_as no_steps = refl
  queued_as (then_step {w' = w'} {w'' = w''} r vs evals bytes e) = ap₂ ◌++◌ (queued_as r) (queued_one_lem w' w'' vs (step_linked p w' (steps_reached r) vs w'' evals bytes e))
  queued_as (then_move r m) = over_move r m (λ s x. queued_in (covers_in p) false x ≡ queued_since r) (queued_as r)

  -- what they give up is what the engine gives up
  both_tests : (a b : Bool) → (T a × T b) ↔ T (a && b)
  both_tests true b = ((λ t. t.1), (λ t. (tt, t)))
  both_tests false b = ((λ t. t.0), (λ t. absurd t))

  gave_up_one : (v v' : World) (vs : List ℕ) (l : Linked p v vs v') (q : Pixel p)
      → (T (any_gives_up l.step.events) × T (covers_in p l.step.front q)) ↔ T (gave_up_taking p v vs (queued_blocks v) q)
  unfolding gave_up_taking
  gave_up_one v v' vs l q = rw (l.events_are, l.step.at_front) (both_tests (any_gives_up (events_of v l.step.front vs)) (covers_in p l.step.front q))

  pub given_up_as : {n : ℕ} {w' : World} (r : Steps n w w') (q : Pixel p) → WasGivenUp (covers_in p) false (in_theory r) q ↔ GivenUpIn p r q
  unfolding WasGivenUp GivenUpIn in_theory
  given_up_as no_steps q = ((λ t. t), (λ t. t))
  given_up_as (then_step {w' = w'} {w'' = w''} r vs evals bytes e) q =
      let one = gave_up_one w' w'' vs (step_linked p w' (steps_reached r) vs w'' evals bytes e) q in
      let all = given_up_as r q in
      (either all.0 one.0, either all.1 one.1)
    where
      either : {A B C D : Type 0} → (A → B) → (C → D) → A ⊎ C → B ⊎ D
      either f g (inl a) = inl (f a)
      either f g (inr c) = inr (g c)
  given_up_as (then_move r m) q = over_move r m (λ s x. WasGivenUp (covers_in p) false x q ↔ GivenUpIn p r q) (given_up_as r q)

-- THE SETUP

module _ (a : Asked) (w : World) (z : BegunAs a w) where
  pub begun_by : Begins a.chosen a.ranges a.ring a.cells w.state
  begun_by =
      begins a.chosen a.ranges a.ring a.cells w.state
      (ready_by_number (setup_answer a.chosen a.ranges (length a.ring) (length a.cells)) w.state z.accepted z.state)

  -- what it has passed, and what it queued
  pub begun_passed : Accepted a.chosen a.ranges (length a.ring) (length a.cells)
  begun_passed = begun_by.passed

  pub begun_reached : Reached a.chosen w
  unfolding start_record
  begun_reached =
      let b = begun_by in
      record {
        blocks = first_blocks a.chosen a.ranges;
        keeps = rw (b.state, z.ring ∙ b.ring_is, z.cells ∙ b.cells_are) (start_keeps a.chosen a.ranges a.ring a.cells z.held b.passed);
        chosen = ap (λ (s : State). s.chosen) b.state;
      }

  -- the invariant holds of what it leaves, and of every world that steps and moves reach from there
  pub reached_by : {n : ℕ} {w' : World} → Steps n w w' → Reached a.chosen w'
  reached_by r = steps_reached a.chosen begun_reached r

  pub begun_accepted : AcceptedSetup (covers_in a.chosen) (snapshot_of a.chosen w)
  begun_accepted =
      let b = begun_by in
      rw (b.state, z.ring ∙ b.ring_is, z.cells ∙ b.cells_are) (start_accepted a.chosen a.ranges a.ring a.cells z.held b.passed)

  pub begun_queue : queued_blocks w ≡ first_blocks a.chosen a.ranges
  unfolding begun_reached
  begun_queue = keeps_queue w (first_blocks a.chosen a.ranges) begun_reached.keeps
