-- From the contract of `explain` to its promises. Where it answers a reason, or the number of a step that refused: a setup was accepted, and
-- finished steps lead from there to the record, ring and cells that it leaves. Where it is refused, the ring and the cells are as they were.
-- Assumes nothing.
use mathlib.Core.Path.{◌≡◌, refl, sym, ap, ◌∙◌, subst}
use mathlib.Core.Logic.{◌⊎◌}
use mathlib.Core.Bool.{Bool, true, false}
use mathlib.Core.List.{List, []}
use Prim.Native.Nat.{ℕ, ◌-◌, ◌<◌}
use native.Mathlib.Omega.{arith}
use lib.Dec.{ltb}
use lib.ListN.{length, drop}
use borrow.Author.Tests.{ltb-true}
use Rattle.base.proofs.Test.{and_left, and_right}
use Rattle.std.specs.Prelude.{Result, Ok, Err}
use Rattle.refusal.specs.declared.Refusal.{Refusal}
use Rattle.interval.specs.Bounds.{InFormat}
use Rattle.decide.specs.declared.Chosen.{Chosen}
use Rattle.implicit.specs.declared.state.Ending.{Ending}
use Rattle.implicit.specs.declared.state.Ending.TheVariants as E
use Rattle.implicit.specs.declared.state.Ranges.{Ranges}
use Rattle.implicit.specs.declared.state.State.{State}
use Rattle.implicit.specs.Record.{queue_empty}
use Rattle.implicit.specs.Setup.{cleared, setup_answer}
use Rattle.implicit.specs.Step.{World, world_of, refused, tape_step_of}
use Rattle.implicit.specs.Run.{RunEnd, run_from}
use Rattle.explain.specs.declared.reason.Reason.{Reason}
use Rattle.explain.specs.declared.reason.Explanation.{Explanation}
use Rattle.explain.specs.declared.reason.Explanation.TheVariants as X
use Rattle.explain.specs.History.{PastStep, history_from}
use Rattle.explain.specs.Explained.{pixel_inside, and_then_pixel, beginning, world_begun, reason_after, explained_by, unless_refused, if_ready}
use Rattle.explain.specs.Explained.{explained, ring_explained, cells_explained}
use Rattle.promises.specs.Chart.{Pixel}
use Rattle.promises.specs.Steps.{BegunAs, Steps, NoMove}
use Rattle.promises.specs.Calls.{asked_by, ran_to}
use Rattle.promises.specs.Why.{past_in, Explains}
use Rattle.promises.proofs.Linked.{begun_reached}
use Rattle.promises.proofs.RunSteps.{stops, ends_asked}
use Rattle.promises.proofs.Explains.{tool_steps, tool_right, begins_there}

-- ---- the answers apart

-- it was begun: the setup answered a record, and the pixel lies inside
record Begun (x : Result State Refusal) (inside : Bool) : Type 0 where
  first : State
  ready : x ≡ Ok first
  pixel : inside ≡ true

begun_with : (t : State) → Begun (Ok t) true
begun_with t = record { first = t; ready = refl; pixel = refl }

-- what it left then
begun_left : (x : Result State Refusal) (inside : Bool) (after before : List ℕ) → Begun x inside → if_ready (and_then_pixel x inside) after before ≡ after
begun_left x inside after before b = rw (b.ready, b.pixel)

-- an answer by the end of a run: the record and the counts are the run's
record Told (x : Result State Refusal) (inside : Bool) (e : RunEnd) (y : Ending) (s : State) (n evals bytes : ℕ) (ending : Ending) : Type 0 where
  begun : Begun x inside
  state_is : s ≡ e.world.state
  steps_are : n ≡ e.steps
  evaluations_are : evals ≡ e.evaluations
  bytes_are : bytes ≡ e.tape
  ending_is : ending ≡ y

-- where it is a reason
reasoned : (x : Result State Refusal) (inside : Bool) (because : Reason) (e : RunEnd) (y : Ending) (why : Reason) (s : State) (n evals bytes : ℕ)
    (ending : Ending) → unless_refused (and_then_pixel x inside) (explained_by because e y) ≡ Ok (X.Of why s n evals bytes ending)
    → (why ≡ because) × Told x inside e y s n evals bytes ending
reasoned (Ok t) true because e (E.Stop r) why s n evals bytes ending f = let z : ◌≡◌ {A = ℕ} 0 1 = cc in absurd (omega arith)
reasoned (Ok t) true because e E.Done why s n evals bytes ending f =
    (cc, record { begun = begun_with t; state_is = cc; steps_are = cc; evaluations_are = cc; bytes_are = cc; ending_is = cc })
reasoned (Ok t) true because e E.Limit why s n evals bytes ending f =
    (cc, record { begun = begun_with t; state_is = cc; steps_are = cc; evaluations_are = cc; bytes_are = cc; ending_is = cc })
reasoned (Ok t) true because e E.More why s n evals bytes ending f =
    (cc, record { begun = begun_with t; state_is = cc; steps_are = cc; evaluations_are = cc; bytes_are = cc; ending_is = cc })
reasoned (Ok t) false because e y why s n evals bytes ending f = let z : ◌≡◌ {A = ℕ} 0 1 = cc in absurd (omega arith)
reasoned (Err r) inside because e y why s n evals bytes ending f = let z : ◌≡◌ {A = ℕ} 0 1 = cc in absurd (omega arith)

-- no step refused then
not_stopped : (x : Result State Refusal) (inside : Bool) (because : Reason) (e : RunEnd) (y : Ending) (why : Reason) (s : State) (n evals bytes : ℕ)
    (ending : Ending) → unless_refused (and_then_pixel x inside) (explained_by because e y) ≡ Ok (X.Of why s n evals bytes ending)
    → (r : Refusal) → ¬ (y ≡ E.Stop r)
not_stopped (Ok t) true because e y why s n evals bytes ending f r i =
    let g : Ok (explained_by because e (E.Stop r)) ≡ Ok (X.Of why s n evals bytes ending) = rw i at f in let z : ◌≡◌ {A = ℕ} 0 1 = cc in omega arith
not_stopped (Ok t) false because e y why s n evals bytes ending f r i = let z : ◌≡◌ {A = ℕ} 0 1 = cc in omega arith
not_stopped (Err o) inside because e y why s n evals bytes ending f r i = let z : ◌≡◌ {A = ℕ} 0 1 = cc in omega arith

-- where it is a step's number
stopped : (x : Result State Refusal) (inside : Bool) (because : Reason) (e : RunEnd) (y : Ending) (why : Refusal) (s : State) (n evals bytes : ℕ)
    → unless_refused (and_then_pixel x inside) (explained_by because e y) ≡ Ok (X.Stopped why s n evals bytes)
    → Told x inside e y s n evals bytes (E.Stop why)
stopped (Ok t) true because e (E.Stop r) why s n evals bytes f =
    let same : why ≡ r = cc in
    record { begun = begun_with t; state_is = cc; steps_are = cc; evaluations_are = cc; bytes_are = cc; ending_is = ap E.Stop same }
stopped (Ok t) true because e E.Done why s n evals bytes f = let z : ◌≡◌ {A = ℕ} 0 1 = cc in absurd (omega arith)
stopped (Ok t) true because e E.Limit why s n evals bytes f = let z : ◌≡◌ {A = ℕ} 0 1 = cc in absurd (omega arith)
stopped (Ok t) true because e E.More why s n evals bytes f = let z : ◌≡◌ {A = ℕ} 0 1 = cc in absurd (omega arith)
stopped (Ok t) false because e y why s n evals bytes f = let z : ◌≡◌ {A = ℕ} 0 1 = cc in absurd (omega arith)
stopped (Err r) inside because e y why s n evals bytes f = let z : ◌≡◌ {A = ℕ} 0 1 = cc in absurd (omega arith)

same_end_lem : (e : RunEnd) (s : State) (ring cells : List ℕ) (n evals bytes : ℕ) (ending : Ending) → s ≡ e.world.state → ring ≡ e.world.ring
    → cells ≡ e.world.cells → n ≡ e.steps → evals ≡ e.evaluations → bytes ≡ e.tape → ending ≡ e.ending
    → e ≡ ran_to s ring cells n evals bytes ending
same_end_lem e s ring cells n evals bytes ending a b c d f g h = rw (a, b, c, d, f, g, h) refl

-- refused, it left what there was
refused_left : (x : Result State Refusal) (because : Reason) (e : RunEnd) (y : Ending) (why : Refusal) (after before : List ℕ)
    → unless_refused x (explained_by because e y) ≡ Err why → if_ready x after before ≡ before
refused_left (Ok t) because e (E.Stop r) why after before f = let z : ◌≡◌ {A = ℕ} 0 1 = cc in absurd (omega arith)
refused_left (Ok t) because e E.Done why after before f = let z : ◌≡◌ {A = ℕ} 0 1 = cc in absurd (omega arith)
refused_left (Ok t) because e E.Limit why after before f = let z : ◌≡◌ {A = ℕ} 0 1 = cc in absurd (omega arith)
refused_left (Ok t) because e E.More why after before f = let z : ◌≡◌ {A = ℕ} 0 1 = cc in absurd (omega arith)
refused_left (Err r) because e y why after before f = refl

-- the pixel in a column, and in a row from the top
pixel_at : (p : Chosen) (column row : ℕ) → pixel_inside p column row ≡ true → (q : Pixel p) × (column ≡ q.x) × (row ≡ p.height - 1 - q.y)
unfolding pixel_inside
pixel_at p column row t =
    let i = ltb-true column p.width (and_left (ltb column p.width) (ltb row p.height) t) in
    let j = ltb-true row p.height (and_right (ltb column p.width) (ltb row p.height) t) in
    (record { x = column; y = p.height - 1 - row; x_in = i; y_in = omega arith }, refl, omega arith)

-- ---- the promises, from what the contract ensures

module _ (chosen : Chosen) (ranges : Ranges) (ring cells tape : List ℕ) (steps column row : ℕ) (r : Result Explanation Refusal) (ring' cells' : List ℕ)
    (is : r ≡ explained (cleared chosen) ranges ring cells tape steps column row)
    (ring_is : ring' ≡ ring_explained (cleared chosen) ranges ring cells tape steps column row)
    (cells_are : cells' ≡ cells_explained (cleared chosen) ranges ring cells tape steps column row) where
  abbrev p : Chosen
  p = cleared chosen

  abbrev w₀ : World
  w₀ = world_begun (cleared chosen) ranges ring cells

  abbrev end : RunEnd
  end = run_from steps (world_begun (cleared chosen) ranges ring cells) tape

  abbrev past : List PastStep
  past = history_from steps (world_begun (cleared chosen) ranges ring cells) tape []

  abbrev ready_as : Result State Refusal
  ready_as = setup_answer (cleared chosen) ranges (length ring) (length cells)

  abbrev inside : Bool
  inside = pixel_inside (cleared chosen) column row

  -- what it answers and leaves is the end of the run
  end_is : (s : State) (n evals bytes : ℕ) (ending : Ending) → Told ready_as inside end end.ending s n evals bytes ending
      → end ≡ ran_to s ring' cells' n evals bytes ending
  unfolding ring_explained cells_explained beginning
  end_is s n evals bytes ending o =
      same_end_lem end s ring' cells' n evals bytes ending o.state_is (ring_is ∙ begun_left _ _ end.world.ring ring o.begun)
      (cells_are ∙ begun_left _ _ end.world.cells cells o.begun) o.steps_are o.evaluations_are o.bytes_are o.ending_is

  module _ (held : InFormat ranges.m × InFormat ranges.n × InFormat ranges.theta × InFormat ranges.t) where
    begins : Begun ready_as inside → BegunAs (asked_by chosen ranges ring cells) w₀
    unfolding world_begun
    begins b = begins_there chosen ranges ring cells held b.first b.ready

    -- where it answers a reason: what it leaves is the end of the run from an accepted setup on; its steps are finished steps, and the reason
    -- explains the pixel
    pub reason_answered : (why : Reason) (s : State) (n evals bytes : ℕ) (ending : Ending) → r ≡ Ok (X.Of why s n evals bytes ending)
        → (w₀ : World) × BegunAs (asked_by chosen ranges ring cells) w₀ × (run_from steps w₀ tape ≡ ran_to s ring' cells' n evals bytes ending)
        × (q : Pixel (cleared chosen)) × (column ≡ q.x) × (row ≡ chosen.height - 1 - q.y)
        × (c : Steps n w₀ (world_of s ring' cells')) × NoMove c × (history_from steps w₀ tape [] ≡ past_in c)
        × Explains (cleared chosen) q (past_in c) (world_of s ring' cells') why
    unfolding explained beginning
    reason_answered why s n evals bytes ending e =
        let (same, o) = reasoned _ _ because end end.ending why s n evals bytes ending (sym is ∙ e) in
        let z = begins o.begun in
        let f = end_is s n evals bytes ending o in
        let (q, i, j) = pixel_at p column row o.begun.pixel in
        let (c, alone, h, x) = subst (Leaves q) f (there z q i j same) in
        (w₀, z, f, q, i, j, c, alone, h, x)
      where
        because : Reason
        because = reason_after p column row end past

        Leaves : Pixel p → RunEnd → Type 0
        Leaves q e = (c : Steps e.steps w₀ e.world) × NoMove c × (past ≡ past_in c) × Explains p q (past_in c) e.world why

        there : BegunAs (asked_by chosen ranges ring cells) w₀ → (q : Pixel p) → column ≡ q.x → row ≡ p.height - 1 - q.y → why ≡ because
            → Leaves q end
        there z q i j same =
            let (c, alone, h, x) = tool_right (asked_by chosen ranges ring cells) z steps tape q column row i j in
            (c, alone, h, subst (λ (l : List PastStep). Explains p q l end.world why) h (rw same (unfold reason_after in x)))

    -- where it answers a step's number: the same, and a step on what it leaves, with the rest of the tape, refuses by that number
    pub stop_answered : (why : Refusal) (s : State) (n evals bytes : ℕ) → r ≡ Ok (X.Stopped why s n evals bytes)
        → (w₀ : World) × BegunAs (asked_by chosen ranges ring cells) w₀ × (run_from steps w₀ tape ≡ ran_to s ring' cells' n evals bytes (E.Stop why))
        × (c : Steps n w₀ (world_of s ring' cells')) × NoMove c × (tape_step_of (world_of s ring' cells') (drop bytes tape) ≡ refused why)
    unfolding explained beginning
    stop_answered why s n evals bytes e =
        let o = stopped _ _ (reason_after p column row end past) end end.ending why s n evals bytes (sym is ∙ e) in
        let z = begins o.begun in
        let f = end_is s n evals bytes (E.Stop why) o in
        let (d, alone', h) = tool_steps p (begun_reached (asked_by chosen ranges ring cells) w₀ z) steps tape in
        let (c, alone, g) = subst Leaves f (d, alone', stops why steps w₀ tape (sym o.ending_is)) in
        (w₀, z, f, c, alone, g)
      where
        Leaves : RunEnd → Type 0
        Leaves e = (c : Steps e.steps w₀ e.world) × NoMove c × (tape_step_of e.world (drop e.tape tape) ≡ refused why)

  -- where it answers a reason, the steps are those asked for, or the queue emptied sooner
  pub end_answered : (why : Reason) (s : State) (n evals bytes : ℕ) (ending : Ending) → r ≡ Ok (X.Of why s n evals bytes ending)
      → (n ≡ steps) ⊎ ((n < steps) × (queue_empty s ≡ true))
  unfolding explained beginning
  end_answered why s n evals bytes ending e =
      let because = reason_after p column row end past in
      let (same, o) = reasoned ready_as inside because end end.ending why s n evals bytes ending (sym is ∙ e) in
      rw (o.steps_are, o.state_is)
      (ends_asked steps w₀ tape (not_stopped ready_as inside because end end.ending why s n evals bytes ending (sym is ∙ e)))

  -- where it is refused, nothing was written
  pub refusal_answered : (why : Refusal) → r ≡ Err why → (ring' ≡ ring) × (cells' ≡ cells)
  unfolding explained ring_explained cells_explained
  refusal_answered why e =
      let because = reason_after p column row end past in
      let x = beginning p ranges (length ring) (length cells) column row in (
        ring_is ∙ refused_left x because end end.ending why end.world.ring ring (sym is ∙ e),
        cells_are ∙ refused_left x because end end.ending why end.world.cells cells (sym is ∙ e),
      )
