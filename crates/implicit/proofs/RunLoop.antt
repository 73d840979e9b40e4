-- The loop of a run, once over its step: what is left to do, with what was counted, is the run. Assumes nothing.
use mathlib.Core.Path.{◌≡◌, refl, sym, ap, ◌∙◌}
use mathlib.Core.Bool.{Bool, true, false, cond}
use mathlib.Core.List.{List}
use Prim.Native.Nat.{ℕ, suc, ◌+◌, ◌-◌, ◌≤◌, ◌<◌}
use native.Mathlib.Omega.{arith}
use lib.Dec.{leb}
use lib.ListN.{length, drop, length-drop}
use lib.Seq.{drop-drop}
use borrow.Author.Tests.{leb-true, leb-false, le-leb, lt-leb}
use Rattle.base.proofs.Test.{cases, cond_yes}
use Rattle.implicit.specs.declared.state.State.{State}
use Rattle.implicit.specs.declared.state.Ending.{Ending}
use Rattle.implicit.specs.declared.state.Ending.TheVariants as E
use Rattle.implicit.specs.Record.{pixel_count, queue_empty}
use Rattle.implicit.specs.Step.{World, world_of, StepEnd, refused, finished, world_after}
use Rattle.implicit.specs.Run.{RunEnd, ended_as, after_step, empty_ending, gone_on}
use Rattle.implicit.specs.declared.running.Progress.{Progress}
use Rattle.implicit.specs.RunComputed.{HowFar, going_on, stopped, halted, stepped, progress_after, progress_once, world_once, SoundByUse, OnceGone, Bounded, RunTo}
use Rattle.implicit.proofs.StepLawsWent.{Stays}

-- what the loop asks of a step on a tape, and of the run that takes such steps
pub record RunsBy (step : World → List ℕ → StepEnd) (runs : ℕ → World → List ℕ → RunEnd) : Type 0 where
  -- where the queue is empty a run ends, whatever its budget
  pub when_empty : (budget : ℕ) (w : World) (tape : List ℕ) → queue_empty w.state ≡ true
      → runs budget w tape ≡ ended_as w (empty_ending w.state.chosen w.cells)
  pub when_spent : (w : World) (tape : List ℕ) → queue_empty w.state ≡ false → runs 0 w tape ≡ ended_as w E.More
  pub when_left : (left : ℕ) (w : World) (tape : List ℕ) → queue_empty w.state ≡ false
      → runs (suc left) w tape ≡ gone_on w (step w tape) (λ next bytes. runs left next (drop bytes tape))
  -- a finished step takes few bytes and evaluations, and the picture and the buffers' lengths stay
  pub few : (w : World) (tape : List ℕ) (left : World) (e n : ℕ) → step w tape ≡ finished left e n → (n ≤ 4) × (n ≤ length tape) × (e ≤ 24)
  pub stays : (w : World) (tape : List ℕ) (left : World) (e n : ℕ) → step w tape ≡ finished left e n → Stays w left

-- how a run ended, with what was counted before
abbrev counted : HowFar → RunEnd → RunEnd
counted p e = record {
  world = e.world;
  steps = p.steps + e.steps;
  evaluations = p.evaluations + e.evaluations;
  tape = p.tape + e.tape;
  ending = e.ending;
}

-- what the loop keeps from one place to the next, and what falls; `whole` is all of the run from a place
pub record LoopKept (whole : HowFar → List ℕ → List ℕ → RunEnd) (budget : ℕ) (tape : List ℕ)
    (p : HowFar) (ring cells : List ℕ) (r : HowFar) (ring' cells' : List ℕ) : Type 0 where
  pub bounded : Bounded budget tape r
  pub same_ring : length ring' ≡ length ring
  pub same_cells : length cells' ≡ length cells
  pub same_chosen : r.state.chosen ≡ p.state.chosen
  pub enough : leb (pixel_count r.state.chosen) (length cells') ≡ true
  pub same_whole : whole r ring' cells' ≡ whole p ring cells
  pub less : budget - r.steps + cond r.going 1 0 < budget - p.steps + cond p.going 1 0

-- before the first step
abbrev begun_with : State → HowFar
begun_with s = record { state = s; steps = 0; evaluations = 0; tape = 0; ending = E.More; going = true }

module _ (step : World → List ℕ → StepEnd) (runs : ℕ → World → List ℕ → RunEnd) where
  -- all of the run: what is left to do, on a world, with what was counted so far
  abbrev whole_on : ℕ → HowFar → World → List ℕ → RunEnd
  whole_on budget p w tape = counted p (cond p.going (runs (budget - p.steps) w (drop p.tape tape)) (ended_as w p.ending))

  unfoldable pub whole_run : ℕ → List ℕ → HowFar → List ℕ → List ℕ → RunEnd
  whole_run budget tape p ring cells = whole_on budget p (world_of p.state ring cells) tape

  -- a step finished, and the rest
  counted_more : (budget : ℕ) (p : HowFar) (next : World) (evals bytes : ℕ) (tape : List ℕ) → p.steps < budget
      → whole_on budget (stepped p next.state evals bytes) next tape
      ≡ counted p (after_step evals bytes (runs (budget - p.steps - 1) next (drop bytes (drop p.tape tape))))
  counted_more budget p next evals bytes tape h =
      let k : budget - (p.steps + 1) ≡ budget - p.steps - 1 = omega arith in
      let d : drop bytes (drop p.tape tape) ≡ drop (p.tape + bytes) tape = drop-drop bytes p.tape tape in
      let r = runs (budget - p.steps - 1) next (drop (p.tape + bytes) tape) in
      let a : p.steps + 1 + r.steps ≡ p.steps + suc r.steps = omega arith in
      let b : p.evaluations + evals + r.evaluations ≡ p.evaluations + (evals + r.evaluations) = omega arith in
      let c : p.tape + bytes + r.tape ≡ p.tape + (bytes + r.tape) = omega arith in
      rw (d, k, a, b, c)

  module _ (laws : RunsBy step runs) (budget : ℕ) (tape : List ℕ) (p : HowFar) (ring cells : List ℕ) (going : p.going ≡ true) where
    abbrev here : World
    here = world_of p.state ring cells

    -- what is left to do on this world
    abbrev rest : RunEnd
    rest = runs (budget - p.steps) here (drop p.tape tape)

    abbrev next : StepEnd
    next = step here (drop p.tape tape)

    -- with steps left in the budget it is the next step, and the rest
    rest_left : queue_empty p.state ≡ false → p.steps < budget → (s : StepEnd) → next ≡ s
        → rest ≡ gone_on here s (λ v n. runs (budget - p.steps - 1) v (drop n (drop p.tape tape)))
    rest_left e h s f =
        let k : budget - p.steps ≡ suc (budget - p.steps - 1) = omega arith in
        ap (λ (n : ℕ). runs n here (drop p.tape tape)) k ∙ laws.when_left (budget - p.steps - 1) here (drop p.tape tape) e
        ∙ ap (λ (s : StepEnd). gone_on here s (λ v n. runs (budget - p.steps - 1) v (drop n (drop p.tape tape)))) f

    step_pass : queue_empty p.state ≡ false → p.steps < budget → (s : StepEnd) → next ≡ s
        → whole_on budget (progress_after p s) (world_after here s) tape ≡ counted p rest
    step_pass e h (refused why) f = sym (ap (counted p) (rest_left e h (refused why) f))
    step_pass e h (finished left evals bytes) f =
        counted_more budget p left evals bytes tape h ∙ ap (counted p) (sym (rest_left e h (finished left evals bytes) f))

    spent_pass : queue_empty p.state ≡ false → budget ≤ p.steps → whole_on budget (halted p E.More) here tape ≡ counted p rest
    spent_pass e h =
        let z : budget - p.steps ≡ 0 = omega arith in
        sym (ap (counted p) (ap (λ (n : ℕ). runs n here (drop p.tape tape)) z ∙ laws.when_spent here (drop p.tape tape) e))

    empty_pass : queue_empty p.state ≡ true → whole_on budget (halted p (empty_ending p.state.chosen cells)) here tape ≡ counted p rest
    empty_pass e = rw (laws.when_empty (budget - p.steps) here (drop p.tape tape) e)

    pass_rest : whole_on budget (progress_once budget p cells next) (world_once budget p here next) tape ≡ counted p rest
    unfolding progress_once world_once
    pass_rest =
        cases (queue_empty p.state) (λ e. rw e (empty_pass e))
        (λ e. cases (leb budget p.steps) (λ k. rw (e, k) (spent_pass e (leb-true budget p.steps k)))
        (λ k. rw (e, k) (step_pass e (leb-false budget p.steps k) next refl)))

    pass_on : whole_on budget (progress_once budget p cells next) (world_once budget p here next) tape ≡ whole_on budget p here tape
    pass_on = pass_rest ∙ sym (ap (counted p) (cond_yes p.going rest (ended_as here p.ending) going))

    module _ (r : HowFar) (ring' cells' : List ℕ) (is_r : r ≡ progress_once budget p cells next)
        (is_world : world_of r.state ring' cells' ≡ world_once budget p here next) where
      -- what is left to do from here is what was to do
      pass_whole : whole_run budget tape r ring' cells' ≡ whole_run budget tape p ring cells
      unfolding whole_run
      pass_whole = rw (is_world, is_r) pass_on

      -- the loop's measure falls
      pass_less : p.steps ≤ budget → budget - r.steps + cond r.going 1 0 < budget - p.steps + cond p.going 1 0
      unfolding progress_once
      pass_less h =
          let g : ◌≡◌ {A = ℕ} (cond p.going 1 0) 1 = ap (λ (b : Bool). cond b 1 0) going in
          let f : budget - (progress_once budget p cells next).steps + cond (progress_once budget p cells next).going 1 0 < budget - p.steps + 1 =
          cases (queue_empty p.state) (λ e. rw e (omega arith))
          (λ e. cases (leb budget p.steps) (λ k. rw (e, k) (omega arith))
          (λ k. rw (e, k) (after (leb-false budget p.steps k) next))) in
          rw is_r (omega (arith, f, g))
        where
          after : p.steps < budget → (s : StepEnd) → budget - (progress_after p s).steps + cond (progress_after p s).going 1 0 < budget - p.steps + 1
          after k (refused why) = omega arith
          after k (finished left evals bytes) = omega arith

      pass_bounded : Bounded budget tape p → Bounded budget tape r
      unfolding progress_once
      pass_bounded b =
          rw is_r
          (cases (queue_empty p.state) (λ e. rw e (halts (empty_ending p.state.chosen cells)))
          (λ e. cases (leb budget p.steps) (λ k. rw (e, k) (halts E.More))
          (λ k. rw (e, k) (after (leb-false budget p.steps k) next refl))))
        where
          halts : (e : Ending) → Bounded budget tape (halted p e)
          halts e = record { steps = b.steps; evaluations = b.evaluations; tape_used = b.tape_used; tape_few = b.tape_few }

          after : p.steps < budget → (s : StepEnd) → next ≡ s → Bounded budget tape (progress_after p s)
          after k (refused why) f = halts (E.Stop why)
          after k (finished left evals bytes) f =
              let few = laws.few here (drop p.tape tape) left evals bytes f in
              record {
                steps = omega arith;
                evaluations = omega (arith, b.evaluations, few.2);
                tape_used = omega (arith, b.tape_used, few.1, length-drop p.tape tape);
                tape_few = omega (arith, b.tape_few, few.0);
              }

      -- the picture and the buffers' lengths stay
      pass_stays : Stays here (world_of r.state ring' cells')
      unfolding world_once
      pass_stays =
          rw is_world
          (cases (queue_empty p.state) (λ e. rw e same)
          (λ e. cases (leb budget p.steps) (λ k. rw (e, k) same) (λ k. rw (e, k) (after next refl))))
        where
          same : Stays here here
          same = record { chosen = refl; ring = refl; cells = refl }

          after : (s : StepEnd) → next ≡ s → Stays here (world_after here s)
          after (refused why) f = same
          after (finished left evals bytes) f = laws.stays here (drop p.tape tape) left evals bytes f

      pass_enough : leb (pixel_count p.state.chosen) (length cells) ≡ true → leb (pixel_count r.state.chosen) (length cells') ≡ true
      pass_enough h = let s = pass_stays in rw (s.chosen, s.cells) h

      pub loop_kept : Bounded budget tape p → leb (pixel_count p.state.chosen) (length cells) ≡ true
          → LoopKept (whole_run budget tape) budget tape p ring cells r ring' cells'
      loop_kept b h = record {
        bounded = pass_bounded b;
        same_ring = pass_stays.ring;
        same_cells = pass_stays.cells;
        same_chosen = pass_stays.chosen;
        enough = pass_enough h;
        same_whole = pass_whole;
        less = pass_less b.steps;
      }

  -- THE BEGINNING AND THE END OF THE LOOP

  pub run_start : (budget : ℕ) (s : State) (ring cells tape : List ℕ)
      → whole_run budget tape (begun_with s) ring cells ≡ runs budget (world_of s ring cells) tape
  unfolding whole_run
  run_start budget s ring cells tape =
      let r = runs budget (world_of s ring cells) tape in
      let z : budget - 0 ≡ budget = omega arith in
      let a : 0 + r.steps ≡ r.steps = omega arith in
      let b : 0 + r.evaluations ≡ r.evaluations = omega arith in
      let c : 0 + r.tape ≡ r.tape = omega arith in
      rw (z, a, b, c)

  pub run_end : (budget : ℕ) (p : HowFar) (ring cells tape : List ℕ) (e : RunEnd) → p.going ≡ false
      → whole_run budget tape p ring cells ≡ e → RunTo e p ring cells
  unfolding whole_run
  run_end budget p ring cells tape e f h =
      let a : p.steps + 0 ≡ p.steps = omega arith in
      let b : p.evaluations + 0 ≡ p.evaluations = omega arith in
      let c : p.tape + 0 ≡ p.tape = omega arith in
      let k : counted p (ended_as (world_of p.state ring cells) p.ending) ≡ e = rw f at h in
      record {
        world = ap (λ (x : RunEnd). x.world) k;
        steps = sym a ∙ ap (λ (x : RunEnd). x.steps) k;
        evaluations = sym b ∙ ap (λ (x : RunEnd). x.evaluations) k;
        tape = sym c ∙ ap (λ (x : RunEnd). x.tape) k;
        ending = ap (λ (x : RunEnd). x.ending) k;
      }

  -- A PASS OF THE LOOP, which goes on or ends the run here

  module _ (laws : RunsBy step runs) (budget : ℕ) (tape : List ℕ) (p : Progress) (ring cells : List ℕ)
      (small : Bounded budget tape (going_on p)) (fits : leb (pixel_count p.state.chosen) (length cells) ≡ true) where
    abbrev at : World
    at = world_of p.state ring cells

    abbrev coming : StepEnd
    coming = step at (drop p.tape tape)

    kept : (r : HowFar) (ring' cells' : List ℕ) → r ≡ progress_once budget (going_on p) cells coming
        → world_of r.state ring' cells' ≡ world_once budget (going_on p) at coming
        → LoopKept (whole_run budget tape) budget tape (going_on p) ring cells r ring' cells'
    kept r ring' cells' e f = loop_kept laws budget tape (going_on p) ring cells refl r ring' cells' e f small fits

    -- what a pass that goes on keeps, and what falls
    pub record PassKept (q : Progress) (ring' cells' : List ℕ) : Type 0 where
      pub bounded : Bounded budget tape (going_on q)
      pub same_ring : length ring' ≡ length ring
      pub same_cells : length cells' ≡ length cells
      pub same_chosen : q.state.chosen ≡ p.state.chosen
      pub enough : leb (pixel_count q.state.chosen) (length cells') ≡ true
      pub same_whole : whole_run budget tape (going_on q) ring' cells' ≡ whole_run budget tape (going_on p) ring cells
      pub less : budget - q.steps < budget - p.steps

    pub pass_kept : (q : Progress) (ring' cells' : List ℕ) → going_on q ≡ progress_once budget (going_on p) cells coming
        → world_of q.state ring' cells' ≡ world_once budget (going_on p) at coming → PassKept q ring' cells'
    pass_kept q ring' cells' e f =
        let k = kept (going_on q) ring' cells' e f in record {
          bounded = k.bounded;
          same_ring = k.same_ring;
          same_cells = k.same_cells;
          same_chosen = k.same_chosen;
          enough = k.enough;
          same_whole = k.same_whole;
          less = omega (arith, k.less);
        }

    pub pass_ended : (e : Ending) (ring' cells' : List ℕ) → stopped p e ≡ progress_once budget (going_on p) cells coming
        → world_of p.state ring' cells' ≡ world_once budget (going_on p) at coming
        → (end : RunEnd) → whole_run budget tape (going_on p) ring cells ≡ end → RunTo end (stopped p e) ring' cells'
    pass_ended e ring' cells' f g end h =
        run_end budget (stopped p e) ring' cells' tape end refl ((kept (stopped p e) ring' cells' f g).same_whole ∙ h)

pub start_bounded : (budget : ℕ) (s : State) (tape : List ℕ) → Bounded budget tape (begun_with s)
start_bounded budget s tape = record { steps = omega arith; evaluations = omega arith; tape_used = omega arith; tape_few = omega arith }

-- BY THE TESTS THAT THE CODE MAKES

module _ (budget : ℕ) (p : HowFar) (ring cells : List ℕ) (next : StepEnd) (t : Bool) (is_t : t ≡ queue_empty p.state) where
  abbrev before : World
  before = world_of p.state ring cells

  pub once_empty : (r : HowFar) (e : Ending) → t ≡ true → e ≡ empty_ending p.state.chosen cells → r ≡ halted p e → SoundByUse (length ring) p.state
      → OnceGone budget p before next r ring cells
  unfolding progress_once world_once
  once_empty r e h f g s = let u : queue_empty p.state ≡ true = sym is_t ∙ h in (rw (u, g, f), rw (u, g), rw g s)

  pub once_spent : (r : HowFar) → t ≡ false → budget ≤ p.steps → r ≡ halted p E.More → SoundByUse (length ring) p.state
      → OnceGone budget p before next r ring cells
  unfolding progress_once world_once
  once_spent r h k g s =
      let u : queue_empty p.state ≡ false = sym is_t ∙ h in
      (rw (u, le-leb budget p.steps k, g), rw (u, le-leb budget p.steps k, g), rw g s)

  pub once_step : (r : HowFar) (ring' cells' : List ℕ) → t ≡ false → p.steps < budget → r ≡ progress_after p next
      → world_of r.state ring' cells' ≡ world_after before next → SoundByUse (length ring') r.state
      → OnceGone budget p before next r ring' cells'
  unfolding progress_once world_once
  once_step r ring' cells' h k g f s =
      let u : queue_empty p.state ≡ false = sym is_t ∙ h in
      (rw (u, lt-leb budget p.steps k) g, rw (u, lt-leb budget p.steps k) f, s)
