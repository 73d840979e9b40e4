-- From the contracts to the promises: what `setup`, `step`, `run`, `move_queue` and `picture` ensure of a call's answer and memory gives the conditions of the
-- promises. The hypotheses are the contracts' `ensures`, with r for the answer, a name for the memory at entry, and the name with ' for it at exit.
-- Assumes nothing.
use mathlib.Core.Path.{◌≡◌, refl, sym, ap, ◌∙◌}
use mathlib.Core.Bool.{Bool, true, false, ◌&&◌}
use mathlib.Core.List.{List, ◌++◌}
use Prim.Native.Nat.{ℕ, suc, ◌+◌}
use native.Mathlib.Omega.{arith}
use lib.Dec.{leb, ltb}
use lib.ListN.{length}
use Rattle.std.specs.Prelude.{Result, Ok, Err}
use Rattle.refusal.specs.declared.Refusal.{Refusal}
use Rattle.refusal.specs.declared.Refusal.TheVariants as R
use Rattle.interval.specs.Bounds.{InFormat}
use Rattle.decide.specs.declared.Chosen.{Chosen}
use Rattle.implicit.specs.declared.state.Ranges.{Ranges}
use Rattle.implicit.specs.declared.state.State.{State}
use Rattle.implicit.specs.declared.state.Ending.{Ending}
use Rattle.implicit.specs.declared.state.Refused.{Refused}
use Rattle.implicit.specs.declared.state.Finished.{Finished}
use Rattle.implicit.specs.declared.state.Ended.{Ended}
use Rattle.implicit.specs.Setup.{cleared, setup_answer, ring_begun, cells_begun}
use Rattle.implicit.specs.Step.{World, world_of, finished, step_of, EndsAs}
use Rattle.implicit.specs.Run.{RunResult, not_run, has_run, run_of, RunsAs}
use Rattle.implicit.specs.Record.{refused_unless, sound_record}
use Rattle.implicit.specs.Move.{moved_world, not_moved, moved, move_of, move_answer, other_after, MovesAs}
use Rattle.implicit.specs.Answers.{setup_number, setup_state, run_state, run_steps, run_evaluations, run_tape}
use Rattle.implicit.proofs.StepAnswered.{answered_finished, answered_refused}
use Rattle.promises.specs.Steps.{BegunAs, MovesTo, to_ring, Steps, then_step, verdicts_of, evaluations_of}
use Rattle.promises.specs.Calls.{asked_by, ran_to}

-- SETUP
pub setup_begins : (chosen : Chosen) (ranges : Ranges) (ring cells ring' cells' : List ℕ) (r : Result State Refusal)
    → InFormat ranges.m × InFormat ranges.n × InFormat ranges.theta × InFormat ranges.t
    → r ≡ setup_answer (cleared chosen) ranges (length ring) (length cells)
    → ring' ≡ ring_begun (cleared chosen) ranges ring cells
    → cells' ≡ cells_begun (cleared chosen) ranges ring cells
    → (s : State) → r ≡ Ok s → BegunAs (asked_by chosen ranges ring cells) (world_of s ring' cells')
setup_begins chosen ranges ring cells ring' cells' r held answer ring_left cells_left s ready =
    let e : setup_answer (cleared chosen) ranges (length ring) (length cells) ≡ Ok s = sym answer ∙ ready in
    record { accepted = ap setup_number e; state = ap setup_state e; ring = ring_left; cells = cells_left; held = held }

-- STEP

module _ (s : State) (ring cells verdicts ring' cells' : List ℕ) (r : Result Finished Refused)
    (ensures : EndsAs (world_of s ring cells) (step_of (world_of s ring cells) verdicts) r ring' cells') where
  pub step_finishes : (s' : State) (evals bytes : ℕ) → r ≡ Ok (record { state = s'; evaluations = evals; verdicts = bytes })
      → step_of (world_of s ring cells) verdicts ≡ finished (world_of s' ring' cells') evals bytes
  step_finishes s' evals bytes e = answered_finished (world_of s ring cells) (step_of (world_of s ring cells) verdicts) s' evals bytes ring' cells' (rw e at ensures)

  pub step_counts : (s' : State) (evals bytes : ℕ) → r ≡ Ok (record { state = s'; evaluations = evals; verdicts = bytes }) → {n : ℕ} {w₀ : World} (c : Steps n w₀ (world_of s ring cells))
      → (d : Steps (suc n) w₀ (world_of s' ring' cells')) × (verdicts_of d ≡ verdicts_of c ++ verdicts) × (evaluations_of d ≡ evaluations_of c + evals)
  unfolding verdicts_of evaluations_of
  step_counts s' evals bytes e c = (then_step c verdicts evals bytes (step_finishes s' evals bytes e), refl, refl)

  pub step_keeps_all : (why : Refusal) (s' : State) → r ≡ Err (record { why = why; state = s' }) → world_of s' ring' cells' ≡ world_of s ring cells
  step_keeps_all why s' e = (answered_refused (world_of s ring cells) (step_of (world_of s ring cells) verdicts) why s' ring' cells' (rw e at ensures)).1

-- RUN

-- how a run ended; `ending` where it did not begin
abbrev run_ended : Ending → Result Ended Refused → Ending
run_ended ending (Ok e) = e.ending
run_ended ending (Err r) = ending

pub runs_ended : (w : World) (a : RunResult) (s : State) (steps evals bytes : ℕ) (ending : Ending) (ring cells : List ℕ)
    → RunsAs w a (Ok (record { state = s; steps = steps; evaluations = evals; tape = bytes; ending = ending })) ring cells → a ≡ has_run (ran_to s ring cells steps evals bytes ending)
runs_ended w (not_run why) s steps evals bytes ending ring cells h = let f = h.0 in let z : ◌≡◌ {A = ℕ} 0 1 = cc in absurd (omega arith)
runs_ended w (has_run e) s steps evals bytes ending ring cells h =
    let f = h.0 in
    rw (ap run_state f, ap run_steps f, ap run_evaluations f, ap run_tape f, ap (run_ended ending) f, h.1, h.2) refl

pub run_ends : (s : State) (ring cells tape ring' cells' : List ℕ) (budget : ℕ) (r : Result Ended Refused)
    → RunsAs (world_of s ring cells) (run_of budget (world_of s ring cells) tape) r ring' cells'
    → (s' : State) (steps evals bytes : ℕ) (ending : Ending) → r ≡ Ok (record { state = s'; steps = steps; evaluations = evals; tape = bytes; ending = ending })
    → run_of budget (world_of s ring cells) tape ≡ has_run (ran_to s' ring' cells' steps evals bytes ending)
run_ends s ring cells tape ring' cells' budget r ensures s' steps evals bytes ending e =
    runs_ended (world_of s ring cells) (run_of budget (world_of s ring cells) tape) s' steps evals bytes ending ring' cells' (rw e at ensures)

-- MOVE

moves_done : (w : World) (other : List ℕ) (t u : Bool) (left : World) (s : State) (after : List ℕ)
    → (let e = refused_unless (not_moved R.Damaged) t (refused_unless (not_moved R.Room) u (moved left)) in
    Ok s ≡ move_answer w.state e → after ≡ other_after other e → (e ≡ moved left) × (s ≡ left.state) × (after ≡ left.ring))
moves_done w other true true left s after f g = let i : s ≡ left.state = cc in (refl, i, g)
moves_done w other true false left s after f g = let z : ◌≡◌ {A = ℕ} 0 1 = cc in absurd (omega arith)
moves_done w other false u left s after f g = let z : ◌≡◌ {A = ℕ} 0 1 = cc in absurd (omega arith)

pub move_moves : (s : State) (ring cells other other' : List ℕ) (r : Result State Refused) → MovesAs s ring other r other'
    → (s' : State) → r ≡ Ok s' → MovesTo (world_of s ring cells) (world_of s' other' cells)
unfolding move_of moved_world
move_moves s ring cells other other' r ensures s' e =
    let w = world_of s ring cells in
    let (goes, state, bytes) = moves_done w other (sound_record (length ring) s) (ltb 0 (length other) && leb s.used (length other)) (moved_world w other) s' other'
    (sym e ∙ (ensures cells).0) (ensures cells).1 in
    to_ring {w = w} {w' = world_of s' other' cells} other (rw (state, bytes) goes)
