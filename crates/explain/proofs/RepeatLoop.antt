-- The loop of the repetition: each pass keeps what is left to do, with what was counted, by the run's own loop laws, and what is
-- left to note. Assumes nothing.
use mathlib.Core.Path.{◌≡◌, refl, sym, ap, ◌∙◌}
use mathlib.Core.Bool.{true, false}
use mathlib.Core.List.{List}
use Prim.Native.Nat.{ℕ, zero, suc, ◌+◌, ◌-◌, ◌≤◌, ◌<◌}
use native.Mathlib.Omega.{arith}
use native.Mathlib.Numerals.{add-one}
use lib.Dec.{leb}
use lib.ListN.{length, take, drop, length-drop}
use lib.Seq.{drop-drop}
use borrow.Author.Tests.{leb-true, leb-false, le-leb, lt-leb}
use Rattle.base.proofs.Test.{cases, cond_yes, cond_no}
use Rattle.std.specs.Prelude.{Some, None, Result, Ok, Err}
use Rattle.queue.proofs.RingLaws.{rest_all}
use Rattle.implicit.specs.declared.state.Ending.{Ending}
use Rattle.implicit.specs.declared.state.Ending.TheVariants as E
use Rattle.implicit.specs.declared.state.Finished.{Finished}
use Rattle.implicit.specs.declared.state.Refused.{Refused}
use Rattle.implicit.specs.Step.{World, world_of, StepEnd, refused, finished, tape_step_of, world_after, EndsAs}
use Rattle.implicit.specs.Record.{pixel_count, queue_empty}
use Rattle.implicit.specs.Run.{RunEnd, empty_ending, run_from}
use Rattle.implicit.specs.RunComputed.{HowFar, progress_after, progress_once, world_once}
use Rattle.implicit.proofs.RunLoop.{whole_run, LoopKept, loop_kept, run_end}
use Rattle.implicit.proofs.StepAnswered.{answered_finished, answered_refused}
use Rattle.implicit.proofs.StepLawsWent.{step_few}
use Rattle.implicit.proofs.RunLaws.{runs_plainly}
use Rattle.explain.specs.declared.noting.Notes.{Notes}
use Rattle.explain.specs.declared.repeating.Repeated.{Repeated}
use Rattle.explain.specs.NotesComputed.{no_notes}
use Rattle.explain.specs.RepeatComputed.{progress_of, BoundedBy, RepeatedTo, passed_to, repeated_step, noted_on, notes_on, notes_after, next_on, notes_next}
use Rattle.explain.specs.RepeatComputed.{repeated_after, RepeatTried, repeated_once, repeated_world, RepeatGone}

module _ (column row : ℕ) (p : Repeated) (ring cells tape : List ℕ) where
  abbrev here : World
  here = world_of p.state ring cells

  -- THE NEXT STEP, which is lent the rest of the tape
  abbrev lent : List ℕ
  lent = take (length tape - p.tape) (drop p.tape tape)

  abbrev Ends : Result Finished Refused → List ℕ → List ℕ → Type 0
  Ends a ring' cells' = EndsAs here (tape_step_of here lent) a ring' cells'

  -- where it is finished
  module _ (f : Finished) (ring' cells' : List ℕ) (ends : Ends (Ok f) ring' cells') where
    next_finished : next_on p here tape ≡ finished (world_of f.state ring' cells') f.evaluations f.verdicts
    next_finished = answered_finished here (next_on p here tape) f.state f.evaluations f.verdicts ring' cells' (rw (rest_all tape p.tape) at ends)

    -- it took few bytes and evaluations
    pub finished_few : p.tape ≤ length tape → (f.verdicts ≤ length tape - p.tape) × (f.evaluations ≤ 24)
    finished_few h =
        let few = step_few true here (drop p.tape tape) _ f.evaluations f.verdicts next_finished in
        (omega (arith, few.1, length-drop p.tape tape), few.2)

    pub tried_finished : (k : Notes) → k ≡ noted_on column row here lent (p.steps + 1) p.notes
        → (q : Repeated) → q ≡ repeated_step p f.state f.evaluations f.verdicts k → RepeatTried column row p here tape (Ok q) ring' cells'
    tried_finished k noted q e =
        let same : k ≡ notes_next column row p here tape = rw (rest_all tape p.tape) at noted in
        (rw (e, next_finished, same), rw (e, next_finished))

  -- where it is refused
  pub tried_refused : (f : Refused) (ring' cells' : List ℕ) → Ends (Err f) ring' cells'
      → RepeatTried column row p here tape (Err (E.Stop f.why)) ring' cells'
  tried_refused f ring' cells' ends =
      let (e, same) = answered_refused here (next_on p here tape) f.why f.state ring' cells' (rw (rest_all tape p.tape) at ends) in
      (rw e, rw (e, ap (λ (w : World). w.ring) same, ap (λ (w : World). w.cells) same))

  -- ONE PASS, by the tests that the code makes
  pub gone_empty : (budget : ℕ) → queue_empty p.state ≡ true → (e : Ending) → e ≡ empty_ending p.state.chosen cells
      → RepeatGone budget column row p here tape (Err e) ring cells
  unfolding repeated_once repeated_world
  gone_empty budget u e f = (rw (u, f), rw u)

  pub gone_spent : (budget : ℕ) → queue_empty p.state ≡ false → budget ≤ p.steps
      → RepeatGone budget column row p here tape (Err E.More) ring cells
  unfolding repeated_once repeated_world
  gone_spent budget u h = let k = le-leb budget p.steps h in (rw (u, k), rw (u, k))

  pub gone_step : (budget : ℕ) → queue_empty p.state ≡ false → p.steps < budget → (r : Result Repeated Ending) (ring' cells' : List ℕ)
      → RepeatTried column row p here tape r ring' cells' → RepeatGone budget column row p here tape r ring' cells'
  unfolding repeated_once repeated_world
  gone_step budget u h r ring' cells' t = let k = lt-leb budget p.steps h in (rw (u, k) t.0, rw (u, k) t.1)

-- THE RUN: the repetition goes on as a run does

module _ (budget : ℕ) (tape : List ℕ) where
  -- all of the run from a place
  abbrev whole_from : HowFar → List ℕ → List ℕ → RunEnd
  whole_from = whole_run tape_step_of run_from budget tape

  abbrev pub whole_repeat : Repeated → List ℕ → List ℕ → RunEnd
  whole_repeat p = whole_from (progress_of p None)

  -- what a pass that goes on keeps, and what falls
  pub record PassKept (p : Repeated) (ring cells : List ℕ) (q : Repeated) (ring' cells' : List ℕ) : Type 0 where
    pub bounded : BoundedBy budget tape q
    pub same_ring : length ring' ≡ length ring
    pub same_cells : length cells' ≡ length cells
    pub same_chosen : q.state.chosen ≡ p.state.chosen
    pub enough : leb (pixel_count q.state.chosen) (length cells') ≡ true
    pub same_whole : whole_repeat q ring' cells' ≡ whole_repeat p ring cells
    pub less : budget - q.steps < budget - p.steps

  module _ (column row : ℕ) (p : Repeated) (ring cells ring' cells' : List ℕ) (bounded : BoundedBy budget tape p)
      (enough : leb (pixel_count p.state.chosen) (length cells) ≡ true) where
    abbrev at : World
    at = world_of p.state ring cells

    -- the same as a run's progress
    as_run : (s : StepEnd) (k : Notes) (r : Result Repeated Ending) → r ≡ repeated_once budget p cells s k
        → progress_once budget (progress_of p None) cells s ≡ passed_to p r
    unfolding progress_once repeated_once
    as_run s k r e =
        rw e
        (cases (queue_empty p.state) (λ f. rw f) (λ f. cases (leb budget p.steps) (λ g. rw (f, g)) (λ g. rw (f, g) (tried s))))
      where
        tried : (s : StepEnd) → progress_after (progress_of p None) s ≡ passed_to p (repeated_after p s k)
        tried (refused why) = refl
        tried (finished next evals bytes) = refl

    same_world : (s : StepEnd) → repeated_world budget p at s ≡ world_once budget (progress_of p None) at s
    unfolding repeated_world world_once
    same_world s = refl

    kept : (r : Result Repeated Ending) → RepeatGone budget column row p at tape r ring' cells'
        → LoopKept whole_from budget tape (progress_of p None) ring cells (passed_to p r) ring' cells'
    kept r gone =
        loop_kept tape_step_of run_from runs_plainly budget tape (progress_of p None) ring cells refl (passed_to p r) ring' cells'
        (sym (as_run (next_on p at tape) (notes_next column row p at tape) r gone.0)) (gone.1 ∙ same_world (next_on p at tape)) bounded enough

    -- it goes on
    pub pass_kept : (q : Repeated) → RepeatGone budget column row p at tape (Ok q) ring' cells' → PassKept p ring cells q ring' cells'
    pass_kept q gone =
        let k = kept (Ok q) gone in
        record {
          bounded = k.bounded;
          same_ring = k.same_ring;
          same_cells = k.same_cells;
          same_chosen = k.same_chosen;
          enough = k.enough;
          same_whole = k.same_whole;
          less = omega (arith, k.less);
        }

    -- it ends here, as a run that makes all that is left
    pub pass_ended : (e : Ending) → RepeatGone budget column row p at tape (Err e) ring' cells'
        → (end : RunEnd) → whole_repeat p ring cells ≡ end → RepeatedTo end p e ring' cells'
    pass_ended e gone end f =
        run_end tape_step_of run_from budget (progress_of p (Some e)) ring' cells' tape end refl ((kept (Err e) gone).same_whole ∙ f)

-- WHAT IS LEFT TO NOTE

notes_empty : (column row left : ℕ) (w : World) (tape : List ℕ) (n : ℕ) (k : Notes) → queue_empty w.state ≡ true
    → notes_after column row left w tape n k ≡ k
unfolding notes_after
notes_empty column row zero w tape n k e = refl
notes_empty column row (suc left) w tape n k e = cond_yes (queue_empty w.state) _ _ e

module _ (column row budget : ℕ) (tape : List ℕ) where
  -- all notes from a place on, and from behind a pass on
  abbrev pub whole_notes : Repeated → List ℕ → List ℕ → Notes
  whole_notes p ring cells =
      notes_after column row (budget - p.steps) (world_of p.state ring cells) (drop p.tape tape) p.steps p.notes

  abbrev pub notes_passed : Repeated → Result Repeated Ending → List ℕ → List ℕ → Notes
  notes_passed p (Ok q) ring cells = whole_notes q ring cells
  notes_passed p (Err e) ring cells = p.notes

  module _ (p : Repeated) (ring cells : List ℕ) where
    abbrev now : World
    now = world_of p.state ring cells

    abbrev rest : Notes
    rest = whole_notes p ring cells

    -- what is noted behind the next step
    abbrev behind : World → ℕ → Notes
    behind next bytes =
        notes_after column row (budget - p.steps - 1) next (drop bytes (drop p.tape tape)) (suc p.steps)
        (noted_on column row now (drop p.tape tape) (suc p.steps) p.notes)

    rest_step : queue_empty p.state ≡ false → p.steps < budget → (s : StepEnd) → next_on p now tape ≡ s
        → rest ≡ notes_on p.notes s behind
    unfolding notes_after
    rest_step e h s f =
        let k : budget - p.steps ≡ suc (budget - p.steps - 1) = omega arith in
        ap (λ (n : ℕ). notes_after column row n now (drop p.tape tape) p.steps p.notes) k
        ∙ cond_no (queue_empty p.state) _ _ e
        ∙ ap (λ (t : StepEnd). notes_on p.notes t behind) f

    -- once that step was tried
    abbrev stepped : StepEnd → Result Repeated Ending
    stepped s = repeated_after p s (notes_next column row p now tape)

    after : p.steps < budget → queue_empty p.state ≡ false → (s : StepEnd) → next_on p now tape ≡ s → (ring' cells' : List ℕ)
        → world_of (passed_to p (stepped s)).state ring' cells' ≡ world_after now s → notes_passed p (stepped s) ring' cells' ≡ rest
    after h e (refused why) f ring' cells' g = sym (rest_step e h (refused why) f)
    after h e (finished next evals bytes) f ring' cells' g =
        let k : budget - (p.steps + 1) ≡ budget - p.steps - 1 = omega arith in
        let d : drop bytes (drop p.tape tape) ≡ drop (p.tape + bytes) tape = drop-drop bytes p.tape tape in
        rw (g, k, ← d, add-one p.steps) (sym (rest_step e h (finished next evals bytes) f))

    spent : budget ≤ p.steps → p.notes ≡ rest
    unfolding notes_after
    spent h =
        let z : budget - p.steps ≡ 0 = omega arith in
        sym (ap (λ (n : ℕ). notes_after column row n now (drop p.tape tape) p.steps p.notes) z)

    -- a pass leaves all notes as they were
    pub notes_kept : (r : Result Repeated Ending) (ring' cells' : List ℕ) → RepeatGone budget column row p now tape r ring' cells'
        → notes_passed p r ring' cells' ≡ rest
    unfolding repeated_once repeated_world
    notes_kept r ring' cells' gone = pass gone.0 gone.1
      where
        pass : r ≡ repeated_once budget p cells (next_on p now tape) (notes_next column row p now tape)
            → world_of (passed_to p r).state ring' cells' ≡ repeated_world budget p now (next_on p now tape) → notes_passed p r ring' cells' ≡ rest
        pass f g =
            cases (queue_empty p.state)
            (λ e. ap (λ (q : Result Repeated Ending). notes_passed p q ring' cells') (rw e at f)
            ∙ sym (notes_empty column row (budget - p.steps) now (drop p.tape tape) p.steps p.notes e))
            (λ e. cases (leb budget p.steps)
            (λ k. ap (λ (q : Result Repeated Ending). notes_passed p q ring' cells') (rw (e, k) at f) ∙ spent (leb-true budget p.steps k))
            (λ k. (let i : r ≡ stepped (next_on p now tape) = rw (e, k) at f in
            let j : world_of (passed_to p (stepped (next_on p now tape))).state ring' cells' ≡ world_after now (next_on p now tape) =
            ap (λ (q : Result Repeated Ending). world_of (passed_to p q).state ring' cells') (sym i) ∙ rw (e, k) at g in
            ap (λ (q : Result Repeated Ending). notes_passed p q ring' cells') i
            ∙ after (leb-false budget p.steps k) e (next_on p now tape) refl ring' cells' j)))

  pub notes_start : (p : Repeated) (ring cells : List ℕ) → p.steps ≡ 0 → p.tape ≡ 0 → p.notes ≡ no_notes
      → whole_notes p ring cells ≡ notes_after column row budget (world_of p.state ring cells) tape 0 no_notes
  notes_start p ring cells s t k = let z : budget - 0 ≡ budget = omega arith in rw (s, t, k, z)
