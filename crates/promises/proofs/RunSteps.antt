-- A run's steps are steps: what it leaves is what its finished steps leave; where it stops, a step on what it leaves refuses; and else they are as
-- many as were asked for, or the queue is empty. Assumes nothing.
use mathlib.Core.Path.{◌≡◌, refl, sym, ap, ◌∙◌}
use mathlib.Core.Logic.{◌⊎◌, inl, inr}
use mathlib.Core.Bool.{Bool, true, false, cond}
use mathlib.Core.List.{List, ◌++◌, append-nil, append_assoc}
use Prim.Native.Nat.{ℕ, zero, suc, ◌+◌, ◌≤◌, ◌<◌}
use native.Mathlib.Omega.{arith}
use lib.Dec.{leb}
use lib.ListN.{length, take, drop, length-drop}
use lib.Seq.{take_all, take-add, drop-drop, length-take-le}
use borrow.Author.Tests.{leb-true, le-leb, eq-eqb}
use Rattle.base.proofs.Test.{cases, by_test}
use Rattle.refusal.specs.declared.Refusal.{Refusal}
use Rattle.image.specs.Cell.{is_given_up}
use Rattle.image.specs.Painting.{some_of}
use Rattle.decide.specs.Children.{children_of}
use Rattle.implicit.specs.declared.state.Ending.TheVariants as E
use Rattle.implicit.specs.Record.{pixel_count, pixel_cells, sound_record, queue_empty}
use Rattle.implicit.specs.Step.{World, StepEnd, refused, finished, unless, enough_verdicts, judged, after_taking, step_with, step_of, tape_step_of}
use Rattle.implicit.specs.Run.{RunEnd, ended_as, not_run, has_run, gone_on, empty_ending, run_from, run_of}
use Rattle.implicit.proofs.StepLawsWent.{Went, went, step_few}
use Rattle.implicit.proofs.RunLaws.{Finished, none, then, run_finished}
use Rattle.promises.specs.Steps.{Steps, no_steps, then_step, then_move, NoMove, verdicts_of, evaluations_of}

-- CHAINS

-- steps before steps, with the verdicts, the evaluations and the moves of both
follow : {n m : ℕ} {w w' w'' : World} (k : ℕ) → k ≡ n + m → (r : Steps n w w') (r' : Steps m w' w'')
    → (s : Steps k w w'') × (verdicts_of s ≡ verdicts_of r ++ verdicts_of r') × (evaluations_of s ≡ evaluations_of r + evaluations_of r')
    × (NoMove r → NoMove r' → NoMove s)
unfolding verdicts_of evaluations_of NoMove
follow {n} k h r no_steps = let f : k ≡ n = omega arith in rw f (r, sym (append-nil (verdicts_of r)), omega arith, (λ a b. a))
follow {n} k h r (then_step {n = m} r' vs evals bytes e) =
    let f : k ≡ suc (n + m) = omega arith in
    let (s, v, c, alone) = follow (n + m) refl r r' in
    rw f (then_step s vs evals bytes e, ap (λ (l : List ℕ). l ++ vs) v ∙ append_assoc (verdicts_of r) (verdicts_of r') vs, omega (arith, c), alone)
follow k h r (then_move r' m) = let (s, v, c, alone) = follow k h r r' in (then_move s m, v, c, (λ a b. absurd b))

pub steps_follow : {n m : ℕ} {w w' w'' : World} (k : ℕ) → k ≡ n + m → (r : Steps n w w') (r' : Steps m w' w'')
    → (s : Steps k w w'') × (verdicts_of s ≡ verdicts_of r ++ verdicts_of r') × (evaluations_of s ≡ evaluations_of r + evaluations_of r')
steps_follow k h r r' = let (s, v, c, alone) = follow k h r r' in (s, v, c)

-- A STEP ON A TAPE is a step on the verdicts that it takes

module _ (tape : Bool) (w : World) (vs : List ℕ) (left : World) (evals bytes : ℕ) (g : Went tape w vs left evals bytes) where
  -- what a step comes to once the block is taken, with enough verdicts
  judged_alike : (tape' : Bool) (vs' : List ℕ) → enough_verdicts tape' (length (children_of w.state.chosen g.block)) (length vs') ≡ true
      → step_with tape' w vs' ≡ judged w g.block g.last g.head g.used (take (length (children_of w.state.chosen g.block)) vs')
  unfolding step_with after_taking unless
  judged_alike tape' vs' e =
      let enough = le-leb (pixel_count w.state.chosen) (length w.cells) g.cells_enough in
      rw (g.record_is_sound, enough, g.not_empty, g.front_read, g.undamaged_block, e)

pub tape_step : (w : World) (tape : List ℕ) (left : World) (evals bytes : ℕ) → tape_step_of w tape ≡ finished left evals bytes
    → step_of w (take bytes tape) ≡ finished left evals bytes
tape_step w tape left evals bytes e =
    let g = went true w tape left evals bytes e in
    let n = length (children_of w.state.chosen g.block) in
    let long : n ≤ length tape = leb-true n (length tape) g.enough in
    let short : length (take n tape) ≡ n = length-take-le n tape long in
    let same : take n (take n tape) ≡ take n tape = take_all n (take n tape) (omega arith) in
    ap (λ (m : ℕ). step_of w (take m tape)) g.bytes_are
    ∙ judged_alike true w tape left evals bytes g false (take n tape) (eq-eqb (length (take n tape)) n short)
    ∙ ap (judged w g.block g.last g.head g.used) same
    ∙ sym (judged_alike true w tape left evals bytes g true tape g.enough)
    ∙ e

-- steps that took the tape's first bytes
record Took (w : World) (tape : List ℕ) (steps evals bytes : ℕ) (left : World) : Type 0 where
  all : Steps steps w left
  verdicts : verdicts_of all ≡ take bytes tape
  cost : evaluations_of all ≡ evals
  within : bytes ≤ length tape
  alone : NoMove all

finished_steps : {w left : World} {tape : List ℕ} {steps evals bytes : ℕ} → Finished w tape steps evals bytes left
    → Took w tape steps evals bytes left
unfolding verdicts_of evaluations_of NoMove
finished_steps none = record { all = no_steps; verdicts = refl; cost = refl; within = omega arith; alone = tt }
finished_steps (then {w = w} {next = next} {tape = tape} {evals = evals} {bytes = bytes} {steps = steps} {bytes' = bytes'} e f) =
    let t = finished_steps f in
    let one : Steps 1 w next = then_step no_steps (take bytes tape) evals bytes (tape_step w tape next evals bytes e) in
    let (s, v, c, alone) = follow (suc steps) (omega arith) one t.all in
    record {
      all = s;
      verdicts = v ∙ ap (λ (l : List ℕ). take bytes tape ++ l) t.verdicts ∙ sym (take-add bytes bytes' tape);
      cost = omega (arith, c, t.cost);
      within = omega (arith, (step_few true w tape next evals bytes e).1, t.within, length-drop bytes tape);
      alone = alone tt t.alone;
    }

-- THE RUN

-- a run's end is what steps under the tape's first bytes leave, with no move among them
abbrev pub EndsBySteps : World → List ℕ → RunEnd → Type 0
EndsBySteps w tape e =
    (r : Steps e.steps w e.world) × (verdicts_of r ≡ take e.tape tape) × (length (verdicts_of r) ≡ e.tape)
    × (evaluations_of r ≡ e.evaluations) × NoMove r

run_from_steps : (budget : ℕ) (w : World) (tape : List ℕ) → EndsBySteps w tape (run_from budget w tape)
run_from_steps budget w tape =
    let t = finished_steps (run_finished budget w tape) in
    (t.all, t.verdicts, ap length t.verdicts ∙ length-take-le (run_from budget w tape).tape tape t.within, t.cost, t.alone)

pub has_run_lem : (budget : ℕ) (w : World) (tape : List ℕ) (e : RunEnd) → run_of budget w tape ≡ has_run e → e ≡ run_from budget w tape
unfolding run_of
has_run_lem budget w tape e h =
    cases (sound_record (length w.ring) w.state)
    (λ i. cases (leb (pixel_count w.state.chosen) (length w.cells))
    (λ j. (let k : has_run (run_from budget w tape) ≡ has_run e = rw (i, j) at h in let f : run_from budget w tape ≡ e = cc in sym f))
    (λ j. not_run_lem _ (rw (i, j) at h)))
    (λ i. not_run_lem _ (rw i at h))
  where
    not_run_lem : (why : Refusal) → not_run why ≡ has_run e → e ≡ run_from budget w tape
    not_run_lem why f = let z : ◌≡◌ {A = ℕ} 0 1 = cc in absurd (omega arith)

pub run_steps : (budget : ℕ) (w : World) (tape : List ℕ) (e : RunEnd) → run_of budget w tape ≡ has_run e → EndsBySteps w tape e
run_steps budget w tape e h = rw (has_run_lem budget w tape e h) (run_from_steps budget w tape)

-- where it stops, a step on the rest of the tape refuses
abbrev pub StopsBy : Refusal → List ℕ → RunEnd → Type 0
StopsBy why tape e = e.ending ≡ E.Stop why → tape_step_of e.world (drop e.tape tape) ≡ refused why

pub empty_stops : (why : Refusal) (t : Bool) {P : Type 0} → cond t E.Limit E.Done ≡ E.Stop why → P
empty_stops why true e = let z : ◌≡◌ {A = ℕ} 0 1 = cc in absurd (omega arith)
empty_stops why false e = let z : ◌≡◌ {A = ℕ} 0 1 = cc in absurd (omega arith)

pub more_stops : (why : Refusal) {P : Type 0} → E.More ≡ E.Stop why → P
more_stops why e = let z : ◌≡◌ {A = ℕ} 0 1 = cc in absurd (omega arith)

gone_stops : (why : Refusal) (left : ℕ) (w : World) (tape : List ℕ) (s : StepEnd) → tape_step_of w tape ≡ s
    → ((v : World) (n : ℕ) → StopsBy why (drop n tape) (run_from left v (drop n tape)))
    → StopsBy why tape (gone_on w s (λ next bytes. run_from left next (drop bytes tape)))
gone_stops why left w tape (refused reason) e ih f = let g : reason ≡ why = cc in e ∙ ap refused g
gone_stops why left w tape (finished next evals bytes) e ih f =
    let r = run_from left next (drop bytes tape) in
    ap (tape_step_of r.world) (sym (drop-drop r.tape bytes tape)) ∙ ih next bytes f

pub stops : (why : Refusal) (budget : ℕ) (w : World) (tape : List ℕ) → StopsBy why tape (run_from budget w tape)
unfolding run_from
stops why zero w tape =
    by_test (StopsBy why tape) (queue_empty w.state) (ended_as w (empty_ending w.state.chosen w.cells)) (ended_as w E.More)
    (λ e f. empty_stops why (some_of is_given_up (pixel_cells w.state.chosen w.cells)) f) (λ e f. more_stops why f)
stops why (suc left) w tape =
    by_test (StopsBy why tape) (queue_empty w.state) (ended_as w (empty_ending w.state.chosen w.cells))
    (gone_on w (tape_step_of w tape) (λ next bytes. run_from left next (drop bytes tape)))
    (λ e f. empty_stops why (some_of is_given_up (pixel_cells w.state.chosen w.cells)) f)
    (λ e. gone_stops why left w tape (tape_step_of w tape) refl (λ v n. stops why left v (drop n tape)))

pub run_stops : (budget : ℕ) (w : World) (tape : List ℕ) (e : RunEnd) (why : Refusal) → run_of budget w tape ≡ has_run e → e.ending ≡ E.Stop why
    → (rest : List ℕ) × (tape_step_of e.world rest ≡ refused why)
run_stops budget w tape e why h =
    rw (has_run_lem budget w tape e h) (λ f. (drop (run_from budget w tape).tape tape, stops why budget w tape f))

-- where none refuses, it makes all the steps of its budget, unless the queue empties sooner
abbrev pub EndsAsked : ℕ → RunEnd → Type 0
EndsAsked budget e =
    ((why : Refusal) → ¬ (e.ending ≡ E.Stop why))
    → (e.steps ≡ budget) ⊎ ((e.steps < budget) × (queue_empty e.world.state ≡ true))

gone_asked : (left : ℕ) (w : World) (tape : List ℕ) (s : StepEnd) → ((v : World) (n : ℕ) → EndsAsked left (run_from left v (drop n tape)))
    → EndsAsked (suc left) (gone_on w s (λ next bytes. run_from left next (drop bytes tape)))
gone_asked left w tape (refused why) ih k = absurd (k why refl)
gone_asked left w tape (finished next evals bytes) ih k = one_more (ih next bytes k)
  where
    one_more : {n : ℕ} {P : Type 0} → (n ≡ left) ⊎ ((n < left) × P) → (suc n ≡ suc left) ⊎ ((suc n < suc left) × P)
    one_more (inl e) = inl (ap suc e)
    one_more (inr (l, x)) = inr (omega (arith, l), x)

pub ends_asked : (budget : ℕ) (w : World) (tape : List ℕ) → EndsAsked budget (run_from budget w tape)
unfolding run_from
ends_asked zero w tape =
    by_test (EndsAsked zero) (queue_empty w.state) (ended_as w (empty_ending w.state.chosen w.cells)) (ended_as w E.More)
    (λ e k. inl refl) (λ e k. inl refl)
ends_asked (suc left) w tape =
    by_test (EndsAsked (suc left)) (queue_empty w.state) (ended_as w (empty_ending w.state.chosen w.cells))
    (gone_on w (tape_step_of w tape) (λ next bytes. run_from left next (drop bytes tape)))
    (λ e k. inr (omega arith, e)) (λ e. gone_asked left w tape (tape_step_of w tape) (λ v n. ends_asked left v (drop n tape)))
