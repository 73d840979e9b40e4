-- Tape bytes are the tape's position: a run that has spent its budget, and the run that goes on behind the bytes that it took, are one run.
-- Assumes nothing.
use mathlib.Core.Path.{◌≡◌, sym, ap, ◌∙◌}
use mathlib.Core.List.{List}
use Prim.Native.Nat.{ℕ, zero, suc, ◌+◌}
use native.Mathlib.Omega.{arith}
use lib.ListN.{drop}
use lib.Seq.{drop-drop}
use Rattle.base.proofs.Test.{cases}
use Rattle.image.specs.Cell.{is_given_up}
use Rattle.image.specs.Painting.{some_of}
use Rattle.implicit.specs.declared.state.Ending.{Ending}
use Rattle.implicit.specs.declared.state.Ending.TheVariants as E
use Rattle.implicit.specs.Record.{pixel_cells, queue_empty}
use Rattle.implicit.specs.Step.{World, StepEnd, refused, finished, tape_step_of}
use Rattle.implicit.specs.Run.{RunEnd, ended_as, after_step, empty_ending, gone_on, run_from}

-- one run and then another
abbrev pub joined : RunEnd → RunEnd → RunEnd
joined r q = record {
  world = q.world;
  steps = r.steps + q.steps;
  evaluations = r.evaluations + q.evaluations;
  tape = r.tape + q.tape;
  ending = q.ending;
}

-- the run of b steps more, from where r ended
abbrev pub resumed : ℕ → RunEnd → List ℕ → RunEnd
resumed b r tape = run_from b r.world (drop r.tape tape)

joined_none : (w : World) (e : Ending) (q : RunEnd) → joined (ended_as w e) q ≡ q
joined_none w e q =
    let a : 0 + q.steps ≡ q.steps = omega arith in
    let b : 0 + q.evaluations ≡ q.evaluations = omega arith in
    let c : 0 + q.tape ≡ q.tape = omega arith in
    rw (a, b, c)

joined_step : (evals bytes : ℕ) (r q : RunEnd) → joined (after_step evals bytes r) q ≡ after_step evals bytes (joined r q)
joined_step evals bytes r q =
    let a : suc r.steps + q.steps ≡ suc (r.steps + q.steps) = omega arith in
    let b : evals + r.evaluations + q.evaluations ≡ evals + (r.evaluations + q.evaluations) = omega arith in
    let c : bytes + r.tape + q.tape ≡ bytes + (r.tape + q.tape) = omega arith in
    rw (a, b, c)

-- a run whose queue is empty has not ended for its budget
limit_not_more : {X : Type 0} → E.Limit ≡ E.More → X
limit_not_more h = let z : ◌≡◌ {A = ℕ} 0 1 = cc in absurd (omega arith)

done_not_more : {X : Type 0} → E.Done ≡ E.More → X
done_not_more h = let z : ◌≡◌ {A = ℕ} 0 1 = cc in absurd (omega arith)

not_more : (w : World) {X : Type 0} → empty_ending w.state.chosen w.cells ≡ E.More → X
not_more w e = cases (some_of is_given_up (pixel_cells w.state.chosen w.cells)) (λ t. limit_not_more (rw t at e)) (λ t. done_not_more (rw t at e))

gone_resumed : (a b : ℕ) (w : World) (tape : List ℕ) (s : StepEnd)
    → ((v : World) (n : ℕ) → let r = run_from a v (drop n tape) in r.ending ≡ E.More → run_from (a + b) v (drop n tape) ≡ joined r (resumed b r (drop n tape)))
    → (let r = gone_on w s (λ next bytes. run_from a next (drop bytes tape)) in
    r.ending ≡ E.More → gone_on w s (λ next bytes. run_from (a + b) next (drop bytes tape)) ≡ joined r (resumed b r tape))
gone_resumed a b w tape (refused why) f e = let z : ◌≡◌ {A = ℕ} 0 1 = cc in absurd (omega arith)
gone_resumed a b w tape (finished next evals bytes) f e =
    let r = run_from a next (drop bytes tape) in
    let d : drop r.tape (drop bytes tape) ≡ drop (bytes + r.tape) tape = drop-drop r.tape bytes tape in
    ap (after_step evals bytes) (f next bytes e ∙ ap (λ (l : List ℕ). joined r (run_from b r.world l)) d)
    ∙ sym (joined_step evals bytes r (run_from b r.world (drop (bytes + r.tape) tape)))

-- a run of a + b steps is one of a, if that ended for its budget, and one of b on what it left, from the tape's position on
pub run_resumed : (a b : ℕ) (w : World) (tape : List ℕ) → (run_from a w tape).ending ≡ E.More
    → run_from (a + b) w tape ≡ joined (run_from a w tape) (resumed b (run_from a w tape) tape)
unfolding run_from
run_resumed zero b w tape e =
    let z : 0 + b ≡ b = omega arith in
    cases (queue_empty w.state) (λ t. not_more w (rw t at e)) (λ t. rw (z, t) (sym (joined_none w E.More (run_from b w tape))))
run_resumed (suc a) b w tape e =
    let z : suc a + b ≡ suc (a + b) = omega arith in
    cases (queue_empty w.state) (λ t. not_more w (rw t at e))
    (λ t. rw (z, t) (gone_resumed a b w tape (tape_step_of w tape) (λ v n. run_resumed a b v (drop n tape)) (rw t at e)))
