-- With room for the tiles no answer of a step or of a run on a chart from an accepted setup changes by a table; a run with a table is steps with one; and a
-- table is filled from such a chart. Assumes nothing.
use mathlib.Core.Path.{◌≡◌, refl, sym, ap, ◌∙◌, subst}
use mathlib.Core.Bool.{Bool, true, cond}
use mathlib.Core.List.{List}
use Prim.Native.Nat.{ℕ, zero, suc}
use native.Mathlib.Omega.{arith}
use lib.Dec.{leb}
use lib.ListN.{length, take, drop}
use borrow.Author.Tests.{le-leb}
use Rattle.std.specs.Prelude.{Result, Ok}
use Rattle.base.proofs.Test.{cases}
use Rattle.refusal.specs.declared.Refusal.{Refusal}
use Rattle.image.specs.Cell.{meanings}
use Rattle.image.proofs.RangeLaws.{rectangle_in_picture}
use Rattle.queue.specs.declared.Block.{Block}
use Rattle.tiles.proofs.RecountLaws.{recounted_twice}
use Rattle.decide.specs.declared.Chosen.{Chosen}
use Rattle.implicit.specs.Record.{pixel_count, sound_record, queue_empty}
use Rattle.implicit.specs.Step.{World, StepEnd, refused, finished, step_with, tape_step_of}
use Rattle.implicit.specs.Run.{RunEnd, ended_as, after_step, empty_ending, gone_on, run_from, not_run, has_run, run_of}
use Rattle.implicit.specs.View.{if_done}
use Rattle.implicit.specs.Tiled.{room_for_tiles, covered_by, none_seen, tiled_step_with, tiled_step_of, tiled_tape_step_of, table_after}
use Rattle.implicit.specs.Tiled.{tiled_run_from, table_on, table_run_from, tiled_run_of, fill_answer, table_filled}
use Rattle.implicit.proofs.CellsWhole.{whole_touched}
use Rattle.promises.specs.Tables.{TiledSteps, no_tiled_steps, then_tiled_step, then_tiled_move, EqualsRecount}
use Rattle.promises.proofs.Invariant.{Keeps}
use Rattle.promises.proofs.NeverDamaged.{pixels_fine, own_ring}
use Rattle.promises.proofs.Linked.{Reached, step_reached}
use Rattle.promises.proofs.RunSteps.{tape_step}
use Rattle.promises.proofs.TableSteps.{TouchedFine, as_plain, tiled_tape_step, table_length}

-- NO TOUCHED TILE HOLDS A DAMAGED CELL

keeps_touched : (w : World) (q : List Block) → Keeps w q → TouchedFine w
keeps_touched w q k b last head used front =
    let p = w.state.chosen in
    ap none_seen (whole_touched p (covered_by p b) w.cells (rectangle_in_picture b.x b.y p.width p.height) k.enough k.whole)

-- STEPS AND RUNS ANSWER THE SAME

module _ (p : Chosen) (room : ℕ) (enough : room_for_tiles p room ≡ true) where
  pub step_same : (w : World) → Reached p w → (tape : Bool) (vs : List ℕ) → tiled_step_with tape room w vs ≡ step_with tape w vs
  step_same w h tape vs = as_plain tape room w vs (ap (λ (c : Chosen). room_for_tiles c room) h.chosen ∙ enough) (keeps_touched w h.blocks h.keeps)

  gone_same : (left : ℕ) (w : World) → Reached p w → (tape : List ℕ) (s : StepEnd) → tape_step_of w tape ≡ s
      → ((v : World) → Reached p v → (l : List ℕ) → tiled_run_from room left v l ≡ run_from left v l)
      → gone_on w s (λ next bytes. tiled_run_from room left next (drop bytes tape)) ≡ gone_on w s (λ next bytes. run_from left next (drop bytes tape))
  gone_same left w h tape (refused why) e f = refl
  gone_same left w h tape (finished next evals bytes) e f =
      ap (after_step evals bytes) (f next (step_reached p w h (take bytes tape) next evals bytes (tape_step w tape next evals bytes e)) (drop bytes tape))

  run_from_same : (budget : ℕ) (w : World) → Reached p w → (tape : List ℕ) → tiled_run_from room budget w tape ≡ run_from budget w tape
  unfolding tiled_run_from run_from
  run_from_same zero w h tape = refl
  run_from_same (suc left) w h tape =
      ap (cond (queue_empty w.state) (ended_as w (empty_ending w.state.chosen w.cells)))
      (ap (λ (s : StepEnd). gone_on w s (λ next bytes. tiled_run_from room left next (drop bytes tape))) (step_same w h true tape)
      ∙ gone_same left w h tape (tape_step_of w tape) refl (λ v k l. run_from_same left v k l))

  pub run_same : (w : World) → Reached p w → (budget : ℕ) (tape : List ℕ) → tiled_run_of budget room w tape ≡ run_of budget w tape
  unfolding tiled_run_of run_of
  run_same w h budget tape =
      let sides : room_for_tiles w.state.chosen room ≡ true = ap (λ (c : Chosen). room_for_tiles c room) h.chosen ∙ enough in
      rw (sides, run_from_same budget w h tape)

-- A RUN WITH A TABLE is steps with one

tiled_first : {m : ℕ} {w w' w'' : World} {t t' t'' : List ℕ} (vs : List ℕ) (evals bytes : ℕ) → tiled_step_of (length t) w vs ≡ finished w' evals bytes
    → t' ≡ table_after w t (finished w' evals bytes) → TiledSteps m w' t' w'' t'' → TiledSteps (suc m) w t w'' t''
tiled_first vs evals bytes e f no_tiled_steps = then_tiled_step no_tiled_steps vs evals bytes e f
tiled_first vs evals bytes e f (then_tiled_step s us n m g h) = then_tiled_step (tiled_first vs evals bytes e f s) us n m g h
tiled_first vs evals bytes e f (then_tiled_move s m) = then_tiled_move (tiled_first vs evals bytes e f s) m

gone_tiled : (left : ℕ) (w : World) (tape t : List ℕ) (s : StepEnd) → tiled_tape_step_of (length t) w tape ≡ s
    → ((v : World) (l u : List ℕ) → length u ≡ length t
    → let r = tiled_run_from (length t) left v l in TiledSteps r.steps v u r.world (table_run_from left v l u))
    → (let e = gone_on w s (λ next bytes. tiled_run_from (length t) left next (drop bytes tape)) in
    TiledSteps e.steps w t e.world (table_on w t s (λ next bytes further. table_run_from left next (drop bytes tape) further)))
gone_tiled left w tape t (refused why) e f = no_tiled_steps
gone_tiled left w tape t (finished next evals bytes) e f =
    tiled_first (take bytes tape) evals bytes (tiled_tape_step (length t) w tape next evals bytes e) refl
    (f next (drop bytes tape) (table_after w t (finished next evals bytes)) (table_length w t (finished next evals bytes)))

run_from_tiled : (budget : ℕ) (w : World) (tape t : List ℕ) (room : ℕ) → length t ≡ room
    → (let e = tiled_run_from room budget w tape in TiledSteps e.steps w t e.world (table_run_from budget w tape t))
unfolding tiled_run_from table_run_from
run_from_tiled zero w tape t room e = cases (queue_empty w.state) (λ q. rw q no_tiled_steps) (λ q. rw q no_tiled_steps)
run_from_tiled (suc left) w tape t room e =
    cases (queue_empty w.state) (λ q. rw q no_tiled_steps)
    (λ q.
    let P : ℕ → Type 0 = λ r. (let e = tiled_run_from r (suc left) w tape in TiledSteps e.steps w t e.world (table_run_from (suc left) w tape t)) in
    subst P e (rw q (gone_tiled left w tape t (tiled_tape_step_of (length t) w tape) refl (λ v l u h. run_from_tiled left v l u (length t) h))))

tiled_has_run : (budget room : ℕ) (w : World) (tape : List ℕ) (e : RunEnd) → tiled_run_of budget room w tape ≡ has_run e → e ≡ tiled_run_from room budget w tape
unfolding tiled_run_of
tiled_has_run budget room w tape e h =
    cases (sound_record (length w.ring) w.state)
    (λ i. cases (leb (pixel_count w.state.chosen) (length w.cells))
    (λ j. cases (room_for_tiles w.state.chosen room)
    (λ k. (let g : has_run (tiled_run_from room budget w tape) ≡ has_run e = rw (i, j, k) at h in let f : tiled_run_from room budget w tape ≡ e = cc in sym f))
    (λ k. not_run_lem _ (rw (i, j, k) at h)))
    (λ j. not_run_lem _ (rw (i, j) at h)))
    (λ i. not_run_lem _ (rw i at h))
  where
    not_run_lem : (why : Refusal) → not_run why ≡ has_run e → e ≡ tiled_run_from room budget w tape
    not_run_lem why f = let z : ◌≡◌ {A = ℕ} 0 1 = cc in absurd (omega arith)

pub run_tiled : (budget : ℕ) (w : World) (tape t : List ℕ) (e : RunEnd) → tiled_run_of budget (length t) w tape ≡ has_run e
    → TiledSteps e.steps w t e.world (table_run_from budget w tape t)
run_tiled budget w tape t e h = rw (tiled_has_run budget (length t) w tape e h) (run_from_tiled budget w tape t (length t) refl)

-- A TABLE FILLED

pub filled_recount : (w : World) (t t' : List ℕ) (r : Result (Unit {0}) Refusal) → r ≡ fill_answer w.state w.cells (length t)
    → t' ≡ if_done r (table_filled w.state w.cells t) t → r ≡ Ok tt → EqualsRecount w.state.chosen w t'
unfolding EqualsRecount
filled_recount w t t' r answer e done =
    let is : t' ≡ table_filled w.state w.cells t = e ∙ ap (λ (d : Result (Unit {0}) Refusal). if_done d (table_filled w.state w.cells t) t) done in
    rw is (recounted_twice w.state.chosen.width w.state.chosen.height w.state.taken (meanings w.cells) t)

fill_done : (p : Chosen) (w : World) → Reached p w → (room : ℕ) → room_for_tiles p room ≡ true → fill_answer w.state w.cells room ≡ Ok tt
unfolding fill_answer
fill_done p w h room enough =
    let k = h.keeps in
    let sides : room_for_tiles w.state.chosen room ≡ true = ap (λ (c : Chosen). room_for_tiles c room) h.chosen ∙ enough in
    rw (
      own_ring w h.blocks k,
      le-leb (pixel_count w.state.chosen) (length w.cells) k.enough,
      sides,
      pixels_fine w.state.chosen w.cells k.enough k.whole,
    )

pub fill_reached : (p : Chosen) (w : World) → Reached p w → (t : List ℕ) → room_for_tiles p (length t) ≡ true
    → (fill_answer w.state w.cells (length t) ≡ Ok tt) × EqualsRecount p w (table_filled w.state w.cells t)
fill_reached p w h t enough =
    let done = fill_done p w h (length t) enough in
    let full : EqualsRecount w.state.chosen w (table_filled w.state w.cells t) =
    filled_recount w t (table_filled w.state w.cells t) (Ok tt) (sym done) refl refl in
    (done, subst (λ (c : Chosen). EqualsRecount c w (table_filled w.state w.cells t)) h.chosen full)
