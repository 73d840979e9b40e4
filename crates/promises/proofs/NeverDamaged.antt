-- No call on a world of which the invariant holds is refused by 8; and which refusals are left to a step by its verdicts. Assumes nothing.
use mathlib.Core.Path.{◌≡◌, refl, ap, ◌∙◌}
use mathlib.Core.Logic.{◌⊎◌, inl, inr}
use mathlib.Core.Bool.{Bool, true, false, cond, not, ◌&&◌}
use mathlib.Core.List.{List, [], ◌∷◌}
use Prim.Native.Nat.{ℕ, ◌+◌, ◌^◌, ◌≤◌, ◌<◌}
use native.Mathlib.Omega.{arith}
use lib.Dec.{leb, ltb}
use lib.ListN.{length, take}
use lib.ListN as L
use lib.Seq.{take_all}
use borrow.Author.Tests.{le-leb, lt-ltb, le-ltb, eq-eqb, ne_eqb}
use Rattle.std.specs.Prelude.{Ok, Err}
use Rattle.refusal.specs.declared.Refusal.{Refusal}
use Rattle.refusal.specs.declared.Refusal.TheVariants as R
use Rattle.refusal.specs.Number.{number}
use Rattle.image.specs.Cell.{meaning_of, meanings, is_damaged}
use Rattle.image.specs.Painting.{some_of}
use Rattle.image.proofs.BlockLaws.{whole_every}
use Rattle.queue.specs.declared.Block.{Block}
use Rattle.queue.specs.Block.{remembered}
use Rattle.decide.specs.declared.Chosen.{Chosen}
use Rattle.decide.specs.Children.{children_of}
use Rattle.implicit.specs.declared.state.State.{State}
use Rattle.implicit.specs.declared.state.Ending.{Ending}
use Rattle.implicit.specs.declared.state.Ending.TheVariants as E
use Rattle.implicit.specs.Record.{refused_unless, pixel_count, pixel_cells, sound_record}
use Rattle.implicit.specs.Listing.{listed_block, children_listed}
use Rattle.implicit.specs.Step.{World, StepEnd, finished, unless, new_blocks, new_bytes, judged, step_with, step_of, step_answer}
use Rattle.implicit.specs.Run.{RunEnd, RunResult, not_run, has_run, run_of, run_answer}
use Rattle.implicit.specs.Move.{moved_world, not_moved, moved, move_of}
use Rattle.implicit.specs.View.{picture_answer, counts_of, counts_answer}
use Rattle.implicit.specs.Answers.{step_number, stop_number, run_number, run_stop, children_number, call_number, counts_number}
use Rattle.implicit.proofs.RecordLaws.{sound_record_lem}
use Rattle.implicit.proofs.StepLawsWent.{goes}
use Rattle.promises.specs.Chart.{queued_blocks}
use Rattle.promises.specs.Steps.{LegalVerdicts, WrongCount, SomeIllegal, Suffices, NeverEight}
use Rattle.promises.proofs.CellsKept.{PixelsWhole}
use Rattle.promises.proofs.Invariant.{Keeps, keeps_queue, not_damaged, head', used', front_is, fine, step_passes, step_empty}
use Rattle.promises.proofs.Linked.{Reached, steps_reached}
use Rattle.promises.proofs.RunSteps.{run_steps, run_stops}

-- A STEP

-- the number of a step's end, where it is not that of this refusal, is that of what follows
pub not_by : (s : State) (k : ℕ) (why : Refusal) (t : Bool) (rest : StepEnd) → ¬ (number why ≡ k) → ¬ (step_number (step_answer s rest) ≡ k)
    → ¬ (step_number (step_answer s (unless why t rest)) ≡ k)
unfolding unless
not_by s k why true rest n m = m
not_by s k why false rest n m = n

step_not_eight : (tape : Bool) (w : World) (q : List Block) → Keeps w q → (vs : List ℕ) → ¬ (step_number (step_answer w.state (step_with tape w vs)) ≡ 8)
unfolding judged
step_not_eight tape w [] k vs e = let f = rw (step_empty w k tape vs) at e in omega (arith, f)
step_not_eight tape w (c ∷ rest) k vs e =
    not_by w.state 8 R.Verdicts _ _ (λ f. omega arith)
    (not_by w.state 8 R.Verdict _ _ (λ f. omega arith)
    (not_by w.state 8 R.Numbers _ _ (λ f. omega arith)
    (not_by w.state 8 R.Room _ _ (λ f. omega arith) (λ f. omega arith))))
    (rw (step_passes w c rest k tape vs) at e)

-- 6, 7, or 13 with nothing queued
abbrev SixSevenThirteen : List Block → ℕ → Type 0
SixSevenThirteen q k = (k ≡ 6) ⊎ (k ≡ 7) ⊎ ((k ≡ 13) × (q ≡ []))

-- what is left once the verdicts are right
numbers_or_room : (state : State) (q : List Block) (s t : Bool) (w : World) (evals bytes : ℕ)
    → (let k = step_number (step_answer state (unless R.Numbers s (unless R.Room t (finished w evals bytes)))) in (k ≡ 0) ⊎ SixSevenThirteen q k)
unfolding unless
numbers_or_room state q true true w evals bytes = inl refl
numbers_or_room state q true false w evals bytes = inr (inl refl)
numbers_or_room state q false t w evals bytes = inr (inr (inl refl))

right_refused : (w : World) (q : List Block) → Keeps w q → (vs : List ℕ) → LegalVerdicts w vs q
    → (let k = step_number (step_answer w.state (step_of w vs)) in (k ≡ 0) ⊎ SixSevenThirteen q k)
unfolding LegalVerdicts judged unless
right_refused w [] k vs r = rw (step_empty w k false vs) (inr (inr (inr (refl, refl))))
right_refused w (c ∷ rest) k vs r =
    let cs = children_of w.state.chosen c in
    let own : take (length cs) vs ≡ vs = take_all (length cs) vs (omega (arith, r.0)) in
    rw (step_passes w c rest k false vs, eq-eqb (length vs) (length cs) r.0, own, r.1)
    (numbers_or_room w.state (c ∷ rest) (leb (w.state.queued + length (new_blocks w c vs)) (2 ^ 32)) (leb (used' w c rest k + length (new_bytes w c vs)) (length w.ring)) _ _ _)

-- verdicts that are not right
wrong_refused : (w : World) (q : List Block) → Keeps w q → (vs : List ℕ) → WrongCount w vs q → step_number (step_answer w.state (step_of w vs)) ≡ 4
unfolding WrongCount unless
wrong_refused w [] k vs r = absurd r
wrong_refused w (c ∷ rest) k vs r = rw (step_passes w c rest k false vs, ne_eqb (length vs) (length (children_of w.state.chosen c)) r)

illegal_refused : (w : World) (q : List Block) → Keeps w q → (vs : List ℕ) → SomeIllegal w vs q → step_number (step_answer w.state (step_of w vs)) ≡ 5
unfolding SomeIllegal judged unless
illegal_refused w [] k vs r = absurd r
illegal_refused w (c ∷ rest) k vs r =
    let cs = children_of w.state.chosen c in
    let own : take (length cs) vs ≡ vs = take_all (length cs) vs (omega (arith, r.0)) in
    rw (step_passes w c rest k false vs, eq-eqb (length vs) (length cs) r.0, own, r.1)

-- and it is finished where numbers and room suffice
suffices_goes : (w : World) (q : List Block) → Keeps w q → (vs : List ℕ) → LegalVerdicts w vs q → Suffices w vs q
    → (left : World) × (evals : ℕ) × (bytes : ℕ) × (step_of w vs ≡ finished left evals bytes)
unfolding LegalVerdicts Suffices
suffices_goes w [] k vs r s = absurd s
suffices_goes w (c ∷ rest) k vs r s =
    let cs = children_of w.state.chosen c in
    let own : take (length cs) vs ≡ vs = take_all (length cs) vs (omega (arith, r.0)) in
    let n : w.state.taken < w.state.queued = omega (arith, k.count) in (
      _,
      _,
      _,
      goes false w vs c (remembered c) (head' w c rest k) (used' w c rest k) k.record_is_sound k.enough (lt-ltb w.state.taken w.state.queued n)
          (front_is w c rest k) (fine w c rest k) (eq-eqb (length vs) (length cs) r.0) (rw own r.1) (rw own s.0) (rw own s.1),
    )

-- THE OTHER CALLS

-- all cells of the pixels are undamaged
pub pixels_fine : (p : Chosen) (cells : List ℕ) → pixel_count p ≤ length cells → PixelsWhole p (meanings cells) → some_of is_damaged (pixel_cells p cells) ≡ false
pixels_fine p cells h k =
    not_damaged is_damaged (pixel_cells p cells)
    ((whole_every p.width p.height (meanings cells) (rw (L.length-map cells meaning_of) h) (λ c. not (is_damaged c))).1 (λ x y i j. ap not (k x y i j)))

module _ (w : World) (q : List Block) (k : Keeps w q) where
  pub own_ring : sound_record w.state.len w.state ≡ true
  own_ring = ap (λ (n : ℕ). sound_record n w.state) (sound_record_lem (length w.ring) w.state k.record_is_sound).ring ∙ k.record_is_sound

  enough_test : leb (pixel_count w.state.chosen) (length w.cells) ≡ true
  enough_test = le-leb (pixel_count w.state.chosen) (length w.cells) k.enough

  -- with room it is drawn
  pub picture_drawn : (room : ℕ) → pixel_count w.state.chosen ≤ room → picture_answer w.state w.cells room ≡ Ok tt
  unfolding picture_answer
  picture_drawn room h =
      rw (own_ring, enough_test, le-leb (pixel_count w.state.chosen) room h, pixels_fine w.state.chosen w.cells k.enough k.whole)

  picture_not_eight : (room : ℕ) → ¬ (call_number (picture_answer w.state w.cells room) ≡ 8)
  unfolding picture_answer
  picture_not_eight room e = go (leb (pixel_count w.state.chosen) room) (rw (own_ring, enough_test, pixels_fine w.state.chosen w.cells k.enough k.whole) at e)
    where
      go : (t : Bool) → ¬ (call_number (cond t (Ok tt) (Err R.Picture)) ≡ 8)
      go true f = omega arith
      go false f = omega arith

  -- the pixels are counted
  pub counts_answered : counts_answer w.state w.cells ≡ Ok (counts_of w.state w.cells)
  unfolding counts_answer
  counts_answered = rw (own_ring, enough_test, pixels_fine w.state.chosen w.cells k.enough k.whole)

  counts_not_eight : ¬ (counts_number (counts_answer w.state w.cells) ≡ 8)
  counts_not_eight e = let f = rw counts_answered at e in omega (arith, f)

  run_not_eight : (budget : ℕ) (tape : List ℕ) → ¬ (run_number (run_answer w.state (run_of budget w tape)) ≡ 8)
  unfolding run_of
  run_not_eight budget tape e = let f = rw (k.record_is_sound, enough_test) at e in omega (arith, f)

children_not_eight : (w : World) (q : List Block) → Keeps w q → ¬ (children_number (children_listed w.state w.ring) ≡ 8)
unfolding children_listed listed_block
children_not_eight w [] k e =
    let f = rw (k.record_is_sound, le-ltb w.state.taken w.state.queued (omega (arith, k.count))) at e in
    omega (arith, f)
children_not_eight w (c ∷ rest) k e =
    let n : w.state.taken < w.state.queued = omega (arith, k.count) in
    let f = rw (k.record_is_sound, lt-ltb w.state.taken w.state.queued n, front_is w c rest k, k.undamaged_all.0) at e in
    omega (arith, f)

move_not_eight : (w : World) (q : List Block) → Keeps w q → (ring : List ℕ) (why : Refusal) → move_of w ring ≡ not_moved why → ¬ (number why ≡ 8)
unfolding move_of
move_not_eight w q k ring why e n = go (ltb 0 (length ring) && leb w.state.used (length ring)) (rw k.record_is_sound at e)
  where
    go : (t : Bool) → refused_unless (not_moved R.Room) t (moved (moved_world w ring)) ≡ not_moved why → ⊥
    go true f = let z : ◌≡◌ {A = ℕ} 0 1 = cc in omega arith
    go false f = let g : R.Room ≡ why = cc in let m : 6 ≡ number why = ap number g in omega (arith, m, n)

-- what stops a run is a step on what the steps before it left
stop_not_eight : (p : Chosen) (w : World) → Reached p w → (budget : ℕ) (tape : List ℕ) → ¬ (run_stop (run_answer w.state (run_of budget w tape)) ≡ 8)
stop_not_eight p w h budget tape = ran (run_of budget w tape) refl
  where
    ended : (e : RunEnd) → run_of budget w tape ≡ has_run e → (g : Ending) → e.ending ≡ g → ¬ (stop_number g ≡ 8)
    ended e r E.Done s n = omega arith
    ended e r E.Limit s n = omega arith
    ended e r E.More s n = omega arith
    ended e r (E.Stop why) s n =
        let k = steps_reached p h (run_steps budget w tape e r).0 in
        let (rest, f) = run_stops budget w tape e why r s in
        step_not_eight true e.world k.blocks k.keeps rest (ap (λ (x : StepEnd). step_number (step_answer e.world.state x)) f ∙ n)

    ran : (a : RunResult) → run_of budget w tape ≡ a → ¬ (run_stop (run_answer w.state a) ≡ 8)
    ran (not_run why) r n = omega arith
    ran (has_run e) r n = ended e r e.ending refl n

-- NO CALL

pub never_eight : (p : Chosen) (w : World) → Reached p w → NeverEight w
never_eight p w h =
    let k = h.keeps in
    record {
      step = step_not_eight false w h.blocks k;
      run = run_not_eight w h.blocks k;
      step_in_run = stop_not_eight p w h;
      children = children_not_eight w h.blocks k;
      picture = picture_not_eight w h.blocks k;
      counts = counts_not_eight w h.blocks k;
      move = move_not_eight w h.blocks k;
    }

module _ (p : Chosen) (w : World) (h : Reached p w) (vs : List ℕ) where
  abbrev is : queued_blocks w ≡ h.blocks
  is = keeps_queue w h.blocks h.keeps

  pub wrong_only : WrongCount w vs (queued_blocks w) → step_number (step_answer w.state (step_of w vs)) ≡ 4
  wrong_only r = wrong_refused w h.blocks h.keeps vs (rw is at r)

  pub illegal_only : SomeIllegal w vs (queued_blocks w) → step_number (step_answer w.state (step_of w vs)) ≡ 5
  illegal_only r = illegal_refused w h.blocks h.keeps vs (rw is at r)

  pub right_only : LegalVerdicts w vs (queued_blocks w)
      → (let k = step_number (step_answer w.state (step_of w vs)) in (k ≡ 0) ⊎ (k ≡ 6) ⊎ (k ≡ 7) ⊎ ((k ≡ 13) × (queued_blocks w ≡ [])))
  right_only r = rw is (right_refused w h.blocks h.keeps vs (rw is at r))

  pub goes_on : LegalVerdicts w vs (queued_blocks w) → Suffices w vs (queued_blocks w)
      → (left : World) × (evals : ℕ) × (bytes : ℕ) × (step_of w vs ≡ finished left evals bytes)
  goes_on r s = suffices_goes w h.blocks h.keeps vs (rw is at r) (rw is at s)
