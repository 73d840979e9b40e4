-- The same chart on two rings: a step ends alike on both, unless a ring is full, and a move to another ring leaves the same chart. So charts that were begun
-- alike and given the same verdicts are the same, whatever moves were made. Assumes nothing.
use mathlib.Core.Path.{◌≡◌, refl, sym, ap, ap₂, ◌∙◌, subst}
use mathlib.Core.Bool.{Bool, true, false}
use mathlib.Core.List.{List, [], ◌∷◌}
use Prim.Native.Nat.{ℕ, ◌+◌, ◌-◌, ◌^◌, ◌≤◌}
use native.Mathlib.Omega.{arith}
use lib.Dec.{leb}
use lib.ListN.{length, take}
use borrow.Author.Tests.{leb-true}
use Rattle.refusal.specs.declared.Refusal.{Refusal}
use Rattle.refusal.specs.declared.Refusal.TheVariants as R
use Rattle.queue.specs.declared.Block.{Block}
use Rattle.queue.specs.Block.{remembered}
use Rattle.queue.specs.Ring.{content}
use Rattle.queue.specs.Queue.{queue_codes, queue_of}
use Rattle.decide.specs.declared.Chosen.{Chosen}
use Rattle.decide.specs.Children.{children_of}
use Rattle.decide.specs.Verdict.{all_legal}
use Rattle.plan.specs.Plan.{evaluations}
use Rattle.implicit.specs.declared.state.State.{State}
use Rattle.implicit.specs.Setup.{first_blocks, start_record}
use Rattle.implicit.specs.Step.{World, StepEnd, finished, unless, enough_verdicts, outcomes_of, new_blocks, new_bytes, world_left, judged, step_with, step_of}
use Rattle.implicit.specs.Move.{moved_record, moved_world}
use Rattle.promises.specs.Chart.{queued_blocks}
use Rattle.promises.specs.Steps.{Asked, BegunAs, MovesTo, to_ring, Steps, no_steps, then_step, then_move}
use Rattle.promises.specs.Alike.{SameButRing, EndsAlike, verdicts_by_step, on_ring, RingsAlike, StepsAlike}
use Rattle.promises.proofs.Invariant.{Keeps, keeps_queue, head', used', step_passes, step_empty}
use Rattle.promises.proofs.MoveKeeps.{went, moved_content}
use Rattle.promises.proofs.StepKeeps.{left_holds}
use Rattle.promises.proofs.Linked.{Reached, steps_reached, begun_by, begun_reached, begun_queue}

-- THE SAME CHART

pub same_back : {w v : World} → SameButRing w v → SameButRing v w
same_back s = record { cells = sym s.cells; state = sym s.state; bytes = sym s.bytes }

pub same_on : {u w v : World} → SameButRing u w → SameButRing w v → SameButRing u v
same_on s t = record { cells = s.cells ∙ t.cells; state = s.state ∙ t.state; bytes = s.bytes ∙ t.bytes }

-- a chart with another ring, of len bytes and with this head
abbrev in_ring : World → List ℕ → ℕ → ℕ → World
in_ring w ring len head = record {
  state = record {
    chosen = w.state.chosen;
    taken = w.state.taken;
    queued = w.state.queued;
    len = len;
    head = head;
    used = w.state.used;
    front = w.state.front;
    back = w.state.back;
  };
  ring = ring;
  cells = w.cells;
}

-- the other chart is this one in the other's ring
same_is : (w v : World) → SameButRing w v → in_ring w v.ring v.state.len v.state.head ≡ v
unfolding moved_record
same_is w v s =
    ap₂ (λ (t : State) (cells : List ℕ). in_ring (record { state = t; ring = []; cells = cells }) v.ring v.state.len v.state.head) s.state s.cells

-- A STEP ON BOTH

-- a test that both pass, or both fail
both_unless : (why : Refusal) (t : Bool) (a b : StepEnd) → (t ≡ true → EndsAlike a b) → EndsAlike (unless why t a) (unless why t b)
unfolding unless EndsAlike
both_unless why true a b f = f refl
both_unless why false a b f = refl

-- the test for room, which one may fail
room_unless : (s t : Bool) (w v : World) (evals bytes evals' bytes' : ℕ) → (s ≡ true → t ≡ true → EndsAlike (finished w evals bytes) (finished v evals' bytes'))
    → EndsAlike (unless R.Room s (finished w evals bytes)) (unless R.Room t (finished v evals' bytes'))
unfolding unless EndsAlike
room_unless true true w v evals bytes evals' bytes' f = f refl refl
room_unless true false w v evals bytes evals' bytes' f = refl
room_unless false true w v evals bytes evals' bytes' f = refl
room_unless false false w v evals bytes evals' bytes' f = refl

module _ (w : World) (ring : List ℕ) (len head : ℕ) where
  abbrev there : World
  there = in_ring w ring len head

  module _ (c : Block) (rest : List Block) (k : Keeps w (c ∷ rest)) (l : Keeps there (c ∷ rest)) (own : List ℕ) where
    abbrev left : World
    left = world_left w c (remembered c) (head' w c rest k) (used' w c rest k) own

    abbrev left_there : World
    left_there = world_left there c (remembered c) (head' there c rest l) (used' there c rest l) own

    -- the bytes that would be in use
    abbrev needed : ℕ
    needed = used' w c rest k + length (new_bytes w c own)

    left_alike : w.state.queued + length (new_blocks w c own) ≤ 2 ^ 32 → needed ≤ length w.ring → needed ≤ length ring → (evals bytes : ℕ)
        → EndsAlike (finished left evals bytes) (finished left_there evals bytes)
    unfolding EndsAlike world_left moved_record
    left_alike numbers room room' evals bytes =
        let codes = (left_holds w c rest k own room numbers).bytes_are in
        (record { cells = refl; state = refl; bytes = codes ∙ sym (left_holds there c rest l own room' numbers).bytes_are }, refl, refl)

    judged_alike : EndsAlike (judged w c (remembered c) (head' w c rest k) (used' w c rest k) own)
        (judged there c (remembered c) (head' there c rest l) (used' there c rest l) own)
    unfolding judged
    judged_alike =
        both_unless R.Verdict (all_legal (children_of w.state.chosen c) own) _ _ (λ i.
        both_unless R.Numbers (leb (w.state.queued + length (new_blocks w c own)) (2 ^ 32)) _ _ (λ n.
        room_unless (leb needed (length w.ring)) (leb needed (length ring)) _ _ _ _ _ _ (λ s t.
        left_alike (leb-true _ _ n) (leb-true _ _ s) (leb-true _ _ t) (evaluations (outcomes_of w c own)) (length (children_of w.state.chosen c)))))

  placed_alike : (q : List Block) → Keeps w q → Keeps there q → (tape : Bool) (vs : List ℕ) → EndsAlike (step_with tape w vs) (step_with tape there vs)
  placed_alike [] k l tape vs = rw (step_empty w k tape vs, step_empty there l tape vs) (unfold EndsAlike in refl)
  placed_alike (c ∷ rest) k l tape vs =
      let n = length (children_of w.state.chosen c) in
      rw (step_passes w c rest k tape vs, step_passes there c rest l tape vs)
      (both_unless R.Verdicts (enough_verdicts tape (length (children_of w.state.chosen c)) (length vs)) _ _ (λ e. judged_alike c rest k l (take n vs)))

-- the same blocks wait in both
pub same_queue : (w v : World) → SameButRing w v → queued_blocks w ≡ queued_blocks v
unfolding queued_blocks moved_record
same_queue w v s =
    ap₂ (λ (t : State) (bytes : List ℕ). queue_of t.chosen.set t.front (t.queued - t.taken) bytes) s.state s.bytes

pub ends_alike : (w v : World) (q q' : List Block) → Keeps w q → Keeps v q' → SameButRing w v → (tape : Bool) (vs : List ℕ)
    → EndsAlike (step_with tape w vs) (step_with tape v vs)
ends_alike w v q q' k l s tape vs =
    let is = same_is w v s in
    let one : q' ≡ q = sym (keeps_queue v q' l) ∙ sym (same_queue w v s) ∙ keeps_queue w q k in
    let l' : Keeps (in_ring w v.ring v.state.len v.state.head) q = subst (λ (u : World). Keeps u q) (sym is) (subst (Keeps v) one l) in
    subst (λ (u : World). EndsAlike (step_with tape w vs) (step_with tape u vs)) is (placed_alike w v.ring v.state.len v.state.head q k l' tape vs)

-- A MOVE

pub move_alike : {w w' : World} → MovesTo w w' → (q : List Block) → Keeps w q → SameButRing w w'
unfolding moved_world moved_record
move_alike {w} {w'} (to_ring ring e) q k =
    let g = went w ring w' e in
    rw g.is (record { cells = refl; state = refl; bytes = sym (moved_content w ring q k g.some g.room) })

-- STEPS AND MOVES ON BOTH

-- what two finished steps left
both_left : (s t : StepEnd) (w v : World) (evals bytes evals' bytes' : ℕ) → EndsAlike s t → s ≡ finished w evals bytes → t ≡ finished v evals' bytes'
    → SameButRing w v
unfolding EndsAlike
both_left s t w v evals bytes evals' bytes' k e f = (rw (e, f) at k).0

module _ (p : Chosen) {w₀ v₀ : World} (h : Reached p w₀) (i : Reached p v₀) (same : SameButRing w₀ v₀) where
  move_on : {m : ℕ} {v v' : World} (s : Steps m v₀ v) → MovesTo v v' → SameButRing v v'
  move_on s m = let k = steps_reached p i s in move_alike m k.blocks k.keeps

  -- without verdicts there are moves alone
  no_verdicts : {m : ℕ} {v : World} (s : Steps m v₀ v) → [] ≡ verdicts_by_step s → SameButRing w₀ v
  unfolding verdicts_by_step
  no_verdicts no_steps e = same
  no_verdicts (then_step s vs evals bytes f) e = let z = ap length e in absurd (omega arith)
  no_verdicts (then_move s m) e = same_on (no_verdicts s e) (move_on s m)

  -- with one list of verdicts more, by steps r that did as the other's did before
  once_more : {n : ℕ} {w w' : World} (r : Steps n w₀ w) (vs : List ℕ) (evals bytes : ℕ) → step_of w vs ≡ finished w' evals bytes
      → ((m : ℕ) (v : World) (s : Steps m v₀ v) → verdicts_by_step r ≡ verdicts_by_step s → SameButRing w v)
      → {m : ℕ} {v : World} (s : Steps m v₀ v) → vs ∷ verdicts_by_step r ≡ verdicts_by_step s → SameButRing w' v
  unfolding verdicts_by_step
  once_more r vs evals bytes f before no_steps e = let z = ap length e in absurd (omega arith)
  once_more {w = w} {w' = w'} r vs evals bytes f before (then_step {n = m} {w' = v} {w'' = v'} s us evals' bytes' g) e =
      let u : vs ≡ us = cc in
      let t : verdicts_by_step r ≡ verdicts_by_step s = cc in
      let k = steps_reached p h r in
      let l = steps_reached p i s in
      let ends = ends_alike w v k.blocks l.blocks k.keeps l.keeps (before m v s t) false vs in
      both_left (step_of w vs) (step_of v vs) w' v' evals bytes evals' bytes' ends f (ap (step_of v) u ∙ g)
  once_more r vs evals bytes f before (then_move s m) e = same_on (once_more r vs evals bytes f before s e) (move_on s m)

  pub same_verdicts_alike : {n : ℕ} {w : World} (r : Steps n w₀ w) (m : ℕ) (v : World) (s : Steps m v₀ v)
      → verdicts_by_step r ≡ verdicts_by_step s → SameButRing w v
  unfolding verdicts_by_step
  same_verdicts_alike no_steps m v s e = no_verdicts s e
  same_verdicts_alike (then_step r vs evals bytes f) m v s e = once_more r vs evals bytes f (λ k u t g. same_verdicts_alike r k u t g) s e
  same_verdicts_alike (then_move r n) m v s e = let k = steps_reached p h r in same_on (same_back (move_alike n k.blocks k.keeps)) (same_verdicts_alike r m v s e)

-- FROM TWO SETUPS

-- the same record and the same blocks have the same bytes
same_codes : (w v : World) (q q' : List Block) → Keeps w q → Keeps v q' → q ≡ q' → moved_record w.state 0 ≡ moved_record v.state 0
    → content w.ring w.state.head w.state.used ≡ content v.ring v.state.head v.state.used
unfolding moved_record
same_codes w v q q' k l e s =
    k.holds.bytes_are ∙ ap₂ (λ (t : State) (b : List Block). queue_codes t.chosen.set t.front b) s e ∙ sym l.holds.bytes_are

module _ (a : Asked) {w₀ : World} (z : BegunAs a w₀) (ring : List ℕ) {v₀ : World} (y : BegunAs (on_ring a ring) v₀) where
  begun_alike : SameButRing w₀ v₀
  unfolding start_record moved_record
  begun_alike =
      let b = begun_by a w₀ z in
      let c = begun_by (on_ring a ring) v₀ y in
      let h = begun_reached a w₀ z in
      let i = begun_reached (on_ring a ring) v₀ y in
      let here : h.blocks ≡ first_blocks a.chosen a.ranges = sym (keeps_queue w₀ h.blocks h.keeps) ∙ begun_queue a w₀ z in
      let there : i.blocks ≡ first_blocks a.chosen a.ranges = sym (keeps_queue v₀ i.blocks i.keeps) ∙ begun_queue (on_ring a ring) v₀ y in
      let at_first : moved_record w₀.state 0 ≡ moved_record v₀.state 0 =
      ap (λ (s : State). moved_record s 0) b.state ∙ sym (ap (λ (s : State). moved_record s 0) c.state) in
      record {
        cells = z.cells ∙ b.cells_are ∙ sym c.cells_are ∙ sym y.cells;
        state = at_first;
        bytes = same_codes w₀ v₀ h.blocks i.blocks h.keeps i.keeps (here ∙ sym there) at_first;
      }

  pub charts_alike : RingsAlike a w₀ ring v₀
  charts_alike n m w v r = same_verdicts_alike a.chosen (begun_reached a w₀ z) (begun_reached (on_ring a ring) v₀ y) begun_alike r m v

  pub steps_alike : StepsAlike a w₀ ring v₀
  steps_alike n m w v r s e =
      let k = steps_reached a.chosen (begun_reached a w₀ z) r in
      let l = steps_reached a.chosen (begun_reached (on_ring a ring) v₀ y) s in
      ends_alike w v k.blocks l.blocks k.keeps l.keeps (charts_alike n m w v r s e)
