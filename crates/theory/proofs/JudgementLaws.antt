-- A step's judgements and its events: which children are queued, whether one gives up, and that all of it stays under the taken block if its children
-- do. A child that finds no direction was looked at, so a pixel of it was not True. What is queued are children, some left out. Assumes nothing.
use mathlib.Core.Path.{◌≡◌, refl}
use mathlib.Core.Bool.{Bool, true, false, cond}
use mathlib.Core.List.{List, [], ◌∷◌, ◌++◌, map, Sublistᴰ}
use Prim.Native.Nat.{ℕ}
use native.Mathlib.Omega.{arith}
use lib.Dec.{T}
use Rattle.base.specs.Lists.{Every}
use Rattle.theory.specs.Cells.{Standing, marked_true}
use Rattle.theory.specs.Runs.{Snapshot, Event, marks, queues, gives_up, queued_by, Narrower, AllNarrower, FinishedStep}
use Rattle.theory.specs.Demand3.{any_gives_up, LooksBeforeGivingUp}
use Rattle.theory.specs.Levels.{BlockPlace, QueuesChildren}
use Rattle.theory.specs.Colours.{Said, ChildEnd, skipped, denied, marked, waits_as, stuck, Judgement, judgement, judged_child, marks_in_order}
use Rattle.theory.specs.Colours.{afterwards, Cutting, Follows, NotAllTrue, SkipRule, StepByVerdicts}
use Rattle.theory.specs.Why.{ends_denied}

pub denied_looked : (Block : Type 0) → ¬ (◌≡◌ {A = ChildEnd Block} denied skipped)
denied_looked Block e = let z : ◌≡◌ {A = ℕ} 0 1 = cc in omega arith

pub marked_looked : (Block : Type 0) → ¬ (◌≡◌ {A = ChildEnd Block} marked skipped)
marked_looked Block e = let z : ◌≡◌ {A = ℕ} 0 1 = cc in omega arith

-- the end is known by its test
pub denied_ends : {Block : Type 0} (c : Block) (v : Said) (f : ChildEnd Block) → f ≡ denied → T (ends_denied (judgement c v f))
unfolding ends_denied
denied_ends c v f e = rw e tt

-- marks queue nothing and give nothing up
pub queued_afterwards : {Block : Type 0} (ts : List (Judgement Block)) (es : List (Event Block)) → queued_by (marks_in_order ts ++ es) ≡ queued_by es
unfolding marks_in_order queued_by
queued_afterwards [] es = refl
queued_afterwards (judgement c v skipped ∷ ts) es = queued_afterwards ts es
queued_afterwards (judgement c v denied ∷ ts) es = queued_afterwards ts es
queued_afterwards (judgement c v marked ∷ ts) es = queued_afterwards ts es
queued_afterwards (judgement c v (waits_as d) ∷ ts) es = queued_afterwards ts es
queued_afterwards (judgement c v stuck ∷ ts) es = queued_afterwards ts es

pub given_up_afterwards : {Block : Type 0} (ts : List (Judgement Block)) (es : List (Event Block)) → any_gives_up (marks_in_order ts ++ es) ≡ any_gives_up es
unfolding marks_in_order any_gives_up
given_up_afterwards [] es = refl
given_up_afterwards (judgement c v skipped ∷ ts) es = given_up_afterwards ts es
given_up_afterwards (judgement c v denied ∷ ts) es = given_up_afterwards ts es
given_up_afterwards (judgement c v marked ∷ ts) es = given_up_afterwards ts es
given_up_afterwards (judgement c v (waits_as d) ∷ ts) es = given_up_afterwards ts es
given_up_afterwards (judgement c v stuck ∷ ts) es = given_up_afterwards ts es

module _ {Block Pixel : Type 0} (covers : Block → Pixel → Bool) (C : Cutting Block) where
  narrower_append : (b : Block) (es fs : List (Event Block)) → AllNarrower covers b es → AllNarrower covers b fs → AllNarrower covers b (es ++ fs)
  unfolding AllNarrower
  narrower_append b [] fs h k = k
  narrower_append b (marks c ∷ es) fs h k = (h.0, narrower_append b es fs h.1 k)
  narrower_append b (queues c ∷ es) fs h k = (h.0, narrower_append b es fs h.1 k)
  narrower_append b (gives_up ∷ es) fs h k = narrower_append b es fs h k

  narrower_marks : (b : Block) (ts : List (Judgement Block)) → Every (Narrower covers b) (map judged_child ts) → AllNarrower covers b (marks_in_order ts)
  unfolding AllNarrower judged_child marks_in_order
  narrower_marks b [] h = tt
  narrower_marks b (judgement c v skipped ∷ ts) h = narrower_marks b ts h.1
  narrower_marks b (judgement c v denied ∷ ts) h = narrower_marks b ts h.1
  narrower_marks b (judgement c v marked ∷ ts) h = (h.0, narrower_marks b ts h.1)
  narrower_marks b (judgement c v (waits_as d) ∷ ts) h = narrower_marks b ts h.1
  narrower_marks b (judgement c v stuck ∷ ts) h = narrower_marks b ts h.1

  narrower_afterwards : ((c d : Block) (p : Pixel) → C.Same c d → covers d p ≡ covers c p) → (b : Block) (ts : List (Judgement Block))
      → Every (Follows C) ts
      → Every (Narrower covers b) (map judged_child ts) → AllNarrower covers b (afterwards ts)
  unfolding AllNarrower Narrower judged_child afterwards Follows
  narrower_afterwards same b [] f h = tt
  narrower_afterwards same b (judgement c v skipped ∷ ts) f h = narrower_afterwards same b ts f.1 h.1
  narrower_afterwards same b (judgement c v denied ∷ ts) f h = narrower_afterwards same b ts f.1 h.1
  narrower_afterwards same b (judgement c v marked ∷ ts) f h = narrower_afterwards same b ts f.1 h.1
  narrower_afterwards same b (judgement c v (waits_as d) ∷ ts) f h =
      ((λ p k. h.0 p (rw (same c d p f.0.1) at k)), narrower_afterwards same b ts f.1 h.1)
  narrower_afterwards same b (judgement c v stuck ∷ ts) f h = narrower_afterwards same b ts f.1 h.1

  -- what a finished step asks of its events, from what is known of the children
  pub judgements_narrower : ((c d : Block) (p : Pixel) → C.Same c d → covers d p ≡ covers c p) → (b : Block) (ts : List (Judgement Block))
      → Every (Follows C) ts
      → Every (Narrower covers b) (map judged_child ts) → AllNarrower covers b (marks_in_order ts ++ afterwards ts)
  judgements_narrower same b ts f h = narrower_append b (marks_in_order ts) (afterwards ts) (narrower_marks b ts h) (narrower_afterwards same b ts f h)

  -- what was True before a mark is True after it
  still_true : (k : Bool) (v : Standing) → v ≡ marked_true → cond k marked_true v ≡ marked_true
  still_true true v e = refl
  still_true false v e = e

  looked_at : (b : Block) (cells : Pixel → Standing) (ts : List (Judgement Block)) → SkipRule covers cells ts → Every (Narrower covers b) (map judged_child ts)
      → T (any_gives_up (afterwards ts))
      → (q : Pixel) × T (covers b q) × (¬ (cells q ≡ marked_true))
  unfolding SkipRule NotAllTrue Narrower judged_child afterwards any_gives_up
  looked_at b cells [] k h g = absurd g
  looked_at b cells (judgement c v skipped ∷ ts) k h g = looked_at b cells ts k.1 h.1 g
  looked_at b cells (judgement c v denied ∷ ts) k h g = looked_at b cells ts k.1 h.1 g
  looked_at b cells (judgement c v marked ∷ ts) k h g =
      let (q, a, n) = looked_at b (λ p. cond (covers c p) marked_true (cells p)) ts k.1 h.1 g in
      (q, a, (λ e. n (still_true (covers c q) (cells q) e)))
  looked_at b cells (judgement c v (waits_as d) ∷ ts) k h g = looked_at b cells ts k.1 h.1 g
  looked_at b cells (judgement c v stuck ∷ ts) k h g = (k.0.0, h.0 k.0.0 k.0.1, k.0.2)

  pub judged_looks : (spare : Bool) (s s' : Snapshot Block Pixel) (st : FinishedStep covers spare s s')
      → Every (Narrower covers st.front) (C.children st.front) → StepByVerdicts covers C spare s s' st
      → LooksBeforeGivingUp covers spare s s' st
  unfolding LooksBeforeGivingUp
  judged_looks spare s s' st h j g =
      looked_at st.front s.cells j.judgements j.skip_rule (rw j.each_child h) (rw (j.these_events, given_up_afterwards) at g)

  -- what is queued are children, some left out: so are their places
  queued_are_children : {Spot : Type 0} (place_of : Block → Spot) → ((c d : Block) → C.Same c d → place_of d ≡ place_of c) → (ts : List (Judgement Block))
      → Every (Follows C) ts
      → Sublistᴰ (map place_of (queued_by (afterwards ts))) (map place_of (map judged_child ts))
  unfolding queued_by afterwards judged_child Follows
  queued_are_children place_of same [] f = Sublistᴰ.slnil
  queued_are_children place_of same (judgement c v skipped ∷ ts) f = Sublistᴰ.cons (queued_are_children place_of same ts f.1)
  queued_are_children place_of same (judgement c v denied ∷ ts) f = Sublistᴰ.cons (queued_are_children place_of same ts f.1)
  queued_are_children place_of same (judgement c v marked ∷ ts) f = Sublistᴰ.cons (queued_are_children place_of same ts f.1)
  queued_are_children place_of same (judgement c v (waits_as d) ∷ ts) f = Sublistᴰ.cons-cons (same c d f.0.1) (queued_are_children place_of same ts f.1)
  queued_are_children place_of same (judgement c v stuck ∷ ts) f = Sublistᴰ.cons (queued_are_children place_of same ts f.1)

  pub judged_queues : (spare : Bool) (place_of : Block → BlockPlace) (cut : BlockPlace → List BlockPlace) → ((c d : Block) → C.Same c d → place_of d ≡ place_of c)
      → (s s' : Snapshot Block Pixel) (st : FinishedStep covers spare s s') → map place_of (C.children st.front) ≡ cut (place_of st.front)
      → StepByVerdicts covers C spare s s' st
      → QueuesChildren covers spare place_of cut s s' st
  unfolding QueuesChildren
  judged_queues spare place_of cut same s s' st e j =
      rw (j.these_events, queued_afterwards, ← e, ← j.each_child) (queued_are_children place_of same j.judgements j.by_verdict)
