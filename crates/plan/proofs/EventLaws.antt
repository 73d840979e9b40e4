-- Laws of a step's events: how many there are, what is queued by them, and the cells after them. Assumes nothing.
use mathlib.Core.Path.{◌≡◌, refl, sym, ap, ap₂, ◌∙◌}
use mathlib.Core.Bool.{Bool, true, false, cond, true≢false, false≢true}
use mathlib.Core.List.Sublistᴰ
use mathlib.Core.List.{List, [], ◌∷◌, ◌++◌, map, Sublistᴰ}
use Prim.Native.Nat.{ℕ, suc, ◌+◌, ◌-◌, ◌*◌, ◌/◌, ◌%◌, ◌≤◌}
use native.Mathlib.Omega.{arith}
use native.Mathlib.Decide.{dec_lt}
use native.Mathlib.Nat.{add-zero}
use lib.ListN.{length}
use Rattle.base.specs.Event.{Event, marks, queues, gives_up, queued_by}
use Rattle.base.proofs.Test.{by_test}
use Rattle.base.specs.Lists.{Every}
use Rattle.base.proofs.ListLaws.{every_also, every_both}
use Rattle.image.specs.declared.Op.TheVariants as Op
use Rattle.image.specs.Cell.{Cell, done_to}
use Rattle.image.specs.Range.{holds_cell, rectangle_of}
use Rattle.image.specs.Painting.{painted}
use Rattle.image.proofs.AtLaws.{map_at_ext, map_at_map_at}
use Rattle.image.proofs.RangeLaws.{cell_pixel, beyond_not_held, rectangle_in_picture, rectangle_covers}
use Rattle.queue.specs.declared.Block.{Block}
use Rattle.queue.proofs.RoundTrip.{CanQueue}
use Rattle.decide.specs.declared.Chosen.{Chosen}
use Rattle.decide.specs.Turn.{Turned}
use Rattle.decide.specs.Turn as T
use Rattle.decide.specs.declared.verdict.Outcome.{Outcome}
use Rattle.decide.specs.Damage.{sound}
use Rattle.decide.specs.Children.{children_of}
use Rattle.decide.specs.Verdict.{outcome_of, is_marking, is_incomplete}
use Rattle.decide.specs.Turn.{turned_to, turned}
use Rattle.plan.specs.Plan.{painted_under, all_true, outcomes, evaluations, incomplete_count, mark_events, turn_event, turn_events, events_for}
use Rattle.plan.specs.Plan.{cells_after}
use Rattle.decide.proofs.VerdictLaws.{cost_of_child}
use Rattle.decide.proofs.ListingLaws.{children_few}
use Rattle.plan.proofs.CoverLaws.{covers, Narrower, true_pixels, pixels_true}
use Rattle.plan.proofs.PlaceLaws.{Lies, lies_narrower, children_lie}
use Rattle.plan.proofs.JudgedLaws.{marks_queue_none}
use Rattle.plan.proofs.ChildLaws.{ChildPlace, Fine, children_placed, children_fine, child_can_queue}
use Rattle.plan.proofs.QueuedLaws.{TurnsTo, turns, turned_sound, turned_can_queue}

-- HOW MUCH IT IS

pub evaluations_few : (p : Chosen) (l : List Cell) (cs : List Block) (vs : List ℕ) → evaluations (outcomes p l cs vs) ≤ 6 * length cs
unfolding evaluations outcomes
evaluations_few p l [] vs = omega arith
evaluations_few p l (c ∷ cs) [] = omega arith
evaluations_few p l (c ∷ cs) (v ∷ vs) =
    let o = outcome_of c.x.rank v (all_true p c l) in
    omega (arith, cost_of_child c.x.rank v (all_true p c l), evaluations_few p (cond (is_marking o) (painted_under p c Op.Mark l) l) cs vs)

-- a step costs 24 evaluations at most
pub step_evaluations : (p : Chosen) (b : Block) (l : List Cell) (vs : List ℕ) → evaluations (outcomes p l (children_of p b) vs) ≤ 24
step_evaluations p b l vs = omega (arith, evaluations_few p l (children_of p b) vs, children_few p b)

-- WHAT IS MARKED AND QUEUED

-- what holds of each block that is marked or queued
abbrev pub EachEvent : (Block → Type 0) → List (Event Block) → Type 0
EachEvent P [] = Unit {0}
EachEvent P (marks c ∷ es) = P c × EachEvent P es
EachEvent P (queues c ∷ es) = P c × EachEvent P es
EachEvent P (gives_up ∷ es) = EachEvent P es

pub event_append : (P : Block → Type 0) (es fs : List (Event Block)) → EachEvent P es → EachEvent P fs → EachEvent P (es ++ fs)
event_append P [] fs h k = k
event_append P (marks c ∷ es) fs h k = (h.0, event_append P es fs h.1 k)
event_append P (queues c ∷ es) fs h k = (h.0, event_append P es fs h.1 k)
event_append P (gives_up ∷ es) fs h k = event_append P es fs h k

event_marks : (P : Block → Type 0) (cs : List Block) (os : List Outcome) → Every P cs → EachEvent P (mark_events cs os)
unfolding mark_events
event_marks P [] os h = tt
event_marks P (c ∷ cs) [] h = tt
event_marks P (c ∷ cs) (o ∷ os) h =
    by_test (EachEvent P) (is_marking o) (marks c ∷ mark_events cs os) (mark_events cs os) (λ e. (h.0, event_marks P cs os h.1)) (λ e. event_marks P cs os h.1)

-- each child that is queued, by what it was before it was turned
module _ (P Q : Block → Type 0) (turn : Block → Turned) (to : (c d : Block) → P c → turn c ≡ T.To d → Q d) where
  one_turn : (c : Block) (t : Turned) → turn c ≡ t → P c → (es : List (Event Block)) → EachEvent Q es → EachEvent Q (turn_event t ∷ es)
  one_turn c (T.To d) e h es k = (to c d h e, k)
  one_turn c T.Nowhere e h es k = k

  event_turns : (cs : List Block) (os : List Outcome) → Every P cs → EachEvent Q (turn_events turn cs os)
  unfolding turn_events
  event_turns [] os h = tt
  event_turns (c ∷ cs) [] h = tt
  event_turns (c ∷ cs) (o ∷ os) h =
      by_test (EachEvent Q) (is_incomplete o) (turn_event (turn c) ∷ turn_events turn cs os) (turn_events turn cs os)
      (λ e. one_turn c (turn c) refl h.0 (turn_events turn cs os) (event_turns cs os h.1)) (λ e. event_turns cs os h.1)

  one_queued : (c : Block) (t : Turned) → turn c ≡ t → P c → (es : List (Event Block)) → Every Q (queued_by es) → Every Q (queued_by (turn_event t ∷ es))
  unfolding queued_by
  one_queued c (T.To d) e h es k = (to c d h e, k)
  one_queued c T.Nowhere e h es k = k

  pub each_queued : (cs : List Block) (os : List Outcome) → Every P cs → Every Q (queued_by (turn_events turn cs os))
  unfolding turn_events queued_by
  each_queued [] os h = tt
  each_queued (c ∷ cs) [] h = tt
  each_queued (c ∷ cs) (o ∷ os) h =
      by_test (λ l. Every Q (queued_by l)) (is_incomplete o) (turn_event (turn c) ∷ turn_events turn cs os) (turn_events turn cs os)
      (λ e. one_queued c (turn c) refl h.0 (turn_events turn cs os) (each_queued cs os h.1)) (λ e. each_queued cs os h.1)

-- a turned block covers what it covered
turned_covers : (p : Chosen) (c d : Block) → TurnsTo p c d → (px py : ℕ) → covers d px py ≡ covers c px py
turned_covers p c d t px py = ap (λ (w : Block). covers w px py) t.same

pub turned_narrower : (p : Chosen) (b : Block) (n : ℕ) (c d : Block) → Narrower b c → turned p b n c ≡ T.To d → Narrower b d
turned_narrower p b n c d h e px py t = h px py (sym (turned_covers p c d (turns p b n c d e) px py) ∙ t)

module _ (p : Chosen) (b : Block) (ok : sound p b ≡ true) (os : List Outcome) where
  abbrev turn : Block → Turned
  turn = turned p b (incomplete_count os)

  -- what a step marks or queues covers only what its block covers
  pub events_narrower : EachEvent (Narrower b) (events_for p b (children_of p b) os)
  unfolding events_for
  events_narrower =
      let n = every_also (λ c. Lies b c) (Narrower b) (lies_narrower b) (children_of p b) (children_lie p b ok) in
      event_append (Narrower b) (mark_events (children_of p b) os) (turn_events turn (children_of p b) os)
      (event_marks (Narrower b) (children_of p b) os n)
      (event_turns (Narrower b) (Narrower b) turn (turned_narrower p b (incomplete_count os)) (children_of p b) os n)

  -- each new block is undamaged in the same picture, and comes out of the queue as it goes in
  pub queued_sound : Fine p.set b → Every (λ d. (sound p d ≡ true) × CanQueue p.set d) (queued_by (events_for p b (children_of p b) os))
  unfolding events_for
  queued_sound f =
      rw (marks_queue_none (children_of p b) os (turn_events turn (children_of p b) os))
      (each_queued (λ c. ChildPlace p b c × Fine p.set c) (λ d. (sound p d ≡ true) × CanQueue p.set d) turn
      (λ c d h e. (let t = turns p b (incomplete_count os) c d e in
      (turned_sound p b c d ok h.0 h.1 t, turned_can_queue p c d (child_can_queue p b c h.0 h.1) t)))
      (children_of p b) os
      (every_both (ChildPlace p b) (Fine p.set) (λ c. ChildPlace p b c × Fine p.set c) (λ c h k. (h, k)) (children_of p b) (children_placed p b ok) (children_fine p b ok f)))

-- the new blocks are children in their order, some left out, by whatever does not look at the direction
module _ {A : Type 0} (f : Block → A) (turn : Block → Turned) (same : (c d : Block) → turn c ≡ T.To d → f d ≡ f c) where
  one_kept : (c : Block) (t : Turned) → turn c ≡ t → (es : List (Event Block)) (l : List A)
      → Sublistᴰ (map f (queued_by es)) l → Sublistᴰ (map f (queued_by (turn_event t ∷ es))) (f c ∷ l)
  unfolding queued_by
  one_kept c (T.To d) e es l s = Sublistᴰ.cons-cons (same c d e) s
  one_kept c T.Nowhere e es l s = Sublistᴰ.cons s

  turns_sublist : (cs : List Block) (os : List Outcome) → Sublistᴰ (map f (queued_by (turn_events turn cs os))) (map f cs)
  unfolding turn_events queued_by
  turns_sublist [] os = Sublistᴰ.slnil
  turns_sublist (c ∷ cs) [] = Sublistᴰ.nil-sublist (f c ∷ map f cs)
  turns_sublist (c ∷ cs) (o ∷ os) =
      let s = turns_sublist cs os in
      by_test (λ l. Sublistᴰ (map f (queued_by l)) (f c ∷ map f cs)) (is_incomplete o) (turn_event (turn c) ∷ turn_events turn cs os) (turn_events turn cs os)
      (λ e. one_kept c (turn c) refl (turn_events turn cs os) (map f cs) s) (λ e. Sublistᴰ.cons s)

pub queued_sublist : {A : Type 0} (f : Block → A) (p : Chosen) (b : Block) → ((c : Block) (d : ℕ) → f (turned_to c d) ≡ f c) → (cs : List Block) (os : List Outcome)
    → Sublistᴰ (map f (queued_by (events_for p b cs os))) (map f cs)
unfolding events_for
queued_sublist f p b h cs os =
    rw (marks_queue_none cs os (turn_events (turned p b (incomplete_count os)) cs os))
    (turns_sublist f (turned p b (incomplete_count os)) (λ c d e. (let t = turns p b (incomplete_count os) c d e in ap f t.same ∙ h c d.dir)) cs os)

-- THE CELLS

-- events one after the other
pub cells_append : (p : Chosen) (b : Block) (number new : ℕ) (es fs : List (Event Block)) (l : List Cell)
    → cells_after p b number new (es ++ fs) l ≡ cells_after p b number (new + length (queued_by es)) fs (cells_after p b number new es l)
unfolding cells_after queued_by
cells_append p b number new [] fs l = rw (add-zero new)
cells_append p b number new (marks c ∷ es) fs l = cells_append p b number new es fs (painted_under p c Op.Mark l)
cells_append p b number new (queues c ∷ es) fs l =
    let e : new + suc (length (queued_by es)) ≡ suc new + length (queued_by es) = omega arith in
    rw e (cells_append p b number (suc new) es fs (painted_under p c (Op.Name number new) l))
cells_append p b number new (gives_up ∷ es) fs l = cells_append p b number new es fs (painted_under p b Op.GiveUp l)

-- a block that covers all cells of another holds them
holds_narrower : (p : Chosen) (b c : Block) → Narrower b c → (i : ℕ) → holds_cell p.width (rectangle_of c.x c.y p.width p.height) i ≡ true
    → holds_cell p.width (rectangle_of b.x b.y p.width p.height) i ≡ true
holds_narrower p b c n i t = elim (dec_lt i (p.width * p.height)) [
  | yes k ↦ (let z = cell_pixel p.width p.height i k in
      let px = i % p.width in
      let py = p.height - 1 - i / p.width in
      let rc = rectangle_covers c.x c.y p.width p.height px py z.0 z.1 in
      let rb = rectangle_covers b.x b.y p.width p.height px py z.0 z.1 in
      rw z.2 at (rb ∙ n px py (sym rc ∙ rw z.2 t)))
  | no k ↦ absurd (true≢false (sym t ∙ beyond_not_held p.width p.height (rectangle_of c.x c.y p.width p.height) i (rectangle_in_picture c.x c.y p.width p.height) (omega arith)))
]

-- giving up and naming siblings in either order leaves the same cells
pub give_up_order : (p : Chosen) (b c : Block) (number new : ℕ) (es : List (Event Block)) (l : List Cell) → Narrower b c
    → cells_after p b number new (gives_up ∷ queues c ∷ es) l ≡ cells_after p b number new (queues c ∷ gives_up ∷ es) l
unfolding cells_after painted
give_up_order p b c number new es l n =
    let w = p.width in
    let rb = rectangle_of b.x b.y p.width p.height in
    let rc = rectangle_of c.x c.y p.width p.height in
    ap (cells_after p b number (suc new) es)
    (map_at_map_at (λ i z. cond (holds_cell w rc i) (done_to (Op.Name number new) z) z) (λ i z. cond (holds_cell w rb i) (done_to Op.GiveUp z) z) 0 l
    ∙ map_at_ext _ _ 0 l (λ i z h k. go (holds_cell w rc i) (holds_cell w rb i) (holds_narrower p b c n i) z)
    ∙ sym (map_at_map_at (λ i z. cond (holds_cell w rb i) (done_to Op.GiveUp z) z) (λ i z. cond (holds_cell w rc i) (done_to (Op.Name number new) z) z) 0 l))
  where
    go : (s t : Bool) → (s ≡ true → t ≡ true) → (z : Cell) → cond s (done_to (Op.Name number new) (cond t (done_to Op.GiveUp z) z)) (cond t (done_to Op.GiveUp z) z)
        ≡ cond t (done_to Op.GiveUp (cond s (done_to (Op.Name number new) z) z)) (cond s (done_to (Op.Name number new) z) z)
    go true true f z = unfold done_to in refl
    go true false f z = absurd (false≢true (f refl))
    go false true f z = refl
    go false false f z = refl

-- SKIPPED

-- where all cells of a block are True every child is skipped, so nothing is done
true_skips : (p : Chosen) (l : List Cell) (cs : List Block) (vs : List ℕ) → Every (λ c. all_true p c l ≡ true) cs → (turn : Block → Turned)
    → (mark_events cs (outcomes p l cs vs) ≡ []) × (turn_events turn cs (outcomes p l cs vs) ≡ [])
unfolding outcomes mark_events turn_events
true_skips p l [] vs h turn = (refl, refl)
true_skips p l (c ∷ cs) [] h turn = (refl, refl)
true_skips p l (c ∷ cs) (v ∷ vs) h turn = rw h.0 (true_skips p l cs vs h.1 turn)

pub all_true_nothing : (p : Chosen) (b : Block) (l : List Cell) (vs : List ℕ) → sound p b ≡ true → p.width * p.height ≤ length l → all_true p b l ≡ true
    → events_for p b (children_of p b) (outcomes p l (children_of p b) vs) ≡ []
unfolding events_for
all_true_nothing p b l vs ok h t =
    let os = outcomes p l (children_of p b) vs in
    let each = every_also (λ c. Lies b c) (λ c. all_true p c l ≡ true)
    (λ c i. pixels_true p c l h (λ px py f g e. true_pixels p b l h t px py f g (lies_narrower b c i px py e))) (children_of p b) (children_lie p b ok) in
    let z = true_skips p l (children_of p b) vs each (turned p b (incomplete_count os)) in
    ap₂ ◌++◌ z.0 z.1
