-- Two readings of giving up that come to the same: the cells of the parent or those of the child itself, and before or after the siblings that are queued.
-- Assumes nothing.
use mathlib.Core.Path.{◌≡◌, refl, sym, ap, ◌∙◌}
use mathlib.Core.Bool.{true, cond}
use mathlib.Core.List.{List, [], ◌∷◌, append-nil}
use Prim.Native.Nat.{ℕ, suc, ◌+◌}
use native.Mathlib.Nat.{add-zero}
use lib.ListN.{length}
use Rattle.base.specs.Event.{Event, marks, queues, gives_up, queued_by}
use Rattle.base.proofs.Test.{cases}
use Rattle.base.specs.Lists.{Every}
use Rattle.base.proofs.ListLaws.{every_also}
use Rattle.image.specs.declared.Op.TheVariants as Op
use Rattle.image.specs.declared.PixelRange.{PixelRange}
use Rattle.image.specs.Cell.{Cell}
use Rattle.image.specs.Painting.{painted}
use Rattle.queue.specs.declared.Block.{Block}
use Rattle.decide.specs.declared.Chosen.{Chosen}
use Rattle.decide.specs.Turn.{Turned}
use Rattle.decide.specs.Turn as T
use Rattle.decide.specs.declared.verdict.Outcome.{Outcome}
use Rattle.decide.specs.Damage.{sound}
use Rattle.decide.specs.Children.{children_of}
use Rattle.decide.specs.Verdict.{is_incomplete}
use Rattle.decide.specs.Turn.{turned}
use Rattle.plan.specs.Plan.{painted_under, incomplete_count, mark_events, turn_event, turn_events, events_for, cells_after}
use Rattle.plan.proofs.CoverLaws.{Narrower}
use Rattle.plan.proofs.PlaceLaws.{Lies, lies_narrower, children_lie}
use Rattle.plan.proofs.JudgedLaws.{marks_queue_none}
use Rattle.plan.proofs.QueuedLaws.{SameRectangle, nowhere_same}
use Rattle.plan.proofs.EventLaws.{each_queued, turned_narrower, cells_append, give_up_order}

-- THE CHILD'S OWN CELLS

-- the other reading: an incomplete child that finds no direction gives up the cells that it covers itself
abbrev own_turn : Chosen → ℕ → ℕ → Block → Turned → (ℕ → List Cell → List Cell) → List Cell → List Cell
own_turn p number new c (T.To d) rest l = rest (suc new) (painted_under p d (Op.Name number new) l)
own_turn p number new c T.Nowhere rest l = rest new (painted_under p c Op.GiveUp l)

unfoldable pub cells_own : Chosen → ℕ → ℕ → (Block → Turned) → List Block → List Outcome → List Cell → List Cell
cells_own p number new turn [] os l = l
cells_own p number new turn (c ∷ cs) [] l = l
cells_own p number new turn (c ∷ cs) (o ∷ os) l =
    cond (is_incomplete o) (own_turn p number new c (turn c) (λ n m. cells_own p number n turn cs os m) l) (cells_own p number new turn cs os l)

module _ (p : Chosen) (b : Block) (n : ℕ) (ok : sound p b ≡ true) (number : ℕ) where
  -- one child, where the children after it leave the same cells by both readings
  own_turn_lem : (new : ℕ) (c : Block) (cs : List Block) (os : List Outcome) (l : List Cell) → SameRectangle p b n ok c
      → ((k : ℕ) (m : List Cell) → cells_own p number k (turned p b n) cs os m ≡ cells_after p b number k (turn_events (turned p b n) cs os) m)
      → (t : Turned) → turned p b n c ≡ t
      → own_turn p number new c t (λ k m. cells_own p number k (turned p b n) cs os m) l ≡ cells_after p b number new (turn_event t ∷ turn_events (turned p b n) cs os) l
  unfolding cells_after
  own_turn_lem new c cs os l h f (T.To d) e = f (suc new) (painted_under p d (Op.Name number new) l)
  own_turn_lem new c cs os l h f T.Nowhere e =
      ap (λ (r : PixelRange). cells_own p number new (turned p b n) cs os (painted p.width r Op.GiveUp l)) (h e) ∙ f new (painted_under p b Op.GiveUp l)

  own_turns : (new : ℕ) (cs : List Block) (os : List Outcome) (l : List Cell) → Every (SameRectangle p b n ok) cs
      → cells_own p number new (turned p b n) cs os l ≡ cells_after p b number new (turn_events (turned p b n) cs os) l
  unfolding cells_own turn_events cells_after
  own_turns new [] os l h = refl
  own_turns new (c ∷ cs) [] l h = refl
  own_turns new (c ∷ cs) (o ∷ os) l h =
      cases (is_incomplete o) (λ e. rw e (own_turn_lem new c cs os l h.0 (λ k m. own_turns k cs os m h.1) (turned p b n c) refl)) (λ e. rw e (own_turns new cs os l h.1))

-- the cells that a step on a sound block leaves, whatever its children's outcomes, are those of the other reading
pub give_up_own : (p : Chosen) (b : Block) (number new : ℕ) (os : List Outcome) (l : List Cell) → sound p b ≡ true
    → (let cs = children_of p b in
    cells_after p b number new (events_for p b cs os) l ≡ cells_own p number new (turned p b (incomplete_count os)) cs os (cells_after p b number new (mark_events cs os) l))
unfolding events_for queued_by
give_up_own p b number new os l ok =
    let cs = children_of p b in
    let turn = turned p b (incomplete_count os) in
    let q : queued_by (mark_events cs os) ≡ [] = ap queued_by (sym (append-nil (mark_events cs os))) ∙ marks_queue_none cs os [] in
    let z : new + length (queued_by (mark_events cs os)) ≡ new = ap (λ (m : List Block). new + length m) q ∙ add-zero new in
    cells_append p b number new (mark_events cs os) (turn_events turn cs os) l
    ∙ ap (λ (k : ℕ). cells_after p b number k (turn_events turn cs os) (cells_after p b number new (mark_events cs os) l)) z
    ∙ sym (own_turns p b (incomplete_count os) ok number new cs os (cells_after p b number new (mark_events cs os) l) (nowhere_same p b (incomplete_count os) ok))

-- THE ORDER AMONG SIBLINGS

-- these children queued, before other events
abbrev pub queuing : List Block → List (Event Block) → List (Event Block)
queuing [] es = es
queuing (c ∷ cs) es = queues c ∷ queuing cs es

-- giving up before all siblings that are queued, or after them
pub give_up_last : (p : Chosen) (b : Block) (number new : ℕ) (cs : List Block) (es : List (Event Block)) (l : List Cell) → Every (Narrower b) cs
    → cells_after p b number new (gives_up ∷ queuing cs es) l ≡ cells_after p b number new (queuing cs (gives_up ∷ es)) l
unfolding cells_after
give_up_last p b number new [] es l h = refl
give_up_last p b number new (c ∷ cs) es l h =
    give_up_order p b c number new (queuing cs es) l h.0 ∙ give_up_last p b number (suc new) cs es (painted_under p c (Op.Name number new) l) h.1

-- the givings up among events
abbrev pub givings : List (Event Block) → List (Event Block)
givings [] = []
givings (marks c ∷ es) = givings es
givings (queues c ∷ es) = givings es
givings (gives_up ∷ es) = gives_up ∷ givings es

-- all that is queued, and then all givings up
abbrev pub queued_first : List (Event Block) → List (Event Block)
queued_first es = queuing (queued_by es) (givings es)

module _ (p : Chosen) (b : Block) (number : ℕ) (turn : Block → Turned) (stays : (c d : Block) → Narrower b c → turn c ≡ T.To d → Narrower b d) where
  -- one child, where the children after it leave the same cells in both orders
  last_turn : (new : ℕ) (cs : List Block) (os : List Outcome) (l : List Cell) → Every (Narrower b) (queued_by (turn_events turn cs os))
      → ((k : ℕ) (m : List Cell) → cells_after p b number k (turn_events turn cs os) m ≡ cells_after p b number k (queued_first (turn_events turn cs os)) m)
      → (t : Turned) → cells_after p b number new (turn_event t ∷ turn_events turn cs os) l ≡ cells_after p b number new (queued_first (turn_event t ∷ turn_events turn cs os)) l
  unfolding cells_after queued_by
  last_turn new cs os l h f (T.To d) = f (suc new) (painted_under p d (Op.Name number new) l)
  last_turn new cs os l h f T.Nowhere =
      f new (painted_under p b Op.GiveUp l) ∙ give_up_last p b number new (queued_by (turn_events turn cs os)) (givings (turn_events turn cs os)) l h

  turns_last : (new : ℕ) (cs : List Block) (os : List Outcome) (l : List Cell) → Every (Narrower b) cs
      → cells_after p b number new (turn_events turn cs os) l ≡ cells_after p b number new (queued_first (turn_events turn cs os)) l
  unfolding turn_events queued_by
  turns_last new [] os l h = refl
  turns_last new (c ∷ cs) [] l h = refl
  turns_last new (c ∷ cs) (o ∷ os) l h =
      cases (is_incomplete o)
      (λ e. rw e (last_turn new cs os l (each_queued (Narrower b) (Narrower b) turn stays cs os h.1) (λ k m. turns_last k cs os m h.1) (turn c)))
      (λ e. rw e (turns_last new cs os l h.1))

-- a step on a sound block may name the cells of all that it queues before it gives any up
pub give_ups_last : (p : Chosen) (b : Block) (number new : ℕ) (os : List Outcome) (l : List Cell) → sound p b ≡ true
    → (let es = turn_events (turned p b (incomplete_count os)) (children_of p b) os in cells_after p b number new es l ≡ cells_after p b number new (queued_first es) l)
give_ups_last p b number new os l ok =
    turns_last p b number (turned p b (incomplete_count os)) (turned_narrower p b (incomplete_count os)) new (children_of p b) os l
    (every_also (λ c. Lies b c) (Narrower b) (lies_narrower b) (children_of p b) (children_lie p b ok))
