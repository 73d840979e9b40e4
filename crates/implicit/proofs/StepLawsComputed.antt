-- What a step writes and measures child by child is what the step's definition says of all children together. Assumes nothing.
use Rattle.std.specs.Prelude.{Result}
use Rattle.queue.specs.declared.QueueError.{QueueError}
use Rattle.queue.specs.Queue.{code_appended, code_measured}
use mathlib.Core.Path.{◌≡◌, refl, ap, ◌∙◌}
use mathlib.Core.Bool.{true}
use mathlib.Core.List.{List, [], ◌∷◌, ◌++◌}
use Prim.Native.Nat.{ℕ, zero, suc, ◌+◌, ◌^◌, ◌≤◌, ◌<◌}
use native.Mathlib.Omega.{arith}
use native.Mathlib.Nat.{add-zero}
use lib.Dec.{leb, ltb}
use lib.ListN.{length, replicate, length-append}
use borrow.Author.Tests.{le-leb, lt-ltb}
use Rattle.base.proofs.Test.{and_both, cases}
use Rattle.base.specs.Event.{Event, queues, gives_up, queued_by}
use Rattle.image.specs.declared.Op.{Op}
use Rattle.image.specs.declared.Op.TheVariants as O
use Rattle.image.specs.Cell as Cells
use Rattle.image.specs.Range.{rectangle_of, picture_ready}
use Rattle.image.specs.Painting.{paintable}
use Rattle.image.proofs.CellLaws.{codes_meanings}
use Rattle.image.proofs.PaintLaws.{painted_meanings, painted_cells_length}
use Rattle.image.proofs.BlockLaws.{rectangle_ready}
use Rattle.queue.specs.declared.Block.{Block}
use Rattle.queue.specs.declared.Last.{Last}
use Rattle.queue.specs.declared.Measured.{Measured}
use Rattle.queue.specs.Ring.{fits_ring, stored_behind, stored, wrapped}
use Rattle.queue.specs.Block.{remembered}
use Rattle.queue.specs.Code.{encode, indices_known}
use Rattle.queue.specs.Queue as Queue
use Rattle.queue.specs.Queue.{measured, appended, appended_ring}
use Rattle.queue.proofs.RingLaws.{store_append, length_stored}
use Rattle.decide.specs.declared.Chosen.{Chosen}
use Rattle.decide.specs.Turn.{Turned}
use Rattle.decide.specs.Turn as T
use Rattle.decide.specs.declared.verdict.Outcome.{Outcome}
use Rattle.decide.specs.declared.verdict.Outcome.TheVariants as Out
use Rattle.decide.specs.Verdict.{is_marking, is_incomplete}
use Rattle.plan.specs.Plan.{painted_under, mark_events, turn_event, turn_events, cells_after}
use Rattle.implicit.specs.declared.fitting.Size.{Size}
use Rattle.implicit.specs.Record.{pixel_count}
use Rattle.implicit.specs.StepComputed.{with_code, sized_turn, sized_all, painted_block}
use Rattle.implicit.specs.StepComputed.{marked_all, Carrying, with_queued, carried_turn, carried_all}
use Rattle.implicit.proofs.StepLawsKept.{Ready, AllReady, ready_can, ready_as_queued, ready_known}

-- THE OUTCOMES THAT ARE REMEMBERED

-- outcomes as they are remembered, Skipped behind them
abbrev pub padded : List Outcome → ℕ → List Outcome
padded os n = os ++ replicate n Out.Skipped

-- nothing is done for what is behind them
no_marks : (cs : List Block) → mark_events cs [] ≡ []
unfolding mark_events
no_marks [] = refl
no_marks (c ∷ cs) = refl

no_turns : (turn : Block → Turned) (cs : List Block) → turn_events turn cs [] ≡ []
unfolding turn_events
no_turns turn [] = refl
no_turns turn (c ∷ cs) = refl

pub marks_padded : (cs : List Block) (os : List Outcome) (n : ℕ) → mark_events cs (padded os n) ≡ mark_events cs os
unfolding mark_events
marks_padded [] os n = refl
marks_padded (c ∷ cs) [] zero = refl
marks_padded (c ∷ cs) [] (suc n) = marks_padded cs [] n ∙ no_marks cs
marks_padded (c ∷ cs) (o ∷ os) n = rw (marks_padded cs os n)

pub turns_padded : (turn : Block → Turned) (cs : List Block) (os : List Outcome) (n : ℕ) → turn_events turn cs (padded os n) ≡ turn_events turn cs os
unfolding turn_events
turns_padded turn [] os n = refl
turns_padded turn (c ∷ cs) [] zero = refl
turns_padded turn (c ∷ cs) [] (suc n) = turns_padded turn cs [] n ∙ no_turns turn cs
turns_padded turn (c ∷ cs) (o ∷ os) n = rw (turns_padded turn cs os n)

-- THE SIZE

measured_ready : (set : ℕ) (last : Last) (b : Block) → Ready set b → indices_known last ≡ true
    → measured set last b ≡ code_measured (length (encode set last b)) (remembered b)
unfolding measured
measured_ready set last b r k = rw (ready_can set b r, k, ready_as_queued set b r)

module _ (p : Chosen) (turn : Block → Turned) where
  -- the blocks that children with these outcomes have queued
  abbrev pub queued_in : List Block → List Outcome → List Block
  queued_in cs es = queued_by (turn_events turn cs es)

  -- the size with the codes of these blocks more
  abbrev size_then : Size → List Block → Size
  size_then z q = record {
    queued = z.queued + length q;
    total = z.total + length (Queue.queue_codes p.set z.last q);
    last = Queue.memory z.last q;
  }

  size_same : (z : Size) → z ≡ size_then z []
  unfolding Queue.queue_codes Queue.memory
  size_same z = rw (add-zero z.queued, add-zero z.total)

  sized_turn_lem : (z : Size) (cs : List Block) (es : List Outcome)
      → ((y : Size) → AllReady p.set (queued_in cs es) → indices_known y.last ≡ true → sized_all p turn y cs es ≡ size_then y (queued_in cs es))
      → (t : Turned) → AllReady p.set (queued_by (turn_event t ∷ turn_events turn cs es)) → indices_known z.last ≡ true
      → sized_all p turn (sized_turn p.set z t) cs es ≡ size_then z (queued_by (turn_event t ∷ turn_events turn cs es))
  unfolding queued_by Queue.queue_codes Queue.memory
  sized_turn_lem z cs es rest T.Nowhere r k = rest z r k
  sized_turn_lem z cs es rest (T.To b) r k =
      let n = length (encode p.set z.last b) in
      let y : Size = record { queued = z.queued + 1; total = z.total + n; last = remembered b } in
      let q = queued_in cs es in
      let more = Queue.queue_codes p.set (remembered b) q in
      let m : z.queued + 1 + length q ≡ z.queued + suc (length q) = omega arith in
      let s : z.total + n + length more ≡ z.total + length (encode p.set z.last b ++ more) =
      rw (length-append (encode p.set z.last b) more) (omega arith) in
      ap (λ (x : Result Measured QueueError). sized_all p turn (with_code z x) cs es) (measured_ready p.set z.last b r.0 k)
      ∙ rest y r.1 (ready_known p.set b r.0)
      ∙ rw (m, s)

  pub sized_is : (z : Size) (cs : List Block) (es : List Outcome) → AllReady p.set (queued_in cs es) → indices_known z.last ≡ true
      → sized_all p turn z cs es ≡ size_then z (queued_in cs es)
  unfolding sized_all turn_events queued_by
  sized_is z [] es r k = size_same z
  sized_is z (c ∷ cs) [] r k = size_same z
  sized_is z (c ∷ cs) (e ∷ es) r k =
      cases (is_incomplete e)
      (λ t. rw t (sized_turn_lem z cs es (λ y. sized_is y cs es) (turn c) (rw t at r) k))
      (λ t. rw t (sized_is z cs es (rw t at r) k))

-- THE CELLS

-- painting a block's cells, on their meanings
paint_means : (p : Chosen) (b : Block) (op : Op) (cells : List ℕ) → leb (pixel_count p) (length cells) ≡ true → Cells.nameable op ≡ true
    → Cells.meanings (painted_block p b op cells) ≡ painted_under p b op (Cells.meanings cells)
paint_means p b op cells h n =
    let r = rectangle_of b.x b.y p.width p.height in
    painted_meanings p.width p.height r op cells
    (unfold paintable in and_both (picture_ready p.width p.height r (length cells)) (Cells.nameable op)
    (rectangle_ready b.x b.y p.width p.height (length cells) ∙ h) n)

paint_length : (p : Chosen) (b : Block) (op : Op) (cells : List ℕ) → length (painted_block p b op cells) ≡ length cells
paint_length p b op cells = painted_cells_length p.width p.height (rectangle_of b.x b.y p.width p.height) op cells

pub marked_length : (p : Chosen) (cells : List ℕ) (cs : List Block) (es : List Outcome) → length (marked_all p cells cs es) ≡ length cells
unfolding marked_all
marked_length p cells [] es = refl
marked_length p cells (c ∷ cs) [] = refl
marked_length p cells (c ∷ cs) (e ∷ es) =
    cases (is_marking e)
    (λ t. rw t (marked_length p (painted_block p c O.Mark cells) cs es ∙ paint_length p c O.Mark cells))
    (λ t. rw t (marked_length p cells cs es))

-- the marks first, then what follows
pub marked_is : (p : Chosen) (b : Block) (from new : ℕ) (cells : List ℕ) (cs : List Block) (es : List Outcome) (fs : List (Event Block))
    → leb (pixel_count p) (length cells) ≡ true
    → cells_after p b from new fs (Cells.meanings (marked_all p cells cs es))
    ≡ cells_after p b from new (mark_events cs es ++ fs) (Cells.meanings cells)
unfolding marked_all mark_events cells_after Cells.nameable
marked_is p b from new cells [] es fs h = refl
marked_is p b from new cells (c ∷ cs) [] fs h = refl
marked_is p b from new cells (c ∷ cs) (e ∷ es) fs h =
    cases (is_marking e)
    (λ t. rw t (marked_is p b from new (painted_block p c O.Mark cells) cs es fs (rw (paint_length p c O.Mark cells) h)
    ∙ ap (cells_after p b from new (mark_events cs es ++ fs)) (paint_means p c O.Mark cells h refl)))
    (λ t. rw t (marked_is p b from new cells cs es fs h))

-- QUEUEING

appended_ready : (len head used set : ℕ) (back : Last) (b : Block) → fits_ring len head used ≡ true → Ready set b → indices_known back ≡ true
    → used + length (encode set back b) ≤ len → appended len head used set back b ≡ code_appended (remembered b) (used + length (encode set back b))
unfolding appended
appended_ready len head used set back b f r k h = rw (f, ready_can set b r, k, ready_as_queued set b r, le-leb (used + length (encode set back b)) len h)

module _ (p : Chosen) (from head : ℕ) (parent : Block) where
  -- once events are carried out
  abbrev pub carrying_then : Carrying → List (Event Block) → Carrying
  carrying_then w es = record {
    queued = w.queued + length (queued_by es);
    used = w.used + length (Queue.queue_codes p.set w.back (queued_by es));
    back = Queue.memory w.back (queued_by es);
    ring = stored_behind w.ring head w.used (Queue.queue_codes p.set w.back (queued_by es));
    cells = Cells.codes (cells_after p parent from w.queued es (Cells.meanings w.cells));
  }

  -- what carrying out needs: room for these blocks, and numbers
  pub record Roomy (w : Carrying) (q : List Block) : Type 0 where
    pub head_in : head < length w.ring
    pub room : w.used + length (Queue.queue_codes p.set w.back q) ≤ length w.ring
    pub numbers : w.queued + length q ≤ 2 ^ 32
    pub cells_enough : leb (pixel_count p) (length w.cells) ≡ true
    pub known : indices_known w.back ≡ true
    pub ready : AllReady p.set q

  -- a child queued
  abbrev queued_one : Block → Carrying → Carrying
  queued_one b w =
      let code = encode p.set w.back b in
      record {
        queued = w.queued + 1;
        used = w.used + length code;
        back = remembered b;
        ring = stored_behind w.ring head w.used code;
        cells = painted_block p b (O.Name from w.queued) w.cells;
      }

  -- the cells painted, all else as it is
  abbrev repainted : Block → Carrying → Carrying
  repainted b w = record { queued = w.queued; used = w.used; back = w.back; ring = w.ring; cells = painted_block p b O.GiveUp w.cells }

  queued_one_lem : (b : Block) (w : Carrying) (q : List Block) → Roomy w (b ∷ q) → with_queued p from head b w ≡ queued_one b w
  unfolding with_queued appended_ring Queue.queue_codes
  queued_one_lem b w q r =
      let code = encode p.set w.back b in
      let rest = Queue.queue_codes p.set (remembered b) q in
      let l : length (code ++ rest) ≡ length code + length rest = length-append code rest in
      let fits = and_both (ltb head (length w.ring)) (leb w.used (length w.ring)) (lt-ltb head (length w.ring) r.head_in)
      (le-leb w.used (length w.ring) (omega (arith, r.room))) in
      let a = appended_ready (length w.ring) head w.used p.set w.back b fits r.ready.0 r.known (omega (arith, r.room)) in
      rw (a, ready_as_queued p.set b r.ready.0)

  roomy_next : (b : Block) (w : Carrying) (q : List Block) → Roomy w (b ∷ q) → Roomy (queued_one b w) q
  unfolding Queue.queue_codes
  roomy_next b w q r =
      let code = encode p.set w.back b in
      let rest = Queue.queue_codes p.set (remembered b) q in
      let l : length (code ++ rest) ≡ length code + length rest = length-append code rest in
      let same = length_stored code w.ring (wrapped (length w.ring) (head + w.used)) in
      record {
        head_in = omega (arith, r.head_in);
        room = omega (arith, r.room);
        numbers = omega (arith, r.numbers);
        cells_enough = rw (paint_length p b (O.Name from w.queued) w.cells) r.cells_enough;
        known = ready_known p.set b r.ready.0;
        ready = r.ready.1;
      }

  then_next : (c : Block) (w : Carrying) (es : List (Event Block)) → Roomy w (c ∷ queued_by es)
      → carrying_then (queued_one c w) es ≡ carrying_then w (queues c ∷ es)
  unfolding cells_after Queue.queue_codes Queue.memory queued_by
  then_next c w es r =
      let q = queued_by es in
      let code = encode p.set w.back c in
      let rest = Queue.queue_codes p.set (remembered c) q in
      let l : length (code ++ rest) ≡ length code + length rest = length-append code rest in
      let n : w.queued + 1 + length q ≡ w.queued + suc (length q) = omega arith in
      let u : w.used + length code + length rest ≡ w.used + length (code ++ rest) = omega arith in
      let v : w.queued + 1 ≡ suc w.queued = omega arith in
      let h = r.numbers in
      let t = store_append code rest w.ring head w.used r.head_in (omega (arith, r.room)) in
      let m = paint_means p c (O.Name from w.queued) w.cells r.cells_enough (unfold Cells.nameable in lt-ltb w.queued 4294967296 (omega arith)) in
      rw (n, u, t, m, v)

  then_give_up : (w : Carrying) (es : List (Event Block)) → leb (pixel_count p) (length w.cells) ≡ true
      → carrying_then (repainted parent w) es ≡ carrying_then w (gives_up ∷ es)
  unfolding cells_after queued_by Cells.nameable
  then_give_up w es h = rw (paint_means p parent O.GiveUp w.cells h refl)

  module _ (turn : Block → Turned) where
    carried_turn_lem : (w : Carrying) (cs : List Block) (es : List Outcome)
        → ((v : Carrying) → Roomy v (queued_in p turn cs es) → carried_all p from turn head parent v cs es ≡ carrying_then v (turn_events turn cs es))
        → (t : Turned) → Roomy w (queued_by (turn_event t ∷ turn_events turn cs es))
        → carried_all p from turn head parent (carried_turn p from head parent w t) cs es ≡ carrying_then w (turn_event t ∷ turn_events turn cs es)
    unfolding queued_by
    carried_turn_lem w cs es rest (T.To c) r =
        ap (λ (v : Carrying). carried_all p from turn head parent v cs es) (queued_one_lem c w (queued_in p turn cs es) r)
        ∙ rest (queued_one c w) (roomy_next c w (queued_in p turn cs es) r)
        ∙ then_next c w (turn_events turn cs es) r
    carried_turn_lem w cs es rest T.Nowhere r =
        rest (repainted parent w) (record {
          head_in = r.head_in;
          room = r.room;
          numbers = r.numbers;
          cells_enough = rw (paint_length p parent O.GiveUp w.cells) r.cells_enough;
          known = r.known;
          ready = r.ready;
        })
        ∙ then_give_up w (turn_events turn cs es) r.cells_enough

    carried_none : (w : Carrying) → w ≡ carrying_then w []
    unfolding queued_by cells_after Queue.queue_codes Queue.memory stored
    carried_none w = rw (add-zero w.queued, add-zero w.used, codes_meanings w.cells)

    pub carried_is : (w : Carrying) (cs : List Block) (es : List Outcome) → Roomy w (queued_in p turn cs es)
        → carried_all p from turn head parent w cs es ≡ carrying_then w (turn_events turn cs es)
    unfolding carried_all turn_events queued_by
    carried_is w [] es r = carried_none w
    carried_is w (c ∷ cs) [] r = carried_none w
    carried_is w (c ∷ cs) (e ∷ es) r =
        cases (is_incomplete e)
        (λ t. rw t (carried_turn_lem w cs es (λ v. carried_is v cs es) (turn c) (rw t at r)))
        (λ t. rw t (carried_is w cs es (rw t at r)))
