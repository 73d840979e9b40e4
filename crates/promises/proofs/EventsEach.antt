-- What holds of each child of a block, whatever its direction, holds of each block that the step marks or queues. Assumes nothing.
use Rattle.std.specs.Prelude.{Option, Some, None}
use mathlib.Core.List.{List, [], ◌∷◌}
use Prim.Native.Nat.{ℕ}
use Rattle.base.proofs.Test.{by_test}
use Rattle.base.specs.Event.{Event, marks, queues, gives_up, queued_by}
use Rattle.base.specs.Lists.{Every}
use Rattle.queue.specs.declared.Block.{Block}
use Rattle.decide.specs.declared.Chosen.{Chosen}
use Rattle.decide.specs.declared.verdict.Outcome.{Outcome}
use Rattle.decide.specs.Verdict.{is_marking, is_incomplete}
use Rattle.decide.specs.Turn.{searched, start_of, turned_to, turned_by, turned}
use Rattle.plan.specs.Plan.{incomplete_count, mark_events, turn_event, turn_events, events_for}
use Rattle.plan.proofs.EventLaws.{EachEvent, event_append}

-- of each that is queued
pub queued_each : (P : Block → Type 0) (es : List (Event Block)) → EachEvent P es → Every P (queued_by es)
unfolding queued_by
queued_each P [] h = tt
queued_each P (marks c ∷ es) h = queued_each P es h.1
queued_each P (queues c ∷ es) h = (h.0, queued_each P es h.1)
queued_each P (gives_up ∷ es) h = queued_each P es h

module _ (P : Block → Type 0) (keeps : (c : Block) (d : ℕ) → P c → P (turned_to c d)) (p : Chosen) (b : Block) where
  marked_each : (cs : List Block) (os : List Outcome) → Every P cs → EachEvent P (mark_events cs os)
  unfolding mark_events
  marked_each [] os h = tt
  marked_each (c ∷ cs) [] h = tt
  marked_each (c ∷ cs) (o ∷ os) h =
      by_test (EachEvent P) (is_marking o) (marks c ∷ mark_events cs os) (mark_events cs os) (λ e. (h.0, marked_each cs os h.1)) (λ e. marked_each cs os h.1)

  one_turned : (c : Block) (f : Option ℕ) (es : List (Event Block)) → P c → EachEvent P es → EachEvent P (turn_event (turned_by c f) ∷ es)
  one_turned c (Some d) es h k = (keeps c d h, k)
  one_turned c None es h k = k

  turned_each : (n : ℕ) (cs : List Block) (os : List Outcome) → Every P cs → EachEvent P (turn_events (turned p b n) cs os)
  unfolding turn_events turned
  turned_each n [] os h = tt
  turned_each n (c ∷ cs) [] h = tt
  turned_each n (c ∷ cs) (o ∷ os) h =
      let rest = turn_events (turned p b n) cs os in
      by_test (EachEvent P) (is_incomplete o) (turn_event (turned p b n c) ∷ rest) rest
      (λ e. one_turned c (searched p c (start_of p b n)) rest h.0 (turned_each n cs os h.1)) (λ e. turned_each n cs os h.1)

  pub events_each : (cs : List Block) (os : List Outcome) → Every P cs → EachEvent P (events_for p b cs os)
  unfolding events_for
  events_each cs os h =
      event_append P (mark_events cs os) (turn_events (turned p b (incomplete_count os)) cs os) (marked_each cs os h) (turned_each (incomplete_count os) cs os h)
