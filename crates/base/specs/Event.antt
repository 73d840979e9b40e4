-- What a step does, child by child, in order.
use Rattle.std.specs.Prelude.{List, [], ◌∷◌}

-- a child's pixels are marked True; a child is queued; a child finds no direction
pub data Event (Block : Type 0) : Type 0 where
  marks : Block → Event Block
  queues : Block → Event Block
  gives_up : Event Block

-- the children that are queued, in order
unfoldable pub queued_by : {Block : Type 0} → List (Event Block) → List Block
queued_by [] = []
queued_by (marks c ∷ es) = queued_by es
queued_by (queues c ∷ es) = c ∷ queued_by es
queued_by (gives_up ∷ es) = queued_by es
