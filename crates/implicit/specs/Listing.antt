-- The children of the front block, listed for the evaluator before it answers (added). It is refused as a step is, by 8 for the record, by 13,
-- and by 8 for the block, the last without a look at cells, since none are lent.
use Rattle.queue.specs.declared.QueueError.{QueueError}
use Rattle.std.specs.Prelude.{List, ℕ, ltb, length, Result, Ok, Err}
use Rattle.refusal.specs.declared.Refusal.{Refusal}
use Rattle.refusal.specs.declared.Refusal.TheVariants as R
use Rattle.queue.specs.declared.Block.{Block}
use Rattle.queue.specs.declared.Taken.{Taken}
use Rattle.queue.specs.Block.{whole_line}
use Rattle.queue.specs.Queue.{taken}
use Rattle.decide.specs.declared.Chosen.{Chosen}
use Rattle.decide.specs.declared.children.Children.{Children}
use Rattle.decide.specs.Damage.{undamaged}
use Rattle.decide.specs.Children.{children_of, listed}
use Rattle.implicit.specs.declared.state.State.{State}
use Rattle.implicit.specs.Record.{refused_unless, sound_record}

-- the front block, read from the bytes used and nothing else
abbrev pub front_of : State → List ℕ → Result Taken QueueError
front_of s ring = taken ring s.head s.used s.chosen.set s.front

-- a block for the places of an array that holds none: its ranks are 0, where those of `blank_block` of `queue` are of level 0
abbrev pub no_block : Block
no_block = record {
  x = record { index = 0; rank = 0 };
  y = record { index = 0; rank = 0 };
  m = whole_line;
  n = whole_line;
  theta = whole_line;
  t = whole_line;
  dir = 0;
}

-- the children of a block, unless it is damaged
unfoldable pub listed_block : Chosen → Block → Result Children Refusal
listed_block p b = refused_unless (Err R.Damaged) (undamaged p b) (Ok (listed b (children_of p b)))

-- the children of the block that was read
abbrev pub listed_from : State → Result Taken QueueError → Result Children Refusal
listed_from s (Err why) = Err R.Damaged
listed_from s (Ok t) = listed_block s.chosen t.block

-- THE LISTING
unfoldable pub children_listed : State → List ℕ → Result Children Refusal
children_listed s ring =
    refused_unless (Err R.Damaged) (sound_record (length ring) s)
    (refused_unless (Err R.Empty) (ltb s.taken s.queued) (listed_from s (front_of s ring)))
