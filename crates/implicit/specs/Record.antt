-- Document 01, the list of what damages a record, each clause as the test that an undamaged one passes; and what a record says of its pixels.
use Rattle.std.specs.Prelude.{Bool, true, false, ◌&&◌, ℕ, ◌*◌, ◌^◌, leb, ltb, eqb, List}
use Rattle.std.specs.Bool.{beq}
pub use Rattle.refusal.specs.Number.{refused_unless}
use Rattle.interval.specs.Bounds.{legal_interval, put_interval}
use Rattle.image.specs.Cell.{Cell, meanings}
use Rattle.image.specs.Range.{whole_picture}
use Rattle.image.specs.Painting.{held_cells}
use Rattle.queue.specs.declared.Last.{Last}
use Rattle.decide.specs.declared.Chosen.{Chosen}
use Rattle.decide.specs.Damage.{legal_chosen}
use Rattle.implicit.specs.declared.state.State.{State}

-- how many pixels the picture has
abbrev pub pixel_count : Chosen → ℕ
pixel_count p = p.width * p.height

-- the cells of the pixels, rows from the top; those beyond are never looked at
abbrev pub pixel_cells : Chosen → List ℕ → List Cell
pixel_cells p l = held_cells p.width (whole_picture p.width p.height) (meanings l)

-- what is remembered of a block: both indices in their range, all four intervals legal, also those of parameters that are not used
unfoldable pub sound_last : Last → Bool
sound_last l =
    ltb l.x (2 ^ 47) && ltb l.y (2 ^ 47)
    && legal_interval l.m true && legal_interval l.n true && legal_interval l.theta true && legal_interval l.t false

-- no more taken than queued, no more queued than there are numbers
abbrev pub sound_counts : State → Bool
sound_counts s = leb s.taken s.queued && leb s.queued (2 ^ 32)

-- the length is that of the lent ring, of len bytes; the head lies in it, and the bytes used fit
abbrev pub sound_ring : ℕ → State → Bool
sound_ring len s = eqb s.len len && ltb s.head len && leb s.used len

-- no byte is used exactly if no block is left
abbrev pub sound_use : State → Bool
sound_use s = beq (eqb s.used 0) (eqb s.taken s.queued)

-- the record is not damaged
unfoldable pub sound_record : ℕ → State → Bool
sound_record len s =
    legal_chosen s.chosen && sound_counts s && sound_ring len s && sound_use s && sound_last s.front && sound_last s.back

-- the queue is empty: no block is left, and no byte
abbrev pub queue_empty : State → Bool
queue_empty s = eqb s.taken s.queued && eqb s.used 0

-- remembered values with their zeros put
unfoldable pub put_last : Last → Last
put_last l = record {
  x = l.x;
  y = l.y;
  m = put_interval l.m;
  n = put_interval l.n;
  theta = put_interval l.theta;
  t = put_interval l.t;
}
