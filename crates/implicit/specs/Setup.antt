-- Document 01, the setup, with its refusals 1, 2, 3 and 6 in this order.
use Rattle.std.specs.Prelude.{Bool, cond, ◌&&◌, List, [], ◌∷◌, ◌++◌, map, ℕ, zero, suc, ◌+◌, ◌-◌, ◌^◌, max, leb, length, Result, Ok, Err}
use Rattle.refusal.specs.declared.Refusal.TheVariants as R
use Rattle.refusal.specs.declared.Refusal.{Refusal}
use Rattle.interval.specs.Cuts.{first_cut}
use Rattle.image.specs.declared.Op.TheVariants as Op
use Rattle.image.specs.Range.{whole_picture}
use Rattle.image.specs.Painting.{painted_cells}
use Rattle.queue.specs.declared.Block.{Block}
use Rattle.queue.specs.declared.directions.Direction.{Direction}
use Rattle.queue.specs.declared.directions.Direction.TheVariants as D
use Rattle.queue.specs.Directions.{in_use, parameters}
use Rattle.queue.specs.Block.{is_integer, parameter_of, with_parameter, as_queued_at, starting_last}
use Rattle.decide.specs.declared.Chosen.{Chosen}
use Rattle.decide.specs.Damage.{legal_side, legal_set}
use Rattle.implicit.specs.declared.state.State.{State}
use Rattle.implicit.specs.declared.state.Ranges.{Ranges}
use Rattle.queue.specs.Code.{parameters_legal}
use Rattle.queue.specs.Ring.{stored}
use Rattle.queue.specs.Queue as Queue
use Rattle.implicit.specs.Record.{refused_unless, pixel_count}

-- the start level: the least at which one block covers both sides. Here the least from k on, of n tries
unfoldable pub least_from : ℕ → ℕ → ℕ → ℕ
least_from zero k side = k
least_from (suc n) k side = cond (leb side (2 ^ k)) k (least_from n (k + 1) side)

unfoldable pub start_level : Chosen → ℕ
start_level p = least_from 15 0 (max p.width p.height)

-- the block at the origin: a used range with its zeros put, and the whole line for one that is not used
unfoldable pub root_block : Chosen → Ranges → Block
root_block p r = record {
  x = record { index = 0; rank = 48 + start_level p };
  y = record { index = 0; rank = 48 + start_level p };
  m = as_queued_at (in_use p.set D.M) r.m;
  n = as_queued_at (in_use p.set D.N) r.n;
  theta = as_queued_at (in_use p.set D.Theta) r.theta;
  t = as_queued_at (in_use p.set D.T) r.t;
  dir = 0;
}

-- each block of a list, cut first along a parameter
unfoldable pub each_cut_first : Direction → List Block → List Block
each_cut_first d [] = []
each_cut_first d (b ∷ l) = map (with_parameter b d) (first_cut (parameter_of b d) (is_integer d)) ++ each_cut_first d l

-- all blocks cut first along each of these parameters that is used
unfoldable pub cut_first_in : ℕ → List Direction → List Block → List Block
cut_first_in set [] l = l
cut_first_in set (d ∷ ds) l = cut_first_in set ds (cond (in_use set d) (each_cut_first d l) l)

-- the first blocks, in the order in which they are queued
unfoldable pub first_blocks : Chosen → Ranges → List Block
first_blocks p r = cut_first_in p.set parameters (root_block p r ∷ [])

-- what row 3 does not refuse: a set of known variables, and an interval for each parameter in it
unfoldable pub ranges_legal : ℕ → Ranges → Bool
ranges_legal set r = legal_set set && parameters_legal set r.m r.n r.theta r.t

-- the first blocks' codes, from byte 0
unfoldable pub first_bytes : Chosen → Ranges → List ℕ
first_bytes p r = Queue.queue_codes p.set starting_last (first_blocks p r)

-- the first refusal that applies, if any, to a ring of len bytes and count cells
unfoldable pub setup_refusal : Chosen → Ranges → ℕ → ℕ → Result (Unit {0}) Refusal
setup_refusal p r len count =
    refused_unless (Err R.Side) (legal_side p.width && legal_side p.height)
    (refused_unless (Err R.Cells) (leb (pixel_count p) count)
    (refused_unless (Err R.Parameter) (ranges_legal p.set r)
    (refused_unless (Err R.Room) (leb (length (first_bytes p r)) len) (Ok tt))))

-- the least ring with which a setup begins, asked before there are a ring and cells: of its refusals 1 and 3 are left
unfoldable pub least_ring : Chosen → Ranges → Result ℕ Refusal
least_ring p r =
    refused_unless (Err R.Side) (legal_side p.width && legal_side p.height)
    (refused_unless (Err R.Parameter) (ranges_legal p.set r) (Ok (length (first_bytes p r))))

-- the record that an accepted setup leaves
unfoldable pub start_record : Chosen → Ranges → ℕ → State
start_record p r len = record {
  chosen = p;
  taken = 0;
  queued = length (first_blocks p r);
  len = len;
  head = 0;
  used = length (first_bytes p r);
  front = starting_last;
  back = Queue.memory starting_last (first_blocks p r);
}

-- the ring that it leaves, with the codes from byte 0 on, and the cells, every pixel's naming the last block
unfoldable pub start_ring : Chosen → Ranges → List ℕ → List ℕ
start_ring p r ring = stored ring 0 (first_bytes p r)

unfoldable pub start_cells : Chosen → Ranges → List ℕ → List ℕ
start_cells p r cells = painted_cells p.width p.height (whole_picture p.width p.height) (Op.Fill (length (first_blocks p r) - 1)) cells

-- what was chosen, with the reserved bytes 0: what a setup keeps of it
abbrev pub cleared : Chosen → Chosen
cleared p = record { width = p.width; height = p.height; set = p.set; reserved1 = 0; reserved2 = 0; reserved3 = 0 }

-- THE SETUP: what it answers, and the ring and the cells afterwards, of which a refusal changes nothing
abbrev pub started_by : Result (Unit {0}) Refusal → State → Result State Refusal
started_by (Ok u) s = Ok s
started_by (Err why) s = Err why

abbrev pub if_begun : Result (Unit {0}) Refusal → List ℕ → List ℕ → List ℕ
if_begun (Ok u) after before = after
if_begun (Err why) after before = before

unfoldable pub setup_answer : Chosen → Ranges → ℕ → ℕ → Result State Refusal
setup_answer p r len count = started_by (setup_refusal p r len count) (start_record p r len)

unfoldable pub ring_begun : Chosen → Ranges → List ℕ → List ℕ → List ℕ
ring_begun p r ring cells = if_begun (setup_refusal p r (length ring) (length cells)) (start_ring p r ring) ring

unfoldable pub cells_begun : Chosen → Ranges → List ℕ → List ℕ → List ℕ
cells_begun p r ring cells = if_begun (setup_refusal p r (length ring) (length cells)) (start_cells p r cells) cells
