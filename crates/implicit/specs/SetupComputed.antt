-- The first blocks one by one, as private functions compute them without a list: how many there are, which is the i-th, and what is remembered and used
-- once one is queued. The laws say that these are the setup's first blocks.
-- The pieces of t change fastest, then those of n_theta, then n, then m.
use Rattle.std.specs.Prelude.{cond, Result, Ok, ℕ, ◌+◌, ◌*◌, ◌/◌, ◌%◌, length, get_or}
use Rattle.refusal.specs.declared.Refusal.{Refusal}
use Rattle.interval.specs.declared.Interval.{Interval}
use Rattle.interval.specs.declared.Pieces.{Pieces}
use Rattle.interval.specs.declared.Pieces.TheVariants as C
use Rattle.interval.specs.Bounds.{legal_interval, put_interval}
use Rattle.interval.specs.Cuts.{first_cut}
use Rattle.interval.specs.Answers.{pieces_at, pieces_of}
use Rattle.queue.specs.declared.Block.{Block}
use Rattle.queue.specs.declared.directions.Direction.{Direction}
use Rattle.queue.specs.declared.directions.Direction.TheVariants as D
use Rattle.queue.specs.Directions.{in_use}
use Rattle.queue.specs.Block.{whole_line, is_integer, with_parameter, remembered, starting_last}
use Rattle.queue.specs.Code.{encode}
use Rattle.queue.specs.Queue.{memory}
use Rattle.decide.specs.declared.Chosen.{Chosen}
use Rattle.implicit.specs.declared.state.Ranges.{Ranges}
use Rattle.implicit.specs.declared.first.Product.{Product}
use Rattle.implicit.specs.declared.first.Picked.{Picked}
use Rattle.implicit.specs.declared.first.Behind.{Behind}
use Rattle.implicit.specs.Setup.{root_block, first_blocks, first_bytes}

-- the pieces of a parameter's range; the whole line alone where it is not used
unfoldable pub pieces_kept : ℕ → Direction → Interval → Result Pieces Refusal
pieces_kept set d r = cond (in_use set d) (pieces_at (legal_interval r (is_integer d)) (first_cut (put_interval r) (is_integer d))) (Ok (C.One whole_line))

-- the whole block, and the pieces of each parameter
unfoldable pub product_of : Chosen → Ranges → Product
product_of p r = record {
  root = root_block p r;
  m = pieces_kept p.set D.M r.m;
  n = pieces_kept p.set D.N r.n;
  theta = pieces_kept p.set D.Theta r.theta;
  t = pieces_kept p.set D.T r.t;
}

-- how many pieces, and the j-th
abbrev pub piece_count : Result Pieces Refusal → ℕ
piece_count c = length (pieces_of c)

abbrev pub piece_at : Result Pieces Refusal → ℕ → Interval
piece_at c j = get_or (pieces_of c) j whole_line

-- how many blocks
unfoldable pub product_count : Product → ℕ
product_count f = piece_count f.m * piece_count f.n * piece_count f.theta * piece_count f.t

-- a parameter's piece chosen by the number that is left, and that number divided by the count of the pieces
abbrev pub picked_by : Direction → Result Pieces Refusal → Picked → Picked
picked_by d c k = record { block = with_parameter k.block d (piece_at c (k.left % piece_count c)); left = k.left / piece_count c }

-- the i-th block
unfoldable pub product_at : Product → ℕ → Block
product_at f i = (picked_by D.M f.m (picked_by D.N f.n (picked_by D.Theta f.theta (picked_by D.T f.t (record { block = f.root; left = i }))))).block

-- what is remembered, and how many bytes are used, once a block's code stands behind those used before
unfoldable pub behind_with : ℕ → Behind → Block → Behind
behind_with set k b = record { back = remembered b; used = k.used + length (encode set k.back b) }

-- the same once all first blocks are queued
unfoldable pub behind_first : Chosen → Ranges → Behind
behind_first p r = record { back = memory starting_last (first_blocks p r); used = length (first_bytes p r) }
