-- Document 01, "The queue's bytes", first paragraph: the bytes of a block against the remembered values.
--
--   x index xor the remembered one, a small number     1 to 8 bytes
--   x level, two's complement                          1 byte
--   y likewise
-- each used parameter of m, n, n_theta, t            FF FF, the remembered one again; or 16 bytes, lower then
-- upper, big-endian
--   direction                                          1 byte
use Rattle.std.specs.Prelude.{Bool, not, cond, ◌&&◌, ◌||◌, List, [], ◌∷◌, ◌++◌, ℕ, ◌+◌, ◌-◌, ◌^◌, ltb}
use Rattle.std.specs.Int.Bits.{bit_xor}
use Rattle.std.specs.Float.{binary64}
use Rattle.std.specs.Float.Ieee.{to_bits}
use Rattle.base.specs.Bytes.{big_endian}
use Rattle.small.specs.Small.{small_code}
use Rattle.coordinate.specs.declared.Coordinate.{Coordinate}
use Rattle.coordinate.specs.Axis.{ordinary_floor}
use Rattle.coordinate.specs.Lone.{legal}
use Rattle.interval.specs.declared.Interval.{Interval}
use Rattle.interval.specs.Bounds.{legal_interval, same_interval}
use Rattle.queue.specs.declared.Block.{Block}
use Rattle.queue.specs.declared.Last.{Last}
use Rattle.queue.specs.declared.directions.Direction.{Direction}
use Rattle.queue.specs.declared.directions.Direction.TheVariants as D
use Rattle.queue.specs.Directions.{in_use, parameters}
use Rattle.queue.specs.Block.{is_integer, parameter_of, recalled}

-- the byte of a level, which is the rank less 48: a negative one stands 256 higher
abbrev pub level_byte : ℕ → ℕ
level_byte rank = cond (ltb rank 48) (rank + 208) (rank - 48)

-- a coordinate: what its index differs by from the remembered one, then its level
unfoldable pub coordinate_code : ℕ → Coordinate → List ℕ
coordinate_code last c = small_code (bit_xor c.index last) ++ (level_byte c.rank ∷ [])

-- an interval spelled out: the patterns of its bounds, the highest byte first
unfoldable pub bounds_code : Interval → List ℕ
bounds_code p = big_endian 8 (to_bits binary64 p.lower) ++ big_endian 8 (to_bits binary64 p.upper)

-- a parameter: two bytes FF if it is the remembered one again, else spelled out; an unused one takes no byte
unfoldable pub parameter_code : Bool → Interval → Interval → List ℕ
parameter_code used last p = cond used (cond (same_interval p last) (255 ∷ 255 ∷ []) (bounds_code p)) []

-- these parameters of a block, one after the other
unfoldable pub parameters_code : ℕ → Last → Block → List Direction → List ℕ
parameters_code set last b [] = []
parameters_code set last b (d ∷ ds) =
    parameter_code (in_use set d) (recalled last d) (parameter_of b d) ++ parameters_code set last b ds

-- x and y, which every block has, used or not
unfoldable pub place_code : Last → Block → List ℕ
place_code last b = coordinate_code last.x b.x ++ coordinate_code last.y b.y

-- the block's bytes
unfoldable pub encode : ℕ → Last → Block → List ℕ
encode set last b = place_code last b ++ (parameters_code set last b parameters ++ (b.dir ∷ []))

-- a used parameter is legal
abbrev pub legal_if_used : ℕ → Direction → Interval → Bool
legal_if_used set d p = not (in_use set d) || legal_interval p (is_integer d)

-- all of them are
abbrev pub parameters_legal : ℕ → Interval → Interval → Interval → Interval → Bool
parameters_legal set m n theta t =
    legal_if_used set D.M m && legal_if_used set D.N n && legal_if_used set D.Theta theta && legal_if_used set D.T t

-- what can be queued: coordinates in the ranges for index and level, used parameters legal
unfoldable pub can_queue : ℕ → Block → Bool
can_queue set b =
    legal ordinary_floor b.x && legal ordinary_floor b.y && parameters_legal set b.m b.n b.theta b.t

-- remembered indices stay under 2^47 as all do
unfoldable pub indices_known : Last → Bool
indices_known last = ltb last.x (2 ^ 47) && ltb last.y (2 ^ 47)
