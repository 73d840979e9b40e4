-- Reading a block back from bytes: specs/Code.antt from the reader's side, total on any bytes. A head byte of 0,
-- bytes that end early, a level's byte that stands for none of the levels -32 to 15 and an illegal parameter are
-- damage; levels of x and y that differ, a place outside the picture and a direction that is not in use are not for
-- this crate to judge. Each part is read at the front of the bytes that are left.
use Rattle.std.specs.Prelude.{Bool, cond, ◌&&◌, List, [], ◌∷◌, ℕ, ◌+◌, ◌-◌, leb, ltb, eqb, length, get_or, take, drop, Option, Some, None, Result, Ok, Err}
use Rattle.std.specs.Int.Bits.{bit_xor}
use Rattle.base.specs.Bytes.{of_big_endian}
use Rattle.refusal.specs.declared.Refusal.{Refusal}
use Rattle.small.specs.declared.Number.{Number}
use Rattle.small.specs.Small.{read_small}
use Rattle.coordinate.specs.declared.Coordinate.{Coordinate}
use Rattle.interval.specs.declared.Interval.{Interval}
use Rattle.interval.specs.Bounds.{put_interval}
use Rattle.interval.specs.Answers.{answer_from_bits}
use Rattle.queue.specs.declared.Block.{Block}
use Rattle.queue.specs.declared.Last.{Last}
use Rattle.queue.specs.declared.directions.Direction.{Direction}
use Rattle.queue.specs.Directions.{in_use, parameters}
use Rattle.queue.specs.Block.{whole_line, is_integer, with_parameter, recalled}

-- the rank of a level's byte: 00 to 0F are the levels 0 to 15, E0 to FF the levels -32 to -1
abbrev pub level_of : ℕ → Option ℕ
level_of byte = cond (leb byte 15) (Some (byte + 48)) (cond (leb 224 byte) (Some (byte - 208)) None)

unfoldable pub level_read : List ℕ → Option ℕ
level_read s = cond (eqb (length s) 0) None (level_of (get_or s 0 0))

-- a coordinate: the small number xor the remembered index, then the level
abbrev pub coordinate_with : ℕ → ℕ → Option ℕ → Option (Coordinate × ℕ)
coordinate_with index count (Some rank) = Some (record { index = index; rank = rank }, count + 1)
coordinate_with index count None = None

unfoldable pub coordinate_of : ℕ → List ℕ → Result Number Refusal → Option (Coordinate × ℕ)
coordinate_of last s (Ok n) = coordinate_with (bit_xor last n.x) n.count (level_read (drop n.count s))
coordinate_of last s (Err why) = None

unfoldable pub coordinate_read : ℕ → List ℕ → Option (Coordinate × ℕ)
coordinate_read last s = coordinate_of last s (read_small s)

-- the bounds of a parameter from their 16 bytes
abbrev pub bounds_of : Result Interval Refusal → Option (Interval × ℕ)
bounds_of (Ok p) = Some (p, 16)
bounds_of (Err why) = None

unfoldable pub bounds_read : Bool → List ℕ → Option (Interval × ℕ)
bounds_read integer s =
    cond (leb 16 (length s)) (bounds_of (answer_from_bits (of_big_endian (take 8 s)) (of_big_endian (take 8 (drop 8 s))) integer))
    None

-- a used parameter: FF FF is the remembered one; an unused one is the whole line and took no byte. FF FF over an
-- illegal remembered interval is read as a block all the same: the record's own test refuses such a memory before a
-- block is taken.
unfoldable pub used_read : Bool → Interval → List ℕ → Option (Interval × ℕ)
used_read integer last s =
    cond (leb 2 (length s))
    (cond (eqb (get_or s 0 0) 255 && eqb (get_or s 1 0) 255) (Some (put_interval last, 2)) (bounds_read integer s))
    None

unfoldable pub parameter_read : Bool → Bool → Interval → List ℕ → Option (Interval × ℕ)
parameter_read used integer last s = cond used (used_read integer last s) (Some (whole_line, 0))

-- x and y: the rest of the block is to come
abbrev pub with_place : Coordinate → Coordinate → ℕ → Option (Block × ℕ)
with_place x y at =
    Some (record { x = x; y = y; m = whole_line; n = whole_line; theta = whole_line; t = whole_line; dir = 0 }, at)

abbrev pub with_y : Coordinate → ℕ → Option (Coordinate × ℕ) → Option (Block × ℕ)
with_y x count (Some (y, n)) = with_place x y (count + n)
with_y x count None = None

unfoldable pub with_x : Last → List ℕ → Option (Coordinate × ℕ) → Option (Block × ℕ)
with_x last s (Some (x, count)) = with_y x count (coordinate_read last.y (drop count s))
with_x last s None = None

unfoldable pub place_read : Last → List ℕ → Option (Block × ℕ)
place_read last s = with_x last s (coordinate_read last.x s)

-- what was read so far, with one parameter more
abbrev pub with_read : Block → Direction → ℕ → Option (Interval × ℕ) → Option (Block × ℕ)
with_read b d count (Some (p, n)) = Some (with_parameter b d p, count + n)
with_read b d count None = None

unfoldable pub add_parameter : ℕ → Last → List ℕ → Direction → Option (Block × ℕ) → Option (Block × ℕ)
add_parameter set last s d (Some (b, count)) =
    with_read b d count (parameter_read (in_use set d) (is_integer d) (recalled last d) (drop count s))
add_parameter set last s d None = None

-- these parameters, one after the other
unfoldable pub add_parameters : ℕ → Last → List ℕ → List Direction → Option (Block × ℕ) → Option (Block × ℕ)
add_parameters set last s [] r = r
add_parameters set last s (d ∷ ds) r = add_parameters set last s ds (add_parameter set last s d r)

unfoldable pub add_direction : List ℕ → Option (Block × ℕ) → Option (Block × ℕ)
add_direction s (Some (b, count)) =
    cond (ltb count (length s))
    (Some (record { x = b.x; y = b.y; m = b.m; n = b.n; theta = b.theta; t = b.t; dir = get_or s count 0 }, count + 1))
    None
add_direction s None = None

-- the parameters and the direction, behind x and y
abbrev pub rest_read : ℕ → Last → List ℕ → Option (Block × ℕ) → Option (Block × ℕ)
rest_read set last s r = add_direction s (add_parameters set last s parameters r)

-- the block at the front of some bytes, and how many bytes its code takes
unfoldable pub decode : ℕ → Last → List ℕ → Option (Block × ℕ)
decode set last s = rest_read set last s (place_read last s)
