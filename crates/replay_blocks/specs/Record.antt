-- What stands in a record, and when two values have the same bits.
use Rattle.std.specs.Prelude.{Result, Ok, Err}
use Rattle.queue.specs.declared.QueueError.{QueueError}
use Rattle.std.specs.Prelude.{Bool, ◌&&◌, List, ℕ, ◌+◌, eqb, get_or, take, drop}
use Rattle.std.specs.Float.{binary64}
use Rattle.std.specs.Float.Ieee.{of_bits, to_bits}
use Rattle.base.specs.Bytes.{of_big_endian}
use Rattle.coordinate.specs.declared.Coordinate.{Coordinate}
use Rattle.interval.specs.declared.Interval.{Interval}
use Rattle.queue.specs.declared.Block.{Block}
use Rattle.queue.specs.declared.Last.{Last}
use Rattle.queue.specs.declared.Measured.{Measured}

-- the number in two bytes, and in eight, the higher first
abbrev pub number_at : List ℕ → ℕ → ℕ
number_at rec at = of_big_endian (take 2 (drop at rec))

abbrev pub word_at : List ℕ → ℕ → ℕ
word_at rec at = of_big_endian (take 8 (drop at rec))

-- bounds by their bit patterns
unfoldable pub interval_at : List ℕ → ℕ → Interval
interval_at rec at = record { lower = of_bits binary64 (word_at rec at); upper = of_bits binary64 (word_at rec (at + 8)) }

-- index and rank
unfoldable pub coordinate_at : List ℕ → ℕ → Coordinate
coordinate_at rec at = record { index = word_at rec at; rank = get_or rec (at + 8) 0 }

-- a block
unfoldable pub block_at : List ℕ → ℕ → Block
block_at rec at =
    record {
      x = coordinate_at rec at;
      y = coordinate_at rec (at + 9);
      m = interval_at rec (at + 18);
      n = interval_at rec (at + 34);
      theta = interval_at rec (at + 50);
      t = interval_at rec (at + 66);
      dir = get_or rec (at + 82) 0;
    }

-- what is remembered
unfoldable pub last_at : List ℕ → ℕ → Last
last_at rec at =
    record {
      x = word_at rec at;
      y = word_at rec (at + 8);
      m = interval_at rec (at + 16);
      n = interval_at rec (at + 32);
      theta = interval_at rec (at + 48);
      t = interval_at rec (at + 64);
    }

-- the same bits: zeros of either sign differ
abbrev pub same_bounds : Interval → Interval → Bool
same_bounds a b = eqb (to_bits binary64 a.lower) (to_bits binary64 b.lower) && eqb (to_bits binary64 a.upper) (to_bits binary64 b.upper)

abbrev pub same_place : Coordinate → Coordinate → Bool
same_place a b = eqb a.index b.index && eqb a.rank b.rank

unfoldable pub same_block : Block → Block → Bool
same_block a b =
    same_place a.x b.x && same_place a.y b.y && same_bounds a.m b.m && same_bounds a.n b.n && same_bounds a.theta b.theta
    && same_bounds a.t b.t && eqb a.dir b.dir

unfoldable pub same_last : Last → Last → Bool
same_last a b =
    eqb a.x b.x && eqb a.y b.y && same_bounds a.m b.m && same_bounds a.n b.n && same_bounds a.theta b.theta && same_bounds a.t b.t

-- the length of a code and what is remembered, or 65535 for a block that has none
abbrev pub same_measure : Result Measured QueueError → ℕ → Last → Bool
same_measure (Ok m) want memory = eqb m.count want && same_last m.last memory
same_measure (Err why) want memory = eqb want 65535
