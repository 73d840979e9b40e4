-- Document 01, "Program and values": the sheet, packed most significant first; and 14, the sheets that the program does not take.
--
--   byte       holds
--   0, 1       width
--   2, 3       height
--   4          uses x y m n n_theta t, six bits from the top; then two bits that are zero
--   5 to 8     budget
--   9 on       for each used parameter of m, n, n_theta, t 16 bytes: the bits of its lower and of its upper bound
--   the rest   tape
use Rattle.std.specs.Prelude.{Bool, cond, not, ◌&&◌, List, ℕ, ◌+◌, ◌*◌, ◌/◌, ◌%◌, leb, ltb, eqb, length, get_or, take, drop}
use Rattle.std.specs.Float.{binary64}
use Rattle.std.specs.Float.Ieee.{of_bits}
use Rattle.base.specs.Bytes.{of_big_endian}
use Rattle.interval.specs.declared.Interval.{Interval}
use Rattle.queue.specs.declared.directions.Direction.{Direction}
use Rattle.queue.specs.declared.directions.Direction.TheVariants as D
use Rattle.queue.specs.Directions.{in_use}
use Rattle.queue.specs.Block.{whole_line}
use Rattle.decide.specs.Damage.{legal_side}
use Rattle.implicit.specs.declared.state.Ranges.{Ranges}
use Rattle.sheet.specs.declared.head.Order.{Order}

-- the number in so many bytes of a sheet, from one on
unfoldable pub number_in : List ℕ → ℕ → ℕ → ℕ
number_in s at count = of_big_endian (take count (drop at s))

-- the variable set, and what follows it in its byte
abbrev pub sheet_set : List ℕ → ℕ
sheet_set s = get_or s 4 0 / 4

abbrev pub zero_bits : List ℕ → ℕ
zero_bits s = get_or s 4 0 % 4

-- the bytes of a parameter's range, if it is used
abbrev pub range_bytes : ℕ → Direction → ℕ
range_bytes set d = cond (in_use set d) 16 0

-- places in a sheet
pub record Places : Type 0 where
  pub n : ℕ
  pub theta : ℕ
  pub t : ℕ
  pub tape : ℕ

-- where the ranges of n, n_theta and t stand, and the tape; that of m stands at byte 9
unfoldable pub places_in : ℕ → Places
places_in set =
    let n = 9 + range_bytes set D.M in
    let theta = n + range_bytes set D.N in
    let t = theta + range_bytes set D.Theta in
    record { n = n; theta = theta; t = t; tape = t + range_bytes set D.T }

-- the bounds whose bits stand there, legal or not
unfoldable pub bounds_in : List ℕ → ℕ → Interval
bounds_in s at = record { lower = of_bits binary64 (number_in s at 8); upper = of_bits binary64 (number_in s (at + 8) 8) }

-- a parameter's range; one that is not used has none, and setup does not look at it
unfoldable pub range_in : List ℕ → ℕ → Direction → ℕ → Interval
range_in s set d at = cond (in_use set d) (bounds_in s at) whole_line

-- the ranges of all four
unfoldable pub ranges_in : List ℕ → ℕ → Ranges
ranges_in s set = record {
  m = range_in s set D.M 9;
  n = range_in s set D.N (places_in set).n;
  theta = range_in s set D.Theta (places_in set).theta;
  t = range_in s set D.T (places_in set).t;
}

-- what a sheet asks for: sides, variable set, budget, ranges, and where its tape begins
unfoldable pub order_in : List ℕ → Order
order_in s = record {
  chosen = record { width = number_in s 0 2; height = number_in s 2 2; set = sheet_set s; reserved1 = 0; reserved2 = 0; reserved3 = 0 };
  budget = number_in s 5 4;
  ranges = ranges_in s (sheet_set s);
  tape = (places_in (sheet_set s)).tape;
}

-- each side is one that setup takes, but together they have more pixels than the program draws
abbrev pub too_large : ℕ → ℕ → Bool
too_large width height = legal_side width && legal_side height && ltb 4096 (width * height)

-- not 14: all of the head is there (it ends where the tape begins), its two spare bits are clear, the sheet fits the program's buffer, and the picture is not too large
unfoldable pub taken_sheet : List ℕ → Bool
taken_sheet s =
    leb (places_in (sheet_set s)).tape (length s) && eqb (zero_bits s) 0 && leb (length s) 16384
    && not (too_large (number_in s 0 2) (number_in s 2 2))
