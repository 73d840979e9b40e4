-- Document 02, (ii): "the next number below" and "the next above". The 64 bits of a finite f64 are its sign and, below it, a whole number that grows with
-- its size, so that a step of that number is a step among the values: zeros step to the smallest number on the other side, and the largest number to the
-- infinity. proofs/Beside says what it means: the neighbour is strictly below (above), and no value of the format lies between.
use Rattle.std.specs.Prelude.{◌+◌, ◌-◌, false, cond, pos, from_bits, to_bits, Float}
use Rattle.std.specs.Float.{fin, binary64}
use Rattle.std.specs.Float.Ieee.{lt, neg}
use Rattle.std.specs.Float.Ieee.Scale.{finite}

-- zero
abbrev pub nought : Float
nought = fin false 0 (pos 0)

-- the next number below a finite one; a NaN and the infinities are left as they are
unfoldable pub next_below : Float → Float
next_below x =
    cond (finite x)
    (cond (lt nought x) (from_bits binary64 (to_bits binary64 x - 1))
    (cond (lt x nought) (from_bits binary64 (to_bits binary64 x + 1)) (from_bits binary64 0x8000_0000_0000_0001)))
    x

-- the mirror image
unfoldable pub next_above : Float → Float
next_above x = neg (next_below (neg x))
