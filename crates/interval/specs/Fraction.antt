-- Document 01, the paragraph on `simple_fraction`: a number between the bounds, made from the bit pattern of one of them.
-- It may be -0 and it may be infinite.
use Rattle.std.specs.Prelude.{ℕ, ◌-◌, ◌*◌, ◌/◌, ◌^◌, false, cond, pos, ◌==◌, bit_xor, from_bits, to_bits, Float}
use Rattle.std.specs.Int.Count.{count_leading_zeros}
use Rattle.std.specs.Float.{fin, binary64}
use Rattle.std.specs.Float.Ieee.{le}

-- how many leading bits two patterns of 64 share
abbrev pub shared_bits : ℕ → ℕ → ℕ
shared_bits a b = count_leading_zeros 64 (bit_xor a b)

-- the first n + 1 of 64 bits, the others 0
abbrev pub top_bits : ℕ → ℕ → ℕ
top_bits n w = w / 2 ^ (63 - n) * 2 ^ (63 - n)

-- equal patterns: the lower bound; else the shared bits and one more, of the lower bound where it is not above zero, else of the upper
unfoldable pub simple_fraction : Float → Float → Float
simple_fraction x y =
    let a = to_bits binary64 x in
    let b = to_bits binary64 y in
    let n = shared_bits a b in
    cond (n == 64) x (from_bits binary64 (top_bits n (cond (le x (fin false 0 (pos 0))) a b)))
