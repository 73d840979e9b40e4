-- `float_of` meets its contract: a pattern that is a NaN's is read as one. Assumes nothing.
use Rattle.std.proofs.Common.{◌≡◌, ℕ, true, false, not, T, sym, ◌∙◌}
use lib.Ieee.{nan, binary64, nan_bits, of_bits}
use lib.Ieee.Bits.{nan_bits_is}
use Rattle.interval.proofs.BoundBits.{is_nan_lem}
use Rattle.interval.proofs.float_of.Goals as goal

read_nan : (w : ℕ) → nan_bits binary64 w ≡ true → nan ≡ of_bits binary64 w
read_nan w h = sym (is_nan_lem (of_bits binary64 w) (sym (nan_bits_is binary64 w) ∙ h))

is_number : (w : ℕ) → nan_bits binary64 w ≡ false → T (not (nan_bits binary64 w))
is_number w h = rw h tt

pub float_from_bits-result : goal.float_from_bits-result
float_from_bits-result c = is_number c.args.bits (sym c.is_nan_pattern.ensures ∙ c.if-is_nan_pattern.false)

pub returns-then-is_nan_pattern : goal.returns-then-is_nan_pattern
unfolding of_bits
returns-then-is_nan_pattern c = read_nan _ (sym c.is_nan_pattern.ensures ∙ c.if-is_nan_pattern.true)
