-- `float::next_below` meets its contract. Assumes nothing.
use Rattle.std.proofs.Common.{T, sym, ◌∙◌, arith}
use lib.Ieee.{binary64, fits, nan_bits, of_bits}
use lib.Ieee.Scale.{finite}
use denote.Floats.{passes}
use Rattle.base.proofs.Test.{≡→T}
use Rattle.interval.proofs.NextBelow.{finite_number, next_itself, next_plus, next_minus, next_nought, bits_minus, bits_plus}
use Rattle.interval.proofs.float.next_below.Lts
use Rattle.interval.proofs.float.next_below.Reads
use Rattle.interval.proofs.float.next_below.Tie
use Rattle.interval.proofs.float.next_below.Goals as goal

abbrev start : Lts.Else1 Tie.the-claims Reads.Pre Reads.Post → Lts.Start Tie.the-claims Reads.Pre Reads.Post
start c = c.before.before

held : (c : Lts.Else1 Tie.the-claims Reads.Pre Reads.Post) → T (fits binary64 (start c).args.x)
held c = passes (fits binary64 (start c).args.x) (start c).well_formed.0.1

number : (c : Lts.Else1 Tie.the-claims Reads.Pre Reads.Post) → T (finite (start c).args.x)
number c = ≡→T (sym c.is_finite.ensures ∙ c.if-not-is_finite.false)

pub returns-then-not-is_finite : goal.returns-then-not-is_finite
returns-then-not-is_finite c = next_itself c.args.x (sym c.is_finite.ensures ∙ c.if-not-is_finite.true)

pub float_to_bits-result : goal.float_to_bits-result
float_to_bits-result c = finite_number (start c.before).args.x (number c.before)

pub overflow_sub-result : goal.overflow_sub-result
unfolding of_bits
overflow_sub-result c = (bits_minus (start c.before).args.x (held c.before) (number c.before) c.if-x.true).0

pub float_from_bits-result : goal.float_from_bits-result
unfolding of_bits
float_from_bits-result c = (bits_minus (start c.before).args.x (held c.before) (number c.before) c.if-x.true).1

pub float_to_bits-result-then-x-2 : goal.float_to_bits-result-then-x-2
float_to_bits-result-then-x-2 c = finite_number (start c.before.before).args.x (number c.before.before)

pub overflow_add-result : goal.overflow_add-result
unfolding of_bits
overflow_add-result c = omega (arith, (bits_plus (start c.before.before).args.x (held c.before.before) (number c.before.before) c.if-x-2.true).0)

pub float_from_bits-result-then-x-2 : goal.float_from_bits-result-then-x-2
unfolding of_bits
float_from_bits-result-then-x-2 c = (bits_plus (start c.before.before).args.x (held c.before.before) (number c.before.before) c.if-x-2.true).1

pub returns-then-x : goal.returns-then-x
unfolding of_bits
returns-then-x c = (next_plus (start c.before).args.x (held c.before) (number c.before) c.if-x.true).0

pub returns-then-x-2 : goal.returns-then-x-2
unfolding of_bits
returns-then-x-2 c =
    (next_minus (start c.before.before).args.x (held c.before.before) (number c.before.before) c.if-x.false c.if-x-2.true).0

pub returns-else-x-2 : goal.returns-else-x-2
unfolding of_bits
returns-else-x-2 c =
    (next_nought (start c.before.before).args.x (held c.before.before) (number c.before.before) c.if-x.false c.if-x-2.false).0

pub float_from_bits-result-else-x-2 : goal.float_from_bits-result-else-x-2
unfolding nan_bits
float_from_bits-result-else-x-2 c = tt
