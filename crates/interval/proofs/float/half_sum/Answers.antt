-- `float::half_sum` meets its contract, by the sum where that is finite and by the halves where it is not. Assumes nothing.
use Rattle.std.proofs.Common.{Bool, not, T, sym, ◌∙◌, subst}
use lib.Ieee.{binary64, fits, add}
use lib.Ieee.Scale.{finite}
use denote.Floats.{passes}
use Rattle.interval.proofs.HalfSum.{by_the_sum, by_the_halves}
use Rattle.interval.proofs.float.half_sum.Goals as goal

pub returns-then-is_finite : goal.returns-then-is_finite
returns-then-is_finite c =
    let a = c.args.a in
    let b = c.args.b in
    c.plus_zero.ensures
    ∙ by_the_sum a b (passes (fits binary64 a) c.well_formed.0.1) (passes (fits binary64 b) c.well_formed.1.0.1) c.requires
    (passes (finite (add binary64 a b)) (sym c.is_finite.ensures ∙ c.if-is_finite.true))

pub returns-else-is_finite : goal.returns-else-is_finite
returns-else-is_finite c =
    let a = c.args.a in
    let b = c.args.b in
    c.plus_zero-else-is_finite.ensures
    ∙ by_the_halves a b (passes (fits binary64 a) c.well_formed.0.1) (passes (fits binary64 b) c.well_formed.1.0.1) c.requires
    (subst (λ (z : Bool). T (not z)) (sym (sym c.is_finite.ensures ∙ c.if-is_finite.false)) tt)
