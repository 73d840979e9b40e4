-- Exact values: fractions of whole numbers, their order and their arithmetic; and when an interval encloses one. A fraction need not be in lowest terms.
use Rattle.std.specs.Prelude.{ℕ, zero, suc, ◌*◌, ◌^◌, ◌<◌, not, ℤ, neg_ℤ, pos, ◌+ℤ◌, ◌*ℤ◌, T, Float}
use Rattle.std.proofs.Common.{mul-pos, zero-lt-suc, pow_pos}
use Rattle.std.specs.Int.Signed.{le_z}
use Rattle.std.specs.Float.{nan, inf, fin}
use Rattle.interval.specs.declared.Interval.{Interval}
use Rattle.interval.specs.Bounds.{in_units}

-- num / den
pub record Ratio : Type 0 where
  pub num : ℤ
  pub den : ℕ
  pub den_pos : 0 < den

-- a is at most b
infixl 4 ◌⊑◌
abbrev pub ◌⊑◌ : Ratio → Ratio → Type 0
a ⊑ b = T (le_z (a.num *ℤ pos b.den) (b.num *ℤ pos a.den))

-- a + b, -a, a - b, a b
abbrev pub sum_of : Ratio → Ratio → Ratio
sum_of a b =
    record { num = a.num *ℤ pos b.den +ℤ b.num *ℤ pos a.den; den = a.den * b.den; den_pos = mul-pos a.den_pos b.den_pos }

abbrev pub minus_of : Ratio → Ratio
minus_of a = record { num = neg_ℤ a.num; den = a.den; den_pos = a.den_pos }

abbrev pub difference_of : Ratio → Ratio → Ratio
difference_of a b = sum_of a (minus_of b)

abbrev pub product_of : Ratio → Ratio → Ratio
product_of a b = record { num = a.num *ℤ b.num; den = a.den * b.den; den_pos = mul-pos a.den_pos b.den_pos }

-- the whole number n, and 1 / n; of 1 / 0 nothing is asked
abbrev pub whole_ratio : ℕ → Ratio
whole_ratio n = record { num = pos n; den = 1; den_pos = zero-lt-suc 0 }

abbrev pub one_over : ℕ → Ratio
one_over zero = whole_ratio 0
one_over (suc n) = record { num = pos 1; den = suc n; den_pos = zero-lt-suc n }

-- so many units of 2^-1074: every finite f64 is a whole number of them
abbrev pub of_units : ℤ → Ratio
of_units z = record { num = z; den = 2 ^ 1074; den_pos = pow_pos 1074 }

-- a bound is not over the value; nothing lies below minus infinity, and a NaN bounds nothing
abbrev pub NotOver : Float → Ratio → Type 0
NotOver nan v = ⊥
NotOver (inf s) v = T s
NotOver (fin s m e) v = of_units (in_units (fin s m e)) ⊑ v

-- a bound is not under the value
abbrev pub NotUnder : Float → Ratio → Type 0
NotUnder nan v = ⊥
NotUnder (inf s) v = T (not s)
NotUnder (fin s m e) v = v ⊑ of_units (in_units (fin s m e))

-- the interval encloses the value
abbrev pub Encloses : Interval → Ratio → Type 0
Encloses x v = NotOver x.lower v × NotUnder x.upper v
