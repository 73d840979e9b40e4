-- The enclosure laws: for all exact a in x and b in y, the exact result lies in the operation's answer; x and y are any two intervals of the format. Assumes
-- nothing.
use mathlib.Core.Path.{◌≡◌, refl, sym, ap, ◌∙◌, subst}
use Prim.Native.Nat.{ℕ, zero, suc, ◌*◌, ◌^◌, ◌≤◌}
use native.Mathlib.Nat.{mul_comm, mul-pos, zero-lt-suc, lt_irrefl, lt_of_lt_of_le}
use lib.Pow.{pow_pos}
use mathlib.Core.Bool.{Bool, true, false, not, ◌&&◌}
use lib.IntN.{ℤ, pos, negsuc, ◌+ℤ◌, ◌*ℤ◌}
use lib.Signed.{lt_z}
use lib.Dec.{T, leb→le}
use lib.Ieee.{Float, nan, inf, fin, binary64, lt, neg, add, mul, div, fits}
use lib.Ieee.Fits.{add-fits, mul-fits, div-fits}
use lib.Ieee.Fits as F
use lib.Ieee.Scale.{finite}
use Rattle.base.proofs.Test.{≡→T, cases, cond_yes, cond_no, and_left, and_right}
use Rattle.interval.specs.declared.Interval.{Interval}
use Rattle.interval.specs.Bounds.{InFormat, whole_line, in_units}
use Rattle.interval.specs.Next.{nought}
use Rattle.interval.proofs.Compare.{lt_units}
use Rattle.interval.proofs.CutUpTo.{nought_fits}
use Rattle.interval.proofs.Beside.{neg_units}
use Rattle.boxes.specs.Ratios.{Ratio, ◌⊑◌, sum_of, minus_of, difference_of, product_of, whole_ratio, one_over, of_units, NotOver, NotUnder, Encloses}
use Rattle.boxes.specs.Arithmetic.{finite_bounds, corners, plus, negative, minus, times, over}
use Rattle.boxes.proofs.Integers.{no_cross, times_times, times_sum, le_z_as}
use Rattle.boxes.proofs.RatioLaws.{same_from, minus_⊑, sum_⊑, encloses_same, encloses_between, product_between}
use Rattle.boxes.proofs.Candidates.{add_is, mul_is, div_is, add_finite, mul_finite, div_finite}
use Rattle.boxes.proofs.AroundLaws.{Good, value_of, Each, each_finite, both_each, RoundedFrom, Enclosed, line_encloses, line_format, around_by}
use Rattle.boxes.proofs.AroundLaws.{candidates_enclosed, around_format}

-- an interval of the format that encloses v
abbrev pub Around : Interval → Ratio → Type 0
Around x v = InFormat x × Encloses x v

pub around_same : (x : Interval) (v w : Ratio) → Around x v → v ⊑ w → w ⊑ v → Around x w
around_same x v w h s t = (h.0, encloses_same x v w (s, t) h.1)

-- ---- where the bounds are numbers, enclosing is between their values
low_value : (x : Float) (v : Ratio) → T (finite x) → NotOver x v → value_of x ⊑ v
low_value nan v f h = absurd f
low_value (inf s) v f h = absurd f
low_value (fin s m e) v f h = h

high_value : (x : Float) (v : Ratio) → T (finite x) → NotUnder x v → v ⊑ value_of x
high_value nan v f h = absurd f
high_value (inf s) v f h = absurd f
high_value (fin s m e) v f h = h

-- ---- negation, exact
neg_low : (x : Float) (v : Ratio) → NotUnder x v → NotOver (neg x) (minus_of v)
unfolding neg
neg_low nan v h = h
neg_low (inf s) v h = h
neg_low (fin s m e) v h = subst (λ (z : ℤ). of_units z ⊑ minus_of v) (sym (neg_units (fin s m e))) (minus_⊑ v (value_of (fin s m e)) h)

not_not : (s : Bool) → T s → T (not (not s))
not_not true h = tt
not_not false h = h

neg_high : (x : Float) (v : Ratio) → NotOver x v → NotUnder (neg x) (minus_of v)
unfolding neg
neg_high nan v h = h
neg_high (inf s) v h = not_not s h
neg_high (fin s m e) v h = subst (λ (z : ℤ). minus_of v ⊑ of_units z) (sym (neg_units (fin s m e))) (minus_⊑ (value_of (fin s m e)) v h)

pub negative_around : (x : Interval) (a : Ratio) → Around x a → Around (negative x) (minus_of a)
unfolding negative
negative_around x a h = (
  (F.neg-fits binary64 x.upper h.0.1, F.neg-fits binary64 x.lower h.0.0),
  (neg_low x.upper a h.1.1, neg_high x.lower a h.1.0),
)

-- ---- the sum and the product: two operations whose finite results have finite operands
module _ (x y : Interval) (a b : Ratio) (hx : Around x a) (hy : Around y b) where
  abbrev x0 : Float
  x0 = x.lower

  abbrev x1 : Float
  x1 = x.upper

  abbrev y0 : Float
  y0 = y.lower

  abbrev y1 : Float
  y1 = y.upper

  -- the bounds of both are numbers of the format
  record Proper : Type 0 where
    low_x : Good x0
    high_x : Good x1
    low_y : Good y0
    high_y : Good y1

  from_finite : T (finite x0) × T (finite y0) → T (finite x1) × T (finite y1) → Proper
  from_finite l h =
      record {
        low_x = record { held = hx.0.0; number = l.0 };
        high_x = record { held = hx.0.1; number = h.0 };
        low_y = record { held = hy.0.0; number = l.1 };
        high_y = record { held = hy.0.1; number = h.1 };
      }

  a_low : Proper → value_of x0 ⊑ a
  a_low g = low_value x0 a g.low_x.number hx.1.0

  a_high : Proper → a ⊑ value_of x1
  a_high g = high_value x1 a g.high_x.number hx.1.1

  b_low : Proper → value_of y0 ⊑ b
  b_low g = low_value y0 b g.low_y.number hy.1.0

  b_high : Proper → b ⊑ value_of y1
  b_high g = high_value y1 b g.high_y.number hy.1.1

  -- the candidates of an operation f
  abbrev Four : (Float → Float → Float) → (Float → Type 0) → Type 0
  Four f P = Each P (f x0 y0) (f x0 y1) (f x1 y0) (f x1 y1)

  abbrev Fitting : (Float → Float → Float) → Type 0
  Fitting f = Four f (λ (z : Float). T (fits binary64 z))

  abbrev Finite : (Float → Float → Float) → Type 0
  Finite f = Four f (λ (z : Float). T (finite z))

  -- the answer is around v, if it is where the candidates are finite
  corners_by : (f : Float → Float → Float) (v : Ratio) → Fitting f → (Finite f → Encloses (corners f x y) v) → Around (corners f x y) v
  corners_by f v fs h = (
    around_format (f x0 y0) (f x0 y1) (f x1 y0) (f x1 y1) fs,
    around_by (f x0 y0) (f x0 y1) (f x1 y0) (f x1 y1) v (λ t. h (each_finite (f x0 y0) (f x0 y1) (f x1 y0) (f x1 y1) t)),
  )

  -- then it encloses what the candidates were rounded from
  corners_enclose : (f : Float → Float → Float) (val : Float → Float → Ratio) → Fitting f → Finite f → (g : Proper)
      → ((p : Float) → Good p → RoundedFrom (val p y0) (f p y0)) → ((p : Float) → Good p → RoundedFrom (val p y1) (f p y1))
      → Enclosed (corners f x y) (val x0 y0) (val x0 y1) (val x1 y0) (val x1 y1)
  corners_enclose f val fs n g low high =
      candidates_enclosed (f x0 y0) (f x0 y1) (f x1 y0) (f x1 y1) (val x0 y0) (val x0 y1) (val x1 y0) (val x1 y1)
      (both_each (f x0 y0) (f x0 y1) (f x1 y0) (f x1 y1) fs n)
      (low x0 g.low_x) (high x0 g.low_x) (low x1 g.high_x) (high x1 g.high_x)

  -- ---- the sum
  sum_value : Float → Float → Ratio
  sum_value p q = of_units (in_units p +ℤ in_units q)

  sum_from : (p q : Float) → Good p → Good q → RoundedFrom (sum_value p q) (add binary64 p q)
  unfolding sum_value
  sum_from p q g h = add_is p q g.held h.held g.number h.number

  same_sum : (w : Interval) (p q : Float) → Encloses w (sum_value p q) → Encloses w (sum_of (value_of p) (value_of q))
  unfolding sum_value
  same_sum w p q =
      let u = of_units (in_units p +ℤ in_units q) in
      let v = sum_of (value_of p) (value_of q) in
      encloses_same w u v (same_from u v (cross (in_units p) (in_units q) (2 ^ 1074)))
    where
      cross : (z w : ℤ) (U : ℕ) → (z +ℤ w) *ℤ pos (U * U) ≡ (z *ℤ pos U +ℤ w *ℤ pos U) *ℤ pos U
      cross z w U = sym (times_times (z +ℤ w) U U) ∙ ap (λ (t : ℤ). t *ℤ pos U) (times_sum z w U)

  sum_fits : Fitting (add binary64)
  sum_fits =
      record { first = add-fits binary64 x0 y0; second = add-fits binary64 x0 y1; third = add-fits binary64 x1 y0; fourth = add-fits binary64 x1 y1 }

  sum_encloses : Finite (add binary64) → Encloses (corners (add binary64) x y) (sum_of a b)
  sum_encloses n =
      let w = corners (add binary64) x y in
      let g = from_finite (add_finite x0 y0 n.first) (add_finite x1 y1 n.fourth) in
      let c = corners_enclose (add binary64) sum_value sum_fits n g (λ p h. sum_from p y0 h g.low_y) (λ p h. sum_from p y1 h g.high_y) in
      encloses_between w (sum_of (value_of x0) (value_of y0)) (sum_of a b) (sum_of (value_of x1) (value_of y1))
      (same_sum w x0 y0 c.first) (same_sum w x1 y1 c.fourth)
      (sum_⊑ (value_of x0) (value_of y0) a b (a_low g) (b_low g)) (sum_⊑ a b (value_of x1) (value_of y1) (a_high g) (b_high g))

  pub plus_around : Around (plus x y) (sum_of a b)
  unfolding plus
  plus_around = corners_by (add binary64) (sum_of a b) sum_fits sum_encloses

  -- ---- the product
  product_fits : Fitting (mul binary64)
  product_fits =
      record { first = mul-fits binary64 x0 y0; second = mul-fits binary64 x0 y1; third = mul-fits binary64 x1 y0; fourth = mul-fits binary64 x1 y1 }

  product_value : Float → Float → Ratio
  product_value p q = product_of (value_of p) (value_of q)

  product_from : (p q : Float) → Good p → Good q → RoundedFrom (product_value p q) (mul binary64 p q)
  unfolding product_value
  product_from p q g h = mul_is p q g.held h.held g.number h.number

  product_encloses : Finite (mul binary64) → Encloses (corners (mul binary64) x y) (product_of a b)
  unfolding product_value
  product_encloses n =
      let g = from_finite (mul_finite x0 y0 n.first) (mul_finite x1 y1 n.fourth) in
      let c = corners_enclose (mul binary64) product_value product_fits n g (λ p h. product_from p y0 h g.low_y) (λ p h. product_from p y1 h g.high_y) in
      product_between (corners (mul binary64) x y) (value_of x0) a (value_of x1) (value_of y0) b (value_of y1) (a_low g) (a_high g) (b_low g) (b_high g)
      c.first c.second c.third c.fourth

  pub times_around : Around (times x y) (product_of a b)
  unfolding times
  times_around = corners_by (mul binary64) (product_of a b) product_fits product_encloses

-- ---- the difference
pub minus_around : (x y : Interval) (a b : Ratio) → Around x a → Around y b → Around (minus x y) (difference_of a b)
unfolding minus
minus_around x y a b h k = plus_around x (negative y) a (minus_of b) h (negative_around y b k)

-- ---- the quotient by a whole number above zero
-- the inverse of so many units, and of a ratio's numerator; of what is not above zero nothing is asked
abbrev inverse : ℤ → Ratio
inverse (pos zero) = whole_ratio 0
inverse (pos (suc n)) = record { num = pos (2 ^ 1074); den = suc n; den_pos = zero-lt-suc n }
inverse (negsuc n) = whole_ratio 0

-- z / w as one fraction
abbrev part : ℤ → ℤ → Ratio
part z (pos zero) = whole_ratio 0
part z (pos (suc n)) = record { num = z; den = suc n; den_pos = zero-lt-suc n }
part z (negsuc n) = whole_ratio 0

part_from : (x y : Float) (n : ℕ) → in_units y ≡ pos (suc n) → Good x → Good y → RoundedFrom (part (in_units x) (in_units y)) (div binary64 x y)
part_from x y n e g k =
    subst (λ (z : ℤ). RoundedFrom (part (in_units x) z) (div binary64 x y)) (sym e) (div_is x y n g.held k.held g.number k.number e)

part_same : (w : Interval) (x y : Float) (n : ℕ) → in_units y ≡ pos (suc n) → Encloses w (part (in_units x) (in_units y))
    → Encloses w (product_of (value_of x) (inverse (in_units y)))
part_same w x y n e h =
    let U = 2 ^ 1074 in
    let u : Ratio = record { num = in_units x; den = suc n; den_pos = zero-lt-suc n } in
    let v = product_of (value_of x) (inverse (pos (suc n))) in
    subst (λ (z : ℤ). Encloses w (product_of (value_of x) (inverse z))) (sym e)
    (encloses_same w u v (same_from u v (sym (times_times (in_units x) U (suc n)))) (subst (λ (z : ℤ). Encloses w (part (in_units x) z)) e h))

-- a whole number between two bounds above zero has its inverse between theirs
inverse_low : (n m : ℕ) → whole_ratio (suc n) ⊑ of_units (pos (suc m)) → inverse (pos (suc m)) ⊑ one_over (suc n)
inverse_low n m h = le_z_as (ap pos (mul_comm (suc n) (2 ^ 1074))) (ap pos (mul_comm (suc m) 1)) h

inverse_high : (n m : ℕ) → of_units (pos (suc m)) ⊑ whole_ratio (suc n) → one_over (suc n) ⊑ inverse (pos (suc m))
inverse_high n m h = le_z_as (ap pos (mul_comm (suc m) 1)) (ap pos (mul_comm (suc n) (2 ^ 1074))) h

-- a number above zero has some units
above_zero : (y : Float) → Good y → lt nought y ≡ true → (n : ℕ) × (in_units y ≡ pos (suc n))
unfolding in_units
above_zero y g h = go (in_units y) refl (subst T (lt_units nought y nought_fits g.held tt g.number) (≡→T h))
  where
    go : (z : ℤ) → in_units y ≡ z → T (lt_z (pos 0) z) → (n : ℕ) × (in_units y ≡ pos (suc n))
    go (pos zero) e h = absurd h
    go (pos (suc n)) e h = (n, e)
    go (negsuc n) e h = absurd h

-- so has what is at least a whole number above zero
at_least_one : (y : Float) (n : ℕ) → whole_ratio (suc n) ⊑ value_of y → (m : ℕ) × (in_units y ≡ pos (suc m))
at_least_one y n h = go (in_units y) refl h
  where
    none : (n : ℕ) → suc n * 2 ^ 1074 ≤ 0 → ⊥
    none n h = lt_irrefl 0 (lt_of_lt_of_le (mul-pos (zero-lt-suc n) (pow_pos 1074)) h)

    go : (z : ℤ) → in_units y ≡ z → whole_ratio (suc n) ⊑ of_units z → (m : ℕ) × (in_units y ≡ pos (suc m))
    go (pos zero) e h = absurd (none n (leb→le (suc n * 2 ^ 1074) 0 h))
    go (pos (suc m)) e h = (m, e)
    go (negsuc m) e h = absurd (no_cross (suc n * 2 ^ 1074) (suc m * 1) (mul-pos (zero-lt-suc m) (zero-lt-suc 0)) h)

module _ (x y : Interval) (a : Ratio) (n : ℕ) (hx : Around x a) (hy : Around y (whole_ratio (suc n))) where
  abbrev r : Ratio
  r = one_over (suc n)

  abbrev w : Interval
  w = corners (div binary64) x y

  quotient_fits : Fitting x y a (whole_ratio (suc n)) hx hy (div binary64)
  quotient_fits =
      record {
        first = div-fits binary64 x.lower y.lower;
        second = div-fits binary64 x.lower y.upper;
        third = div-fits binary64 x.upper y.lower;
        fourth = div-fits binary64 x.upper y.upper;
      }

  quotient_value : Float → Float → Ratio
  quotient_value p q = part (in_units p) (in_units q)

  quotient_encloses : finite_bounds y ≡ true → lt nought y.lower ≡ true → Finite x y a (whole_ratio (suc n)) hx hy (div binary64) → Encloses w (product_of a r)
  unfolding quotient_value
  quotient_encloses fy above t =
      let b = whole_ratio (suc n) in
      let x0 = x.lower in
      let x1 = x.upper in
      let y0 = y.lower in
      let y1 = y.upper in
      let g =
      from_finite x y a b hx hy (div_finite x0 y0 t.first, ≡→T (and_left (finite y0) (finite y1) fy))
      (div_finite x1 y1 t.fourth, ≡→T (and_right (finite y0) (finite y1) fy)) in
      let (k0, e0) = above_zero y0 g.low_y above in
      let (k1, e1) = at_least_one y1 n (b_high x y a b hx hy g) in
      let c =
      corners_enclose x y a b hx hy (div binary64) quotient_value quotient_fits t g
      (λ p h. part_from p y0 k0 e0 h g.low_y) (λ p h. part_from p y1 k1 e1 h g.high_y) in
      product_between w (value_of x0) a (value_of x1) (inverse (in_units y1)) r (inverse (in_units y0)) (a_low x y a b hx hy g) (a_high x y a b hx hy g)
      (subst (λ (z : ℤ). inverse z ⊑ r) (sym e1) (inverse_low n k1 (subst (λ (z : ℤ). b ⊑ of_units z) e1 (b_high x y a b hx hy g))))
      (subst (λ (z : ℤ). r ⊑ inverse z) (sym e0) (inverse_high n k0 (subst (λ (z : ℤ). of_units z ⊑ b) e0 (b_low x y a b hx hy g))))
      (part_same w x0 y1 k1 e1 c.second) (part_same w x0 y0 k0 e0 c.first) (part_same w x1 y1 k1 e1 c.fourth) (part_same w x1 y0 k0 e0 c.third)

  pub over_around : Around (over x y) (product_of a r)
  unfolding over
  over_around =
      cases (finite_bounds y && lt nought y.lower)
      (λ (t : finite_bounds y && lt nought y.lower ≡ true).
      subst (λ (z : Interval). Around z (product_of a r)) (sym (cond_yes (finite_bounds y && lt nought y.lower) w whole_line t))
      (corners_by x y a (whole_ratio (suc n)) hx hy (div binary64) (product_of a r) quotient_fits
      (quotient_encloses (and_left (finite_bounds y) (lt nought y.lower) t) (and_right (finite_bounds y) (lt nought y.lower) t))))
      (λ (t : finite_bounds y && lt nought y.lower ≡ false).
      subst (λ (z : Interval). Around z (product_of a r)) (sym (cond_no (finite_bounds y && lt nought y.lower) w whole_line t))
      (line_format, line_encloses (product_of a r)))
