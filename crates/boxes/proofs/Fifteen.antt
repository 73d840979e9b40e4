-- Three things that keep the refusal 15 to what document 02 says of it. An operation whose bounds are finite was made of finite bounds, so that one bound that is
-- not finite shows in the edges (`plus_finite` and its kin). Every image is a legal interval (`image_legal`), so that no midpoint is refused.
-- And the span of a picture in pixels, though widened, is above zero wherever it is finite (`span_positive`), so that no quotient is refused for its divisor.
-- Assumes nothing.
use mathlib.Core.Path.{◌≡◌, refl, sym, ap, ◌∙◌, subst}
use Prim.Native.Nat.{ℕ, ◌+◌, ◌-◌, ◌*◌, ◌^◌, ◌≤◌, ◌<◌}
use native.Mathlib.Nat.{mul_assoc, mul_comm, mul-le-mul_right, add-mul, one-mul}
use native.Mathlib.Omega.{arith}
use mathlib.Core.Bool.{Bool, true, false, ◌&&◌, ◌||◌, cond, false≢true}
use lib.IntN.{ℤ, pos, negsuc, neg_ℤ, ◌+ℤ◌, ◌*ℤ◌}
use lib.Signed.{le_z, lt_z}
use lib.Dec.{T, le→leb}
use lib.Pow.{pow_pos}
use lib.Ieee.{Float, nan, inf, fin, binary64, add, mul, div, neg, lt, le, eq, fits}
use lib.Ieee.Fits.{add-fits}
use lib.Ieee.Fits as F
use lib.Ieee.Scale.{finite}
use Rattle.base.proofs.Test.{T→≡, ≡→T, and_left, and_right, and_both, cases}
use Rattle.interval.specs.declared.Interval.{Interval}
use Rattle.interval.specs.Bounds.{whole_line, in_units, plus_zero, minus_zero, zero_as, put_interval, legal_interval}
use Rattle.interval.specs.Middle.{rounded}
use Rattle.interval.specs.Next.{nought, next_below, next_above}
use Rattle.interval.proofs.Compare.{lt_units}
use Rattle.interval.proofs.CutUpTo.{nought_fits}
use Rattle.interval.proofs.UnitsOrder.{le_units, sub_ge}
use Rattle.interval.proofs.HalfSum.{plus_neg}
use Rattle.interval.proofs.HalfBetween.{rounded_fits}
use Rattle.interval.proofs.WholeOrder.{le_z_trans}
use Rattle.interval.proofs.Legality.{legal_from, put_legal}
use Rattle.interval.proofs.ProperPieces.{bounds_from}
use Rattle.interval.proofs.Zeros.{as_units, as_fits, keeps_finite, was_finite}
use Rattle.interval.proofs.Beside.{neg_finite, neg_units, next_fits, above_fits, next_lt, above_lt, next_greatest}
use Rattle.boxes.specs.Arithmetic.{finite_bounds, least_of, greatest_of, around, corners, plus, negative, minus, times, over}
use Rattle.boxes.specs.declared.transformation.Transformation.{Transformation}
use Rattle.boxes.specs.declared.transformation.Transformation.TheVariants as M
use Rattle.boxes.specs.Maps.{image_of}
use Rattle.boxes.specs.Pixels.{parts_of, in_pixels, point_at}
use Rattle.boxes.proofs.Integers.{le_z_of_eq, le_z_as, times_mono, times_cancel, neg_mono, sum_mono, lt_le, lt_le_z}
use Rattle.boxes.proofs.RoundedBounds.{rounded_mono_over, own_units}
use Rattle.boxes.proofs.Candidates.{add_is, add_finite, mul_finite, div_finite}
use Rattle.boxes.proofs.AroundLaws.{Good, Each, all_finite, each_finite, both_each, least_one, greatest_one, lowest, highest, around_is, around_not}
use Rattle.boxes.proofs.AroundLaws.{nan_left, inf_left, nan_right, inf_right}
use Rattle.boxes.proofs.PixelPoints.{in_pixels_fits, parts_exact}

-- ---- finite bounds were made of finite bounds
line_not : (x : Interval) → x ≡ whole_line → finite_bounds x ≡ true → ⊥
line_not x e h = false≢true (ap finite_bounds (sym e) ∙ h)

all_finite_lem : (p q r s : Float) → finite_bounds (around p q r s) ≡ true → all_finite p q r s ≡ true
all_finite_lem p q r s h =
    cases (all_finite p q r s) (λ (t : all_finite p q r s ≡ true). t) (λ (t : all_finite p q r s ≡ false). absurd (line_not (around p q r s) (around_not p q r s t) h))

module _ (x y : Interval) where
  candidates : (f : Float → Float → Float) → finite_bounds (corners f x y) ≡ true
      → Each (λ (z : Float). T (finite z)) (f x.lower y.lower) (f x.lower y.upper) (f x.upper y.lower) (f x.upper y.upper)
  candidates f h =
      let p = f x.lower y.lower in
      let q = f x.lower y.upper in
      let r = f x.upper y.lower in
      let s = f x.upper y.upper in
      each_finite p q r s (all_finite_lem p q r s h)

  both : T (finite x.lower) × T (finite y.lower) → T (finite x.upper) × T (finite y.upper) → (finite_bounds x ≡ true) × (finite_bounds y ≡ true)
  both l u = (
    and_both (finite x.lower) (finite x.upper) (T→≡ (finite x.lower) l.0) (T→≡ (finite x.upper) u.0),
    and_both (finite y.lower) (finite y.upper) (T→≡ (finite y.lower) l.1) (T→≡ (finite y.upper) u.1),
  )

  pub plus_finite : finite_bounds (plus x y) ≡ true → (finite_bounds x ≡ true) × (finite_bounds y ≡ true)
  unfolding plus
  plus_finite h =
      let n = candidates (add binary64) h in
      both (add_finite x.lower y.lower n.first) (add_finite x.upper y.upper n.fourth)

  pub times_finite : finite_bounds (times x y) ≡ true → (finite_bounds x ≡ true) × (finite_bounds y ≡ true)
  unfolding times
  times_finite h =
      let n = candidates (mul binary64) h in
      both (mul_finite x.lower y.lower n.first) (mul_finite x.upper y.upper n.fourth)

  pub over_finite : finite_bounds (over x y) ≡ true → (finite_bounds x ≡ true) × (finite_bounds y ≡ true)
  unfolding over
  over_finite h = go (finite_bounds y && lt nought y.lower) refl h
    where
      go : (t : Bool) → finite_bounds y && lt nought y.lower ≡ t → finite_bounds (cond t (corners (div binary64) x y) whole_line) ≡ true
          → (finite_bounds x ≡ true) × (finite_bounds y ≡ true)
      go true e h =
          let n = candidates (div binary64) h in
          let g = and_left (finite_bounds y) (lt nought y.lower) e in
          both (div_finite x.lower y.lower n.first, ≡→T (and_left (finite y.lower) (finite y.upper) g))
          (div_finite x.upper y.upper n.fourth, ≡→T (and_right (finite y.lower) (finite y.upper) g))
      go false e h = absurd (false≢true h)

negative_finite : (x : Interval) → finite_bounds (negative x) ≡ true → finite_bounds x ≡ true
unfolding negative
negative_finite x h =
    and_both (finite x.lower) (finite x.upper) (sym (neg_finite x.lower) ∙ and_right (finite (neg x.upper)) (finite (neg x.lower)) h)
    (sym (neg_finite x.upper) ∙ and_left (finite (neg x.upper)) (finite (neg x.lower)) h)

pub minus_finite : (x y : Interval) → finite_bounds (minus x y) ≡ true → (finite_bounds x ≡ true) × (finite_bounds y ≡ true)
unfolding minus
minus_finite x y h = let g = plus_finite x (negative y) h in (g.0, negative_finite y g.1)

-- ---- every answer is legal
-- the order of the two bounds, of which either may be infinite
lower_side : (a l : Float) → T (finite l) → T (lt a l) → T (lt a (inf false))
unfolding lt
lower_side nan l g h = absurd h
lower_side (inf s) nan g h = absurd h
lower_side (inf s) (inf t) g h = absurd g
lower_side (inf true) (fin t n d) g h = tt
lower_side (inf false) (fin t n d) g h = absurd h
lower_side (fin s m e) l g h = tt

upper_side : (u b : Float) → T (finite u) → T (lt u b) → T (lt (inf true) b)
unfolding lt
upper_side nan b g h = absurd g
upper_side (inf s) b g h = absurd g
upper_side (fin s m e) nan g h = absurd h
upper_side (fin s m e) (inf t) g h = h
upper_side (fin s m e) (fin t n d) g h = tt

lt_le_float : (x y : Float) → T (lt x y) → T (le x y)
unfolding le
lt_le_float x y h = either (lt x y) (eq x y) h
  where
    either : (a b : Bool) → T a → T (a || b)
    either true b h = tt
    either false b h = absurd h

in_order : (a b l u : Float) → Good l → Good u → T (fits binary64 a) → T (fits binary64 b) → T (lt a l) → T (lt u b) → T (le_z (in_units l) (in_units u)) → T (le a b)
in_order nan b l u gl gu fa fb h k o = absurd (nan_left l h)
in_order (inf true) b l u gl gu fa fb h k o = lt_le_float (inf true) b (upper_side u b gu.number k)
in_order (inf false) b l u gl gu fa fb h k o = absurd (inf_left l h)
in_order (fin s m e) nan l u gl gu fa fb h k o = absurd (nan_right u k)
in_order (fin s m e) (inf true) l u gl gu fa fb h k o = absurd (inf_right u k)
in_order (fin s m e) (inf false) l u gl gu fa fb h k o = lt_le_float (fin s m e) (inf false) (lower_side (fin s m e) l gl.number h)
in_order (fin s m e) (fin t n d) l u gl gu fa fb h k o =
    let a = fin s m e in
    let b = fin t n d in
    let first = lt_le_z (in_units a) (in_units l) (subst T (lt_units a l fa gl.held tt gl.number) h) in
    let last = lt_le_z (in_units u) (in_units b) (subst T (lt_units u b gu.held fb gu.number tt) k) in
    subst T (sym (le_units a b fa fb tt tt))
    (le_z_trans (in_units a) (in_units l) (in_units b) first (le_z_trans (in_units l) (in_units u) (in_units b) o last))

line_legal : legal_interval whole_line false ≡ true
unfolding legal_interval le lt eq
line_legal = refl

around_legal : (p q r s : Float) → Each (λ (x : Float). T (fits binary64 x)) p q r s → legal_interval (around p q r s) false ≡ true
around_legal p q r s f =
    cases (all_finite p q r s) inner
    (λ (t : all_finite p q r s ≡ false). ap (λ (z : Interval). legal_interval z false) (around_not p q r s t) ∙ line_legal)
  where
    inner : all_finite p q r s ≡ true → legal_interval (around p q r s) false ≡ true
    inner t =
        let g = both_each p q r s f (each_finite p q r s t) in
        let l = least_of p q r s in
        let u = greatest_of p q r s in
        let gl = least_one Good p q r s g in
        let gu = greatest_one Good p q r s g in
        let a = next_below l in
        let b = next_above u in
        let x : Interval = record { lower = a; upper = b } in
        let o = le_z_trans (in_units l) (in_units p) (in_units u) (lowest p q r s g).first (highest p q r s g).first in
        let h = next_lt l gl.held gl.number in
        let k = above_lt u gu.held gu.number in
        let order = T→≡ (le a b) (in_order a b l u gl gu (next_fits l gl.held) (above_fits u gu.held) h k o) in
        let low = T→≡ (lt a (inf false)) (lower_side a l gl.number h) in
        let high = T→≡ (lt (inf true) b) (upper_side u b gu.number k) in
        ap (λ (z : Interval). legal_interval z false) (around_is p q r s t) ∙ put_legal x false
        ∙ legal_from x false (bounds_from a b order low high) (λ (z : false ≡ true). absurd (false≢true z))

plus_legal : (x y : Interval) → legal_interval (plus x y) false ≡ true
unfolding plus
plus_legal x y =
    let x0 = x.lower in
    let x1 = x.upper in
    let y0 = y.lower in
    let y1 = y.upper in
    around_legal (add binary64 x0 y0) (add binary64 x0 y1) (add binary64 x1 y0) (add binary64 x1 y1)
    (record { first = add-fits binary64 x0 y0; second = add-fits binary64 x0 y1; third = add-fits binary64 x1 y0; fourth = add-fits binary64 x1 y1 })

-- so is every image, which ends with a sum
pub image_legal : (m : Transformation) (p : Interval) → legal_interval (image_of m p) false ≡ true
unfolding image_of
image_legal (M.Quick slope offset) p = plus_legal (times p slope) offset
image_legal (M.Precise a0 a01 x0 x01) p = plus_legal (times (over (minus p a0) a01) x01) x0

-- ---- the span in pixels is above zero
abbrev unit : ℕ
unit = 2 ^ 1074

one : Float
one = fin false 1 (pos 0)

one_good : Good one
unfolding one fits
one_good = record { held = tt; number = tt }

one_units : in_units one ≡ pos unit
unfolding one in_units
one_units = refl

half : Float
half = fin false 1 (negsuc 0)

half_good : Good half
unfolding half fits
half_good = record { held = tt; number = tt }

half_units : in_units half ≡ pos (2 ^ 1073)
unfolding half in_units
half_units = refl

-- a sum that is 1 at least rounds to 1 at least
large : (x y : Float) → Good x → Good y → T (le_z (pos unit) (in_units x +ℤ in_units y)) → T (finite (add binary64 x y))
    → T (le_z (pos unit) (in_units (add binary64 x y)))
large x y g k h n =
    let z = in_units x +ℤ in_units y in
    let c = add binary64 x y in
    let e = add_is x y g.held k.held g.number k.number in
    let m : T (finite (rounded z unit)) = was_finite false (rounded z unit) (subst (λ (v : Float). T (finite v)) e (keeps_finite false c n)) in
    let o = own_units one one_good.held one_good.number in
    let below = times_mono (in_units one) z unit (subst (λ (v : ℤ). T (le_z v z)) (sym one_units) h) in
    let r = rounded_mono_over (in_units one) z unit unit (pow_pos 1074) (pow_pos 1074) below in
    let l = subst T (le_units (rounded (in_units one) unit) (rounded z unit) (rounded_fits (in_units one) unit) (rounded_fits z unit) o.1 m) r in
    le_z_as (o.0 ∙ one_units) (sym (sym (as_units false c) ∙ ap in_units e ∙ as_units false (rounded z unit))) l

-- and the next number below that is above zero, where it is a number
below_one : (l : Float) → Good l → T (le_z (pos unit) (in_units l)) → T (finite (next_below l)) → T (lt_z (pos 0) (in_units (next_below l)))
below_one l g h n =
    let less : T (lt_z (in_units half) (in_units l)) = lt_le (in_units half) (pos unit) (in_units l) (subst (λ (z : ℤ). T (lt_z z (pos unit))) (sym half_units) tt) h in
    let t : T (lt half l) = subst T (sym (lt_units half l half_good.held g.held half_good.number g.number)) less in
    let above = next_greatest l half g.held g.number half_good.held half_good.number t in
    let k = subst T (le_units half (next_below l) half_good.held (next_fits l g.held) half_good.number n) above in
    lt_le (pos 0) (in_units half) (in_units (next_below l)) (subst (λ (z : ℤ). T (lt_z (pos 0) z)) (sym half_units) tt) k

-- the f64 of n pixels is n times 2^1074 units
pixel_units : (n : ℕ) → parts_of n < 2 ^ 53 → T (le_z (pos (n * unit)) (in_units (in_pixels (parts_of n)))) × T (le_z (in_units (in_pixels (parts_of n))) (pos (n * unit)))
pixel_units n h =
    let u = in_units (in_pixels (parts_of n)) in
    let e : u *ℤ pos (2 ^ 32) ≡ pos (n * unit) *ℤ pos (2 ^ 32) = parts_exact (parts_of n) h ∙ ap pos (swap n (2 ^ 32) unit) in
    (times_cancel (pos (n * unit)) u (2 ^ 32) (pow_pos 32) (le_z_of_eq (sym e)), times_cancel u (pos (n * unit)) (2 ^ 32) (pow_pos 32) (le_z_of_eq e))
  where
    swap : (n a b : ℕ) → n * a * b ≡ n * b * a
    swap n a b = mul_assoc n a b ∙ ap (λ (z : ℕ). n * z) (mul_comm a b) ∙ sym (mul_assoc n b a)

-- m pixels less n pixels, with n below m, is 1 at least
gap_large : (m n : ℕ) → n < m → (x y : ℤ) → T (le_z (pos (m * unit)) x) → T (le_z (neg_ℤ (pos (n * unit))) y) → T (le_z (pos unit) (x +ℤ y))
gap_large m n h x y a b =
    let d = m * unit - n * unit in
    le_z_trans (pos unit) (pos (m * unit) +ℤ neg_ℤ (pos (n * unit))) (x +ℤ y)
    (subst (λ (z : ℤ). T (le_z (pos unit) z)) (sym (plus_neg (m * unit) (n * unit) ∙ sub_ge (m * unit) (n * unit) (fewer (m * unit) (n * unit) unit steps)))
    (le→leb unit d (enough (m * unit) (n * unit) unit steps)))
    (sum_mono (pos (m * unit)) (neg_ℤ (pos (n * unit))) x y a b)
  where
    next : (n m : ℕ) → n < m → n + 1 ≤ m
    next n m h = omega arith

    steps : n * unit + unit ≤ m * unit
    steps = subst (λ (z : ℕ). z ≤ m * unit) (add-mul n 1 unit ∙ ap (λ (z : ℕ). n * unit + z) (one-mul unit)) (mul-le-mul_right unit (next n m h))

    fewer : (a b u : ℕ) → b + u ≤ a → b ≤ a
    fewer a b u h = omega arith

    enough : (a b u : ℕ) → b + u ≤ a → u ≤ a - b
    enough a b u h = omega arith

module _ (m n : ℕ) (h : n < m) (hm : parts_of m < 2 ^ 53) (hn : parts_of n < 2 ^ 53) where
  abbrev x : Interval
  x = point_at (parts_of m)

  abbrev y : Interval
  y = negative (point_at (parts_of n))

  -- either bound of the one is m pixels, of the other n pixels, negated
  abbrev First : Float → Type 0
  First p = Good p × T (le_z (pos (m * unit)) (in_units p))

  abbrev Second : Float → Type 0
  Second q = Good q × T (le_z (neg_ℤ (pos (n * unit))) (in_units q))

  first : (t : Bool) → T (finite (zero_as t (in_pixels (parts_of m)))) → First (zero_as t (in_pixels (parts_of m)))
  first t g =
      let e = in_pixels (parts_of m) in
      (record { held = as_fits t e (in_pixels_fits (parts_of m)); number = g }, subst (λ (z : ℤ). T (le_z (pos (m * unit)) z)) (sym (as_units t e)) (pixel_units m hm).0)

  second : (t : Bool) → T (finite (neg (zero_as t (in_pixels (parts_of n))))) → Second (neg (zero_as t (in_pixels (parts_of n))))
  second t g =
      let e = in_pixels (parts_of n) in
      let d = zero_as t e in (
        record { held = F.neg-fits binary64 d (as_fits t e (in_pixels_fits (parts_of n))); number = g },
        subst (λ (z : ℤ). T (le_z (neg_ℤ (pos (n * unit))) z)) (sym (neg_units d ∙ ap neg_ℤ (as_units t e)))
            (neg_mono (in_units e) (pos (n * unit)) (pixel_units n hn).1),
      )

  sum_large : (p q : Float) → First p → Second q → T (finite (add binary64 p q)) → T (le_z (pos unit) (in_units (add binary64 p q)))
  sum_large p q a b = large p q a.0 b.0 (gap_large m n h (in_units p) (in_units q) a.1 b.1)

  pub span_positive : finite_bounds (minus x (point_at (parts_of n))) ≡ true → lt nought (minus x (point_at (parts_of n))).lower ≡ true
  unfolding minus plus negative point_at put_interval in_units
  span_positive g =
      let E = in_pixels (parts_of m) in
      let D = in_pixels (parts_of n) in
      let x0 = minus_zero E in
      let x1 = plus_zero E in
      let y0 = neg (plus_zero D) in
      let y1 = neg (minus_zero D) in
      let p = add binary64 x0 y0 in
      let q = add binary64 x0 y1 in
      let r = add binary64 x1 y0 in
      let s = add binary64 x1 y1 in
      let t = all_finite_lem p q r s g in
      let f = each_finite p q r s t in
      let a = add_finite x0 y0 f.first in
      let b = add_finite x1 y1 f.fourth in
      let X0 = first true a.0 in
      let X1 = first false b.0 in
      let Y0 = second false a.1 in
      let Y1 = second true b.1 in
      let fits_each : Each (λ (z : Float). T (fits binary64 z)) p q r s =
      record { first = add-fits binary64 x0 y0; second = add-fits binary64 x0 y1; third = add-fits binary64 x1 y0; fourth = add-fits binary64 x1 y1 } in
      let l = least_of p q r s in
      let gl = least_one Good p q r s (both_each p q r s fits_each f) in
      let L = least_one (λ (z : Float). T (le_z (pos unit) (in_units z))) p q r s
      (record {
        first = sum_large x0 y0 X0 Y0 f.first;
        second = sum_large x0 y1 X0 Y1 f.second;
        third = sum_large x1 y0 X1 Y0 f.third;
        fourth = sum_large x1 y1 X1 Y1 f.fourth;
      }) in
      let w = around p q r s in
      let low_is : w.lower ≡ minus_zero (next_below l) = ap (λ (z : Interval). z.lower) (around_is p q r s t) in
      let number = was_finite true (next_below l) (subst (λ (z : Float). T (finite z)) low_is (≡→T (and_left (finite w.lower) (finite w.upper) g))) in
      let u = below_one l gl L number in
      let v = subst (λ (z : ℤ). T (lt_z (pos 0) z)) (sym (as_units true (next_below l))) u in
      let b = minus_zero (next_below l) in
      let o = subst T (sym (lt_units nought b nought_fits (as_fits true (next_below l) (next_fits l gl.held)) tt (keeps_finite true (next_below l) number))) v in
      ap (lt nought) low_is ∙ T→≡ (lt nought b) o
