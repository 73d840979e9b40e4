-- Rounding to a whole number, half away from zero: below 2 ^ 52 by twice x cut to a whole number, one more, halved; from there on x
-- is whole itself; and below zero by the mirror image. Assumes nothing.
use Rattle.std.proofs.Common.{◌≡◌, ℕ, zero, suc, ◌+◌, ◌-◌, ◌*◌, ◌/◌, ◌^◌, ◌<◌, ◌≤◌, min, Bool, true, false, cond, not, T, ltb, ℤ, pos, sym, refl, ap, ◌∙◌, subst, true≢false, lt_of_lt_of_le, le_of_suc-le-suc, lt_of_le_of_lt, lt_irrefl, zero-lt-suc, mul_assoc, div-lt_iff_lt-mul, mul-lt-mul_of_pos_right, mul-pos, pow-suc, lt_of_not-le, zero-mul, mul-one, mul_right_comm, not-le_of_lt, arith, lit≤, le→leb, lt→ltb, pow_pos, pow_mono, pow-add, ltb-false, ltb-true, lt-ltb}
use native.Mathlib.Nat.{div-div-eq-div-mul, add-div_right, eq_of_mul-eq-mul_right}
use mathlib.Core.Bool.{false≢true, not-not}
use lib.Arith.{digits_div}
use lib.Ieee.{Float, nan, inf, fin, Format, binary64, low, prec, odd, units, up, down, round, below, add, neg, lt, of_int, in_float, to_unsigned, fits}
use lib.Ieee.Fits.{down_pos, round-fits}
use lib.Ieee.Back.{round_whole}
use lib.Ieee.Order.{drop, kept}
use lib.Ieee.Scale.{grid, overflow}
use lib.Ieee.Digits.{back}
use lib.Ieee.Exact.{HasValue, round_exact}
use lib.Ieee.Nearest.{div_same}
use Rattle.interval.proofs.Naturals.{at_most_zero, sum_self}
use Rattle.interval.specs.Bounds.{signed, in_units, plus_zero, zero_as}
use Rattle.interval.specs.Middle.{rounded, half_away, whole_near}
use Rattle.interval.proofs.Value.{zero_exp, Placed, placed, round_self}
use Rattle.interval.proofs.Halving.{add_at}
use Rattle.interval.proofs.Zeros.{as_neg}
use Rattle.interval.proofs.HalfSum.{units_of, neg_rounded, value_zero}
use Rattle.interval.proofs.Compare.{lt_at}

-- 2 ^ 52 in units: from there on every number is whole
abbrev pub edge : ℕ
edge = 2 ^ 52 * 2 ^ 1074

-- an x above zero and below that, in units
pub record Small (x : Float) : Type 0 where
  pub at : Placed binary64 false x
  pub bound : at.m * 2 ^ at.j < edge
  pub is_units : in_units x ≡ pos (at.m * 2 ^ at.j)

pub small_placed : (x : Float) → T (fits binary64 x) → lt (fin false 0 (pos 0)) x ≡ true → lt x (fin false 1 (pos 52)) ≡ true → Small x
unfolding lt
small_placed nan f g h = absurd (false≢true h)
small_placed (inf false) f g h = absurd (false≢true h)
small_placed (inf true) f g h = absurd (false≢true g)
small_placed (fin true m e) f g h = absurd (false≢true g)
small_placed (fin false m e) f g h =
    let p = placed binary64 false m e f in
    let X = p.m * 2 ^ p.j in
    record {
      at = p;
      bound = ltb-true X edge (sym (lt_at (fin false m e) (fin false 1 (pos 52)) false X false edge (2 ^ 1074) (pow_pos 1074) p.value (refl, refl)) ∙ h);
      is_units = units_of false m e X p.value;
    }

double_lt : (X B : ℕ) → X < B → X * 2 < B * 2
double_lt X B h = omega arith

-- twice x is exact
pub doubled : (x : Float) (q : Small x) → HasValue (add binary64 x x) false (q.at.m * 2 ^ q.at.j * 2) (2 ^ 1074)
doubled x q =
    let p = q.at in
    let X = p.m * 2 ^ p.j in
    let e : p.m * 2 ^ suc p.j ≡ X * 2 = ap (λ (z : ℕ). p.m * z) (pow-suc 2 p.j) ∙ sym (mul_assoc p.m (2 ^ p.j) 2) in
    let fine : p.m * 2 ^ suc p.j < 2 ^ 2098 = subst (λ (z : ℕ). z < 2 ^ 2098) (sym e) (lt_of_lt_of_le (double_lt X (2 ^ 52 * 2 ^ 1074) q.bound) (lit≤ tt)) in
    subst (λ (z : Float). HasValue z false (X * 2) (2 ^ 1074)) (sym (add_at binary64 x x false X false X (2 ^ 1074) (pow_pos 1074) p.value p.value ∙ ap (λ (z : ℕ). round binary64 false z (2 ^ 1074)) (sum_self X)))
    (round_exact binary64 false (X * 2) (2 ^ 1074) p.m (suc p.j) (pow_pos 1074) p.digits fine (ap (λ (z : ℕ). z * 2 ^ 1074) (sym e)))

pub double_small : (x : Float) (q : Small x) → q.at.m * 2 ^ q.at.j * 2 < 2 ^ 53 * 2 ^ 1074
double_small x q = lt_of_lt_of_le (double_lt (q.at.m * 2 ^ q.at.j) (2 ^ 52 * 2 ^ 1074) q.bound) (lit≤ tt)

-- what has the value a / c, cut to a whole number
cut_min : (a b : ℕ) → a < b → min a (b - 1) ≡ a
cut_min a b h = omega arith

pub cut_at : (y : Float) (a c : ℕ) → 0 < c → HasValue y false a c → a / c < 2 ^ 64 → to_unsigned 64 y ≡ a / c
unfolding to_unsigned
cut_at nan a c C v h = absurd v
cut_at (inf s) a c C v h = absurd v
cut_at (fin true m e) a c C v h = absurd (true≢false v.0)
cut_at (fin false m e) a c C v h =
    let q : m * up e / down e ≡ a / c = div_same (m * up e) (down e) a c (down_pos e) C v.1 in
    ap (λ (z : ℕ). min z (2 ^ 64 - 1)) q ∙ cut_min (a / c) (2 ^ 64) h

pub cut_double : (x : Float) (q : Small x) → (q.at.m * 2 ^ q.at.j * 2 / 2 ^ 1074 < 2 ^ 53) × (to_unsigned 64 (add binary64 x x) ≡ q.at.m * 2 ^ q.at.j * 2 / 2 ^ 1074)
cut_double x q =
    let h : q.at.m * 2 ^ q.at.j * 2 / 2 ^ 1074 < 2 ^ 53 = (div-lt_iff_lt-mul (pow_pos 1074)).1 (double_small x q) in
    (h, cut_at (add binary64 x x) (q.at.m * 2 ^ q.at.j * 2) (2 ^ 1074) (pow_pos 1074) (doubled x q) (lt_of_lt_of_le h (lit≤ tt)))

pub in_range : (x : Float) (q : Small x) → T (lt (fin true 1 (pos 0)) (add binary64 x x)) × T (lt (add binary64 x x) (fin false 1 (pos 64)))
in_range x q =
    let X2 = q.at.m * 2 ^ q.at.j * 2 in
    let d = add binary64 x x in (
      subst T (sym (lt_at (fin true 1 (pos 0)) d true (2 ^ 1074) false X2 (2 ^ 1074) (pow_pos 1074) (refl, refl) (doubled x q))) (lt→ltb 0 (2 ^ 1074 + X2) (more (2 ^ 1074) X2 (pow_pos 1074))),
      subst T (sym (lt_at d (fin false 1 (pos 64)) false X2 false (2 ^ 64 * 2 ^ 1074) (2 ^ 1074) (pow_pos 1074) (doubled x q) (refl, refl))) (lt→ltb X2 (2 ^ 64 * 2 ^ 1074) (lt_of_lt_of_le (double_small x q) (lit≤ tt))),
    )
  where
    more : (u z : ℕ) → 0 < u → 0 < u + z
    more u z h = omega arith

-- the half of one more
half_up_lem : (Y : ℕ) → (Y / 2 ^ 1074 + 1) / 2 ≡ (Y + 2 ^ 1074) / (2 ^ 1074 * 2)
half_up_lem Y = ap (λ (z : ℕ). z / 2) (sym (add-div_right Y (pow_pos 1074))) ∙ div-div-eq-div-mul (Y + 2 ^ 1074) (2 ^ 1074) 2

half_bound : (n : ℕ) → n < 2 ^ 53 → (n + 1) / 2 ≤ 2 ^ 53
half_bound n h = omega arith

pub holds_it : (n : ℕ) → n < 2 ^ 53 → T (in_float binary64 (pos ((n + 1) / 2)))
unfolding in_float
holds_it n h = le→leb ((n + 1) / 2) (2 ^ 53) (half_bound n h)

-- ---- the pieces of `whole_near`
abbrev pub half_up : ℕ → ℕ
half_up X = (X * 2 + 2 ^ 1074) / (2 ^ 1074 * 2)

half_signed : (s : Bool) (X : ℕ) → half_away (signed s X) ≡ signed s (half_up X)
unfolding half_away
half_signed false X = refl
half_signed true zero = refl
half_signed true (suc X) = refl

plus_signed : (s : Bool) (n : ℕ) → plus_zero (rounded (signed s n) 1) ≡ plus_zero (round binary64 s n 1)
unfolding rounded
plus_signed false n = refl
plus_signed true n = sym (neg_rounded n 1 (zero-lt-suc 0))

pub whole_at : (s : Bool) (m : ℕ) (e : ℤ) (p : Placed binary64 s (fin s m e)) → whole_near (fin s m e) ≡ plus_zero (round binary64 s (half_up (p.m * 2 ^ p.j)) 1)
unfolding whole_near
whole_at s m e p =
    let X = p.m * 2 ^ p.j in
    ap (λ (z : ℤ). plus_zero (rounded (half_away z) 1)) (units_of s m e X p.value)
    ∙ ap (λ (z : ℤ). plus_zero (rounded z 1)) (half_signed s X)
    ∙ plus_signed s (half_up X)

pub plus_nonzero : (x : Float) (s : Bool) (a c : ℕ) → 0 < a → HasValue x s a c → plus_zero x ≡ x
unfolding zero_as
plus_nonzero nan s a c A v = absurd v
plus_nonzero (inf t) s a c A v = absurd v
plus_nonzero (fin t zero e) s a c A v = absurd (lt_irrefl 0 (subst (λ (z : ℕ). 0 < z) (sym v.1 ∙ ap (λ (z : ℕ). z * c) (zero-mul (up e)) ∙ zero-mul c) (mul-pos A (down_pos e))))
plus_nonzero (fin t (suc m) e) s a c A v = refl

plus_positive : (x : Float) (a c : ℕ) → T (fits binary64 x) → HasValue x false a c → plus_zero x ≡ x
unfolding zero_as
plus_positive nan a c f v = absurd v
plus_positive (inf t) a c f v = absurd v
plus_positive (fin t zero e) a c f v = sym (ap (λ (z : Bool). fin z 0 e) v.0 ∙ ap (λ (z : ℤ). fin false 0 z) (zero_exp binary64 t e f))
plus_positive (fin t (suc m) e) a c f v = refl

-- ---- from 2 ^ 52 on
pub exponent : (m j : ℕ) → m < 2 ^ 53 → 2 ^ 52 * 2 ^ 1074 ≤ m * 2 ^ j → 1074 ≤ j
exponent m j h k =
    let a : 2 ^ 1126 < 2 ^ (53 + j) = lt_of_le_of_lt k (subst (λ (z : ℕ). m * 2 ^ j < z) (sym (pow-add 2 53 j)) (mul-lt-mul_of_pos_right h (pow_pos j))) in
    le_of_suc-le-suc (lt_of_not-le (λ (g : suc j ≤ 1074). not-le_of_lt a (pow_mono (low_one j g))))
  where
    low_one : (j : ℕ) → suc j ≤ 1074 → 53 + j ≤ 1126
    low_one j h = omega arith

pub whole_half : (n U : ℕ) → 0 < U → (n * U * 2 + U) / (U * 2) ≡ n
whole_half n U h = ap (λ (z : ℕ). (z + U) / (U * 2)) (mul_assoc n U 2) ∙ digits_div n (grow U h)
  where
    grow : (U : ℕ) → 0 < U → U < U * 2
    grow U h = omega arith

pub big_is : (s : Bool) (m : ℕ) (e : ℤ) → T (fits binary64 (fin s m e)) → (p : Placed binary64 s (fin s m e)) → 2 ^ 52 * 2 ^ 1074 ≤ p.m * 2 ^ p.j → fin s m e ≡ whole_near (fin s m e)
big_is s m e f p h =
    let X = p.m * 2 ^ p.j in
    let U = 2 ^ 1074 in
    let n = p.m * 2 ^ (p.j - 1074) in
    let k : X ≡ n * U = ap (λ (z : ℕ). p.m * z) (ap (λ (z : ℕ). 2 ^ z) (sym (back p.j 1074 (exponent p.m p.j p.digits h))) ∙ pow-add 2 (p.j - 1074) 1074) ∙ sym (mul_assoc p.m (2 ^ (p.j - 1074)) U) in
    let v : HasValue (fin s m e) s n 1 = (refl, eq_of_mul-eq-mul_right U (pow_pos 1074) (m * up e * 1) (n * down e) (ap (λ (z : ℕ). z * U) (mul-one (m * up e)) ∙ p.value.1 ∙ ap (λ (z : ℕ). z * down e) k ∙ mul_right_comm n U (down e))) in
    sym (whole_at s m e p
    ∙ ap (λ (z : ℕ). plus_zero (round binary64 s ((z * 2 + U) / (U * 2)) 1)) k
    ∙ ap (λ (z : ℕ). plus_zero (round binary64 s z 1)) (whole_half n U (pow_pos 1074))
    ∙ ap plus_zero (round_self binary64 (fin s m e) s n 1 (zero-lt-suc 0) f v)
    ∙ plus_nonzero (fin s m e) s X U (lt_of_lt_of_le (pow_pos 1126) h) p.value)

pub half_small : (X : ℕ) → X < edge → half_up X ≤ 2 ^ 53
half_small X h = subst (λ (z : ℕ). z ≤ 2 ^ 53) (half_up_lem (X * 2)) (half_bound (X * 2 / 2 ^ 1074) ((div-lt_iff_lt-mul (pow_pos 1074)).1 (lt_of_lt_of_le (double_lt X edge h) (lit≤ tt))))

-- ---- above zero
pub near_small : (x : Float) (q : Small x) → T (fits binary64 x) → (n : ℕ) → n ≡ to_unsigned 64 (add binary64 x x) → of_int binary64 (pos ((n + 1) / 2)) ≡ whole_near x
unfolding of_int
near_small nan q f n h = absurd q.at.value
near_small (inf s) q f n h = absurd q.at.value
near_small (fin s m e) q f n h =
    let X = q.at.m * 2 ^ q.at.j in
    let p : Placed binary64 s (fin s m e) = record { m = q.at.m; j = q.at.j; digits = q.at.digits; under = q.at.under; value = (refl, q.at.value.1) } in
    ap (λ (z : ℕ). round binary64 false ((z + 1) / 2) 1) (h ∙ (cut_double (fin s m e) q).1)
    ∙ ap (λ (z : ℕ). round binary64 false z 1) (half_up_lem (X * 2))
    ∙ sym (plus_positive (round binary64 false (half_up X) 1) (half_up X) 1 (round-fits binary64 false (half_up X) 1) (round_whole binary64 false (half_up X) (half_small X q.bound)))
    ∙ ap (λ (z : Bool). plus_zero (round binary64 z (half_up X) 1)) (sym q.at.value.0)
    ∙ sym (whole_at s m e p)

not_below : (s : Bool) (X : ℕ) → below false 0 s X ≡ true → below s X false edge ≡ false → edge ≤ X
not_below true X h k = absurd (false≢true h)
not_below false X h k = ltb-false X edge k

pub near_large : (x : Float) → T (fits binary64 x) → lt (fin false 0 (pos 0)) x ≡ true → lt x (fin false 1 (pos 52)) ≡ false → x ≡ whole_near x
near_large nan f h k = absurd (no_nan h)
  where
    no_nan : lt (fin false 0 (pos 0)) nan ≡ true → ⊥
    no_nan = unfold lt in false≢true
near_large (inf s) f h k = unfold whole_near in refl
near_large (fin s m e) f h k =
    let p = placed binary64 s m e f in
    let X = p.m * 2 ^ p.j in
    big_is s m e f p
    (not_below s X
    (sym (lt_at (fin false 0 (pos 0)) (fin s m e) false 0 s X (2 ^ 1074) (pow_pos 1074) (refl, refl) p.value) ∙ h)
    (sym (lt_at (fin s m e) (fin false 1 (pos 52)) s X false edge (2 ^ 1074) (pow_pos 1074) p.value (refl, refl)) ∙ k))

-- ---- either sign
negated_odd : (d : ℕ) (s : Bool) (q k l : ℕ) → neg (odd d s q k l) ≡ odd d (not s) q k l
unfolding odd neg
negated_odd d s zero k l = refl
negated_odd d s (suc q) k l = refl

pub negated_round : (f : Format) (s : Bool) (a c : ℕ) → neg (round f s a c) ≡ round f (not s) a c
unfolding round units neg
negated_round f s a c = go (ltb (grid f a c) (overflow f))
  where
    q : ℕ
    q = kept (prec f) (a * 2 ^ low f) c

    k : ℕ
    k = drop (prec f) (a * 2 ^ low f) c

    go : (b : Bool) → neg (cond b (odd (suc (prec f)) s q k (low f)) (inf s)) ≡ cond b (odd (suc (prec f)) (not s) q k (low f)) (inf (not s))
    go true = negated_odd (suc (prec f)) s q k (low f)
    go false = refl

abbrev pub neg_placed : (s : Bool) (m : ℕ) (e : ℤ) → Placed binary64 s (fin s m e) → Placed binary64 (not s) (fin (not s) m e)
neg_placed s m e p = record { m = p.m; j = p.j; digits = p.digits; under = p.under; value = (refl, p.value.1) }

pub above_neg : (x : Float) → lt x (fin false 0 (pos 0)) ≡ true → lt (fin false 0 (pos 0)) (neg x) ≡ true
unfolding lt neg
above_neg nan h = absurd (false≢true h)
above_neg (inf true) h = refl
above_neg (inf false) h = absurd (false≢true h)
above_neg (fin true m e) h = ap (λ (z : ℕ). ltb z (m * up e * 1)) (zero-mul (down e)) ∙ lt-ltb 0 (m * up e * 1) (some (m * up e * 1) (0 * 1 * down e) (zero-mul (down e)) (ltb-true 0 (m * up e * 1 + 0 * 1 * down e) h))
  where
    some : (a b : ℕ) → b ≡ 0 → 0 < a + b → 0 < a
    some a b e h = omega arith
above_neg (fin false m e) h = absurd (none (m * up e * 1) (0 * 1 * down e) (zero-mul (down e)) (ltb-true (m * up e * 1) (0 * 1 * down e) h))
  where
    none : (a b : ℕ) → b ≡ 0 → a < b → ⊥
    none a b e h = omega arith

-- a number is negated by its sign
neg_of : (s : Bool) (m : ℕ) (e : ℤ) → neg (fin s m e) ≡ fin (not s) m e
unfolding neg
neg_of s m e = refl

-- rounding to whole mirrors
pub near_neg : (x : Float) → T (fits binary64 x) → plus_zero (neg (whole_near (neg x))) ≡ whole_near x
near_neg nan f = unfold whole_near neg zero_as in refl
near_neg (inf true) f = unfold whole_near neg zero_as in refl
near_neg (inf false) f = unfold whole_near neg zero_as in refl
near_neg (fin s m e) f = mirrored ∙ sym (whole_at s m e p)
  where
    p : Placed binary64 s (fin s m e)
    p = placed binary64 s m e f

    X : ℕ
    X = p.m * 2 ^ p.j

    negated : neg (fin s m e) ≡ fin (not s) m e
    negated = neg_of s m e

    mirrored : plus_zero (neg (whole_near (neg (fin s m e)))) ≡ plus_zero (round binary64 s (half_up X) 1)
    mirrored =
        ap (λ (z : Float). plus_zero (neg z)) (ap whole_near negated ∙ whole_at (not s) m e (neg_placed s m e p))
        ∙ as_neg false false (round binary64 (not s) (half_up X) 1)
        ∙ ap plus_zero (negated_round binary64 (not s) (half_up X) 1)
        ∙ ap (λ (z : Bool). plus_zero (round binary64 z (half_up X) 1)) (not-not s)

pub at_zero : (s : Bool) (X : ℕ) → below false 0 s X ≡ false → below s X false 0 ≡ false → X ≡ 0
at_zero false X h k = at_most_zero X (ltb-false 0 X h)
at_zero true X h k = none X (ltb-false 0 (X + 0) k)
  where
    none : (X : ℕ) → X + 0 ≤ 0 → X ≡ 0
    none X h = omega arith

zero_whole : (s : Bool) → plus_zero (round binary64 s (half_up 0) 1) ≡ fin false 0 (pos 0)
unfolding round zero_as
zero_whole true = refl
zero_whole false = refl

-- what is neither above nor below zero
pub near_zero : (x : Float) → T (fits binary64 x) → lt (fin false 0 (pos 0)) x ≡ false → lt x (fin false 0 (pos 0)) ≡ false → plus_zero x ≡ whole_near x
near_zero nan f h k = unfold whole_near zero_as in refl
near_zero (inf s) f h k = unfold whole_near zero_as in refl
near_zero (fin s m e) f h k =
    let p = placed binary64 s m e f in
    let X = p.m * 2 ^ p.j in
    let z : X ≡ 0 = at_zero s X (sym (lt_at (fin false 0 (pos 0)) (fin s m e) false 0 s X (2 ^ 1074) (pow_pos 1074) (refl, refl) p.value) ∙ h) (sym (lt_at (fin s m e) (fin false 0 (pos 0)) s X false 0 (2 ^ 1074) (pow_pos 1074) p.value (refl, refl)) ∙ k) in
    value_zero (fin s m e) s (2 ^ 1074) (pow_pos 1074) (subst (λ (y : ℕ). HasValue (fin s m e) s y (2 ^ 1074)) z p.value)
    ∙ sym (whole_at s m e p ∙ ap (λ (y : ℕ). plus_zero (round binary64 s (half_up y) 1)) z ∙ zero_whole s)
