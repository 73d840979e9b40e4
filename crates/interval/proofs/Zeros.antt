-- A zero put with a sign: the test that finds it, and that it changes neither the number nor any comparison. Each law is over the sign.
-- Assumes nothing.
use Rattle.std.proofs.Common.{◌≡◌, ℕ, zero, suc, ◌*◌, ◌/◌, ◌%◌, ◌^◌, ◌<◌, Bool, true, false, not, ◌&&◌, ◌||◌, T, eqb, ltb, ℤ, pos, nat_abs, sym, refl, ap, ◌∙◌, subst, add-zero, lt_irrefl, zero-lt-suc, mul-pos, zero-add, zero-mul, mul-div_cancel, arith, eqb→eq, le-ltb, lt-ltb, ne_eqb}
use mathlib.Core.Bool.{beq, false≢true}
use lib.Dec.{eqb-zero-suc, eqb-suc-zero}
use lib.Ieee.{Float, nan, inf, fin, binary64, up, down, neg, below, level, lt, eq, le, of_bits, fits}
use lib.Ieee.Fits.{up_pos, down_pos}
use lib.Ieee.Scale.{finite}
use Rattle.base.proofs.Test.{and_left, and_implied, or_right}
use Rattle.interval.specs.Bounds.{signed, in_units, zero_as, whole_bound}

-- ---- the test of a zero
pub zero_equal : (s : Bool) (e : ℤ) → eq (fin s 0 e) (of_bits binary64 0) ≡ true
unfolding eq of_bits
zero_equal s e = ap (λ (z : ℕ). level s (z * 1) false (0 * 1 * down e)) (zero-mul (up e)) ∙ ap (λ (z : ℕ). level s 0 false z) (zero-mul (down e)) ∙ go s
  where
    go : (s : Bool) → level s 0 false 0 ≡ true
    go true = refl
    go false = refl

not_zero : (s : Bool) (m : ℕ) (e : ℤ) → eq (fin s (suc m) e) (of_bits binary64 0) ≡ true → ⊥
unfolding eq of_bits
not_zero s m e h = lt_irrefl 0 (subst (λ (z : ℕ). 0 < z) (same ∙ zero-mul (down e)) (mul-pos (mul-pos (zero-lt-suc m) (up_pos e)) (zero-lt-suc 0)))
  where
    same : suc m * up e * 1 ≡ 0 * 1 * down e
    same = eqb→eq (suc m * up e * 1) (0 * 1 * down e) (subst T (sym (and_left (eqb (suc m * up e * 1) (0 * 1 * down e)) (beq s false || eqb (suc m * up e * 1) 0) h)) tt)

pub zero_yes : (t : Bool) (x : Float) → eq x (of_bits binary64 0) ≡ true → fin t 0 (pos 0) ≡ zero_as t x
unfolding eq zero_as of_bits
zero_yes t nan h = absurd (false≢true h)
zero_yes t (inf s) h = absurd (false≢true h)
zero_yes t (fin s zero e) h = refl
zero_yes t (fin s (suc m) e) h = absurd (not_zero s m e h)

pub zero_no : (t : Bool) (x : Float) → eq x (of_bits binary64 0) ≡ false → x ≡ zero_as t x
unfolding zero_as
zero_no t nan h = refl
zero_no t (inf s) h = refl
zero_no t (fin s zero e) h = absurd (false≢true (sym h ∙ zero_equal s e))
zero_no t (fin s (suc m) e) h = refl

-- ---- what stays
pub as_again : (t u : Bool) (x : Float) → zero_as t (zero_as u x) ≡ zero_as t x
unfolding zero_as
as_again t u nan = refl
as_again t u (inf s) = refl
as_again t u (fin s zero e) = refl
as_again t u (fin s (suc m) e) = refl

pub as_neg : (t u : Bool) (x : Float) → zero_as t (neg (zero_as u x)) ≡ zero_as t (neg x)
unfolding zero_as neg
as_neg t u nan = refl
as_neg t u (inf s) = refl
as_neg t u (fin s zero e) = refl
as_neg t u (fin s (suc m) e) = refl

zero_over : (d : ℕ) → 0 < d → 0 / d ≡ 0
zero_over d h = ap (λ (z : ℕ). z / d) (sym (zero-mul d)) ∙ mul-div_cancel 0 h

pub signed_zero : (s : Bool) → signed s 0 ≡ pos 0
signed_zero true = refl
signed_zero false = refl

pub as_units : (t : Bool) (x : Float) → in_units (zero_as t x) ≡ in_units x
unfolding in_units zero_as
as_units t nan = refl
as_units t (inf s) = refl
as_units t (fin s zero e) =
    signed_zero t
    ∙ sym (ap (λ (z : ℕ). signed s (z * 2 ^ 1074 / down e)) (zero-mul (up e)) ∙ ap (λ (z : ℕ). signed s (z / down e)) (zero-mul (2 ^ 1074)) ∙ ap (signed s) (zero_over (down e) (down_pos e)) ∙ signed_zero s)
as_units t (fin s (suc m) e) = refl

pub as_fits : (t : Bool) (x : Float) → T (fits binary64 x) → T (fits binary64 (zero_as t x))
unfolding zero_as fits
as_fits t nan f = f
as_fits t (inf s) f = f
as_fits t (fin s zero e) f = tt
as_fits t (fin s (suc m) e) f = f

pub as_finite : (t : Bool) (x : Float) → finite (zero_as t x) ≡ finite x
unfolding zero_as
as_finite t nan = refl
as_finite t (inf s) = refl
as_finite t (fin s zero e) = refl
as_finite t (fin s (suc m) e) = refl

pub keeps_finite : (t : Bool) (x : Float) → T (finite x) → T (finite (zero_as t x))
keeps_finite t x h = subst T (sym (as_finite t x)) h

pub was_finite : (t : Bool) (x : Float) → T (finite (zero_as t x)) → T (finite x)
was_finite t x h = subst T (as_finite t x) h

pub as_whole : (t : Bool) (x : Float) → whole_bound (zero_as t x) ≡ whole_bound x
unfolding zero_as whole_bound
as_whole t nan = refl
as_whole t (inf s) = refl
as_whole t (fin s zero e) = ap (λ (z : ℤ). eqb (nat_abs z % 2 ^ 1074) 0) (as_units t (fin s zero e))
as_whole t (fin s (suc m) e) = refl

-- ---- comparisons
scaled_lt : (a k : ℕ) → 0 < k → ltb 0 (a * k) ≡ ltb 0 a
scaled_lt zero k h = ap (λ (z : ℕ). ltb 0 z) (zero-mul k)
scaled_lt (suc a) k h = lt-ltb 0 (suc a * k) (mul-pos (zero-lt-suc a) h) ∙ sym (lt-ltb 0 (suc a) (zero-lt-suc a))

scaled_eq : (a k : ℕ) → 0 < k → eqb 0 (a * k) ≡ eqb 0 a
scaled_eq zero k h = ap (λ (z : ℕ). eqb 0 z) (zero-mul k)
scaled_eq (suc a) k h = ne_eqb 0 (suc a * k) (λ e. lt_irrefl 0 (subst (λ (z : ℕ). 0 < z) (sym e) (mul-pos (zero-lt-suc a) h))) ∙ sym (ne_eqb 0 (suc a) (λ e. lt_irrefl 0 (subst (λ (z : ℕ). 0 < z) (sym e) (zero-lt-suc a))))

below_zero : (s r : Bool) (b : ℕ) → below s 0 r b ≡ not r && ltb 0 b
below_zero false false b = refl
below_zero false true b = refl
below_zero true false b = ap (λ (z : ℕ). ltb 0 z) (zero-add b)
below_zero true true b = le-ltb b 0 (omega arith)

over_zero : (r s : Bool) (b : ℕ) → below r b s 0 ≡ r && ltb 0 b
over_zero false false b = le-ltb b 0 (omega arith)
over_zero false true b = refl
over_zero true false b = ap (λ (z : ℕ). ltb 0 z) (add-zero b)
over_zero true true b = refl

level_zero : (s r : Bool) (b : ℕ) → level s 0 r b ≡ eqb 0 b
level_zero s r b = and_implied (eqb 0 b) (beq s r || true) (λ e. or_right (beq s r) true refl)

level_over : (r s : Bool) (b : ℕ) → level r b s 0 ≡ eqb b 0
level_over r s b = and_implied (eqb b 0) (beq r s || eqb b 0) (or_right (beq r s) (eqb b 0))

eqb_swap : (b : ℕ) → eqb b 0 ≡ eqb 0 b
eqb_swap zero = refl
eqb_swap (suc b) = eqb-suc-zero b ∙ sym (eqb-zero-suc b)

module _ (s t : Bool) (e : ℤ) (r : Bool) (n : ℕ) (d : ℤ) where
  none : (u : ℤ) (k : ℕ) → 0 * up u * k ≡ 0
  none u k = ap (λ (z : ℕ). z * k) (zero-mul (up u)) ∙ zero-mul k

  below_left : below t (0 * 1 * down d) r (n * up d * 1) ≡ below s (0 * up e * down d) r (n * up d * down e)
  below_left =
      ap (λ (z : ℕ). below t z r (n * up d * 1)) (none (pos 0) (down d)) ∙ below_zero t r (n * up d * 1) ∙ ap (λ (z : Bool). not r && z) (scaled_lt (n * up d) 1 (zero-lt-suc 0) ∙ sym (scaled_lt (n * up d) (down e) (down_pos e)))
      ∙ sym (ap (λ (z : ℕ). below s z r (n * up d * down e)) (none e (down d)) ∙ below_zero s r (n * up d * down e))

  below_right : below r (n * up d * 1) t (0 * 1 * down d) ≡ below r (n * up d * down e) s (0 * up e * down d)
  below_right =
      ap (λ (z : ℕ). below r (n * up d * 1) t z) (none (pos 0) (down d)) ∙ over_zero r t (n * up d * 1) ∙ ap (λ (z : Bool). r && z) (scaled_lt (n * up d) 1 (zero-lt-suc 0) ∙ sym (scaled_lt (n * up d) (down e) (down_pos e)))
      ∙ sym (ap (λ (z : ℕ). below r (n * up d * down e) s z) (none e (down d)) ∙ over_zero r s (n * up d * down e))

  level_left : level t (0 * 1 * down d) r (n * up d * 1) ≡ level s (0 * up e * down d) r (n * up d * down e)
  level_left =
      ap (λ (z : ℕ). level t z r (n * up d * 1)) (none (pos 0) (down d)) ∙ level_zero t r (n * up d * 1) ∙ scaled_eq (n * up d) 1 (zero-lt-suc 0) ∙ sym (scaled_eq (n * up d) (down e) (down_pos e))
      ∙ sym (ap (λ (z : ℕ). level s z r (n * up d * down e)) (none e (down d)) ∙ level_zero s r (n * up d * down e))

  level_right : level r (n * up d * 1) t (0 * 1 * down d) ≡ level r (n * up d * down e) s (0 * up e * down d)
  level_right =
      ap (λ (z : ℕ). level r (n * up d * 1) t z) (none (pos 0) (down d)) ∙ level_over r t (n * up d * 1) ∙ eqb_swap (n * up d * 1) ∙ scaled_eq (n * up d) 1 (zero-lt-suc 0) ∙ sym (scaled_eq (n * up d) (down e) (down_pos e)) ∙ sym (eqb_swap (n * up d * down e))
      ∙ sym (ap (λ (z : ℕ). level r (n * up d * down e) s z) (none e (down d)) ∙ level_over r s (n * up d * down e))

pub as_lt_left : (t : Bool) (x y : Float) → lt (zero_as t x) y ≡ lt x y
unfolding zero_as lt
as_lt_left t nan y = refl
as_lt_left t (inf s) y = refl
as_lt_left t (fin s (suc m) e) y = refl
as_lt_left t (fin s zero e) nan = refl
as_lt_left t (fin s zero e) (inf r) = refl
as_lt_left t (fin s zero e) (fin r n d) = below_left s t e r n d

pub as_lt_right : (t : Bool) (y x : Float) → lt y (zero_as t x) ≡ lt y x
unfolding zero_as lt
as_lt_right t y nan = refl
as_lt_right t y (inf s) = refl
as_lt_right t y (fin s (suc m) e) = refl
as_lt_right t nan (fin s zero e) = refl
as_lt_right t (inf r) (fin s zero e) = refl
as_lt_right t (fin r n d) (fin s zero e) = below_right s t e r n d

pub as_eq_left : (t : Bool) (x y : Float) → eq (zero_as t x) y ≡ eq x y
unfolding zero_as eq
as_eq_left t nan y = refl
as_eq_left t (inf s) y = refl
as_eq_left t (fin s (suc m) e) y = refl
as_eq_left t (fin s zero e) nan = refl
as_eq_left t (fin s zero e) (inf r) = refl
as_eq_left t (fin s zero e) (fin r n d) = level_left s t e r n d

pub as_eq_right : (t : Bool) (y x : Float) → eq y (zero_as t x) ≡ eq y x
unfolding zero_as eq
as_eq_right t y nan = refl
as_eq_right t y (inf s) = refl
as_eq_right t y (fin s (suc m) e) = refl
as_eq_right t nan (fin s zero e) = refl
as_eq_right t (inf r) (fin s zero e) = refl
as_eq_right t (fin r n d) (fin s zero e) = level_right s t e r n d

pub as_le_left : (t : Bool) (x y : Float) → le (zero_as t x) y ≡ le x y
unfolding le
as_le_left t x y = ap (λ (z : Bool). z || eq (zero_as t x) y) (as_lt_left t x y) ∙ ap (λ (z : Bool). lt x y || z) (as_eq_left t x y)

pub as_le_right : (t : Bool) (y x : Float) → le y (zero_as t x) ≡ le y x
unfolding le
as_le_right t y x = ap (λ (z : Bool). z || eq y (zero_as t x)) (as_lt_right t y x) ∙ ap (λ (z : Bool). lt y x || z) (as_eq_right t y x)

pub as_le : (t u : Bool) (x y : Float) → le (zero_as t x) (zero_as u y) ≡ le x y
as_le t u x y = as_le_left t x (zero_as u y) ∙ as_le_right u x y
