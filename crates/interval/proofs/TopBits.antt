-- Patterns with their low bits cleared: never a NaN's, and the two cases of the simple fraction's definition.
-- Assumes nothing.
use Rattle.std.proofs.Common.{◌≡◌, ℕ, ◌+◌, ◌-◌, ◌*◌, ◌/◌, ◌%◌, ◌^◌, ◌<◌, ◌≤◌, Bool, true, false, cond, not, T, eqb, ltb, leb, pos, sym, refl, ap, ◌∙◌, subst, le_trans, le_of_eq, lt_of_le_of_lt, add-zero, le_of_lt, lt_irrefl, mul-le-mul_right, mod-lt, mod-eq_of_lt, add-mul, one-mul, div-add-mod', le-div_iff_mul-le, not-le_of_lt, div-mul-le_self, mul-div_cancel, arith, le→leb, eqb→eq, ltb→lt, leb→le, nltb→le, pow_pos, pow-add}
use native.Mathlib.Nat.{mul-mod_left}
use lib.Dec.{not_T}
use lib.Pow.{shr_mono, field, mod-pow-add}
use lib.Bits.{bit_xor, xor_shr, xor_self}
use lib.Count.{count_leading_zeros, leading_le}
use lib.Ieee.{Float, nan, inf, fin, binary64, lt, le, is_nan, nan_bits, to_bits, of_bits, fits}
use lib.Ieee.Fits.{eq→eqb}
use lib.Ieee.Bits.{is_true, is_false, of_bits-to_bits, to_bits-lt, nan_bits_is, nan_bits_above}
use Rattle.base.proofs.Test.{same_tests}
use Rattle.interval.proofs.Naturals.{add_lt}
use Rattle.interval.specs.Bounds.{legal_bounds}
use Rattle.interval.specs.Fraction.{top_bits, shared_bits, simple_fraction}
use Rattle.interval.proofs.Patterns.{infinite, at, of_bits_at}

not_false : (b : Bool) → T (not b) → b ≡ false
not_false true t = absurd t
not_false false t = refl

no_test : (b : Bool) → b ≡ false → T (not b)
no_test b e = subst (λ (z : Bool). T (not z)) (sym e) tt

-- ---- the pattern of a value that is no NaN
pub record Pattern (x : Float) : Type 0 where
  pub fits_in : to_bits binary64 x < 2 ^ 64
  pub no_nan : to_bits binary64 x % 2 ^ 63 ≤ infinite
  pub is : x ≡ at (leb (2 ^ 63) (to_bits binary64 x)) (to_bits binary64 x % 2 ^ 63)

pub pattern : (x : Float) → T (fits binary64 x) → T (not (is_nan x)) → Pattern x
pattern x f n =
    let w = to_bits binary64 x in
    let b : of_bits binary64 w ≡ x = of_bits-to_bits binary64 x f in
    let e : ltb infinite (w % 2 ^ 63) ≡ false = sym (nan_bits_above binary64 w) ∙ nan_bits_is binary64 w ∙ ap is_nan b ∙ not_false (is_nan x) n in
    record { fits_in = to_bits-lt binary64 x f; no_nan = nltb→le infinite (w % 2 ^ 63) (no_test (ltb infinite (w % 2 ^ 63)) e); is = sym b ∙ of_bits_at w }

-- ---- a pattern with its low k bits cleared
cut_mod : (w j k : ℕ) → w / 2 ^ k * 2 ^ k % 2 ^ (j + k) ≡ w % 2 ^ (j + k) / 2 ^ k * 2 ^ k
cut_mod w j k =
    let n = w / 2 ^ k * 2 ^ k in
    mod-pow-add n j k
    ∙ ap (λ (z : ℕ). n / 2 ^ k % 2 ^ j * 2 ^ k + z) (mul-mod_left (w / 2 ^ k) (2 ^ k))
    ∙ add-zero (n / 2 ^ k % 2 ^ j * 2 ^ k)
    ∙ ap (λ (z : ℕ). z % 2 ^ j * 2 ^ k) (mul-div_cancel (w / 2 ^ k) (pow_pos k))
    ∙ ap (λ (z : ℕ). z * 2 ^ k) (sym (field w j k))

cut_sign : (w j k : ℕ) → leb (2 ^ (j + k)) (w / 2 ^ k * 2 ^ k) ≡ leb (2 ^ (j + k)) w
cut_sign w j k =
    same_tests (leb (2 ^ (j + k)) (w / 2 ^ k * 2 ^ k)) (leb (2 ^ (j + k)) w)
    (λ (t : T (leb (2 ^ (j + k)) (w / 2 ^ k * 2 ^ k))). le→leb (2 ^ (j + k)) w (le_trans (leb→le (2 ^ (j + k)) (w / 2 ^ k * 2 ^ k) t) (div-mul-le_self w (2 ^ k))))
    (λ (t : T (leb (2 ^ (j + k)) w)). le→leb (2 ^ (j + k)) (w / 2 ^ k * 2 ^ k) (le_trans (le_of_eq (pow-add 2 j k)) (mul-le-mul_right (2 ^ k) ((le-div_iff_mul-le (pow_pos k)).1 (le_trans (le_of_eq (sym (pow-add 2 j k))) (leb→le (2 ^ (j + k)) w t))))))

split : (n : ℕ) → n ≤ 63 → n + (63 - n) ≡ 63
split n h = omega arith

pub cut_rest : (n w : ℕ) → n ≤ 63 → top_bits n w % 2 ^ 63 ≡ w % 2 ^ 63 / 2 ^ (63 - n) * 2 ^ (63 - n)
cut_rest n w h = subst (λ (z : ℕ). w / 2 ^ (63 - n) * 2 ^ (63 - n) % 2 ^ z ≡ w % 2 ^ z / 2 ^ (63 - n) * 2 ^ (63 - n)) (split n h) (cut_mod w n (63 - n))

pub cut_same_sign : (n w : ℕ) → n ≤ 63 → leb (2 ^ 63) (top_bits n w) ≡ leb (2 ^ 63) w
cut_same_sign n w h = subst (λ (z : ℕ). leb (2 ^ z) (w / 2 ^ (63 - n) * 2 ^ (63 - n)) ≡ leb (2 ^ z) w) (split n h) (cut_sign w n (63 - n))

pub cut_le : (n w : ℕ) → top_bits n w ≤ w
cut_le n w = div-mul-le_self w (2 ^ (63 - n))

pub cut_at : (n w : ℕ) → n ≤ 63 → of_bits binary64 (top_bits n w) ≡ at (leb (2 ^ 63) w) (w % 2 ^ 63 / 2 ^ (63 - n) * 2 ^ (63 - n))
cut_at n w h =
    of_bits_at (top_bits n w)
    ∙ ap (λ (z : Bool). at z (top_bits n w % 2 ^ 63)) (cut_same_sign n w h)
    ∙ ap (λ (z : ℕ). at (leb (2 ^ 63) w) z) (cut_rest n w h)

pub cut_no_nan : (n w : ℕ) → n ≤ 63 → w % 2 ^ 63 ≤ infinite → T (not (nan_bits binary64 (top_bits n w)))
cut_no_nan n w h k =
    subst (λ (z : Bool). T (not z)) (sym (nan_bits_above binary64 (top_bits n w)))
    (not_T (ltb infinite (top_bits n w % 2 ^ 63)) (λ (t : T (ltb infinite (top_bits n w % 2 ^ 63))). not-le_of_lt (ltb→lt infinite (top_bits n w % 2 ^ 63) t) (le_trans (le_of_eq (cut_rest n w h)) (le_trans (div-mul-le_self (w % 2 ^ 63) (2 ^ (63 - n))) k))))

pub cut_shift : (n w : ℕ) → w < 2 ^ 64 → top_bits n w % 2 ^ 64 ≡ top_bits n w
cut_shift n w h = mod-eq_of_lt (lt_of_le_of_lt (cut_le n w) h)

-- ---- the leading zeros of the xor
pub not_all : (d : ℕ) → (count_leading_zeros 64 d ≡ 64 → ⊥) → count_leading_zeros 64 d ≤ 63
not_all d h = sharp (count_leading_zeros 64 d) (leading_le 64 d) h
  where
    sharp : (z : ℕ) → z ≤ 64 → (z ≡ 64 → ⊥) → z ≤ 63
    sharp z a b = omega arith

above : (k d : ℕ) → 2 ^ k ≤ d → 0 < d / 2 ^ k
above k d h = (le-div_iff_mul-le (pow_pos k)).1 (le_trans (le_of_eq (one-mul (2 ^ k))) h)

last_step : (a b u r q : ℕ) → q * u + r ≡ b → r < u → (q + 1) * u ≤ a → b ≤ a
last_step a b u r q e h k = le_trans (le_of_eq (sym e)) (le_trans (le_of_lt (add_lt (q * u) r u h)) (le_trans (le_of_eq (sym (add-mul q 1 u ∙ ap (λ (z : ℕ). q * u + z) (one-mul u)))) k))

-- where bit k is the highest in which they differ or any other that differs, the larger with its low k bits cleared is still no less than the smaller
pub cut_above : (a b k : ℕ) → b ≤ a → 2 ^ k ≤ bit_xor a b → b ≤ a / 2 ^ k * 2 ^ k
cut_above a b k h d =
    let apart : a / 2 ^ k ≡ b / 2 ^ k → ⊥ = λ (e : a / 2 ^ k ≡ b / 2 ^ k).
    lt_irrefl 0 (subst (λ (z : ℕ). 0 < z) (xor_shr a b k ∙ ap (λ (z : ℕ). bit_xor z (b / 2 ^ k)) e ∙ xor_self (b / 2 ^ k)) (above k (bit_xor a b) d)) in
    let more : b / 2 ^ k + 1 ≤ a / 2 ^ k = sharp (b / 2 ^ k) (a / 2 ^ k) (shr_mono k h) (λ e. apart (sym e)) in
    last_step (a / 2 ^ k * 2 ^ k) b (2 ^ k) (b % 2 ^ k) (b / 2 ^ k) (div-add-mod' b (2 ^ k)) (mod-lt b (pow_pos k)) (mul-le-mul_right (2 ^ k) more)
  where
    sharp : (x y : ℕ) → x ≤ y → (x ≡ y → ⊥) → x + 1 ≤ y
    sharp x y a b = omega arith

-- ---- the definition's two cases
pub frac_same : (x y : Float) → shared_bits (to_bits binary64 x) (to_bits binary64 y) ≡ 64 → x ≡ simple_fraction x y
unfolding simple_fraction
frac_same x y h = sym (ap (λ (z : Bool). cond z x (of_bits binary64 (top_bits (shared_bits (to_bits binary64 x) (to_bits binary64 y)) (cond (le x (fin false 0 (pos 0))) (to_bits binary64 x) (to_bits binary64 y))))) (is_true (eqb (shared_bits (to_bits binary64 x) (to_bits binary64 y)) 64) (eq→eqb h)))

pub frac_other : (x y : Float) → (shared_bits (to_bits binary64 x) (to_bits binary64 y) ≡ 64 → ⊥) → (w : ℕ) → w ≡ cond (le x (fin false 0 (pos 0))) (to_bits binary64 x) (to_bits binary64 y)
    → of_bits binary64 (top_bits (shared_bits (to_bits binary64 x) (to_bits binary64 y)) w) ≡ simple_fraction x y
unfolding simple_fraction
frac_other x y h w e =
    ap (λ (z : ℕ). of_bits binary64 (top_bits (shared_bits (to_bits binary64 x) (to_bits binary64 y)) z)) e
    ∙ sym (ap (λ (z : Bool). cond z x (of_bits binary64 (top_bits (shared_bits (to_bits binary64 x) (to_bits binary64 y)) (cond (le x (fin false 0 (pos 0))) (to_bits binary64 x) (to_bits binary64 y))))) (is_false (eqb (shared_bits (to_bits binary64 x) (to_bits binary64 y)) 64) (not_T (eqb (shared_bits (to_bits binary64 x) (to_bits binary64 y)) 64) (λ t. h (eqb→eq (shared_bits (to_bits binary64 x) (to_bits binary64 y)) 64 t)))))

pub kept_lower : (x : Float) (a b w : ℕ) → le x (of_bits binary64 0) ≡ true → w ≡ a → w ≡ cond (le x (fin false 0 (pos 0))) a b
unfolding of_bits
kept_lower x a b w h e = e ∙ sym (ap (λ (z : Bool). cond z a b) h)

pub kept_upper : (x : Float) (a b w : ℕ) → le x (of_bits binary64 0) ≡ false → w ≡ b → w ≡ cond (le x (fin false 0 (pos 0))) a b
unfolding of_bits
kept_upper x a b w h e = e ∙ sym (ap (λ (z : Bool). cond z a b) h)

-- a legal_bounds interval's bounds are no NaNs
pub lower_number : (x y : Float) → T (legal_bounds x y) → T (not (is_nan x))
unfolding le lt is_nan
lower_number nan y h = absurd h
lower_number (inf s) y h = tt
lower_number (fin s m e) y h = tt

pub upper_number : (x y : Float) → T (legal_bounds x y) → T (not (is_nan y))
unfolding le lt is_nan
upper_number x (inf s) h = tt
upper_number x (fin s m e) h = tt
upper_number nan nan h = absurd h
upper_number (inf s) nan h = absurd h
upper_number (fin s m e) nan h = absurd h

-- whichever is kept is within 64 bits and no NaN
pub infinite_kept : (b : Bool) (a c w : ℕ) → a < 2 ^ 64 → c < 2 ^ 64 → a % 2 ^ 63 ≤ infinite → c % 2 ^ 63 ≤ infinite → w ≡ cond b a c → (w < 2 ^ 64) × (w % 2 ^ 63 ≤ infinite)
infinite_kept true a c w A C p q e = (subst (λ (z : ℕ). z < 2 ^ 64) (sym e) A, subst (λ (z : ℕ). z % 2 ^ 63 ≤ infinite) (sym e) p)
infinite_kept false a c w A C p q e = (subst (λ (z : ℕ). z < 2 ^ 64) (sym e) C, subst (λ (z : ℕ). z % 2 ^ 63 ≤ infinite) (sym e) q)
