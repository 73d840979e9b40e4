-- What is whole: x is exactly where it equals its rounding to a whole number (`whole_is`); so is every rounding (`near_whole`) and
-- every number from 2 ^ 52 on (`large_whole`). Assumes nothing.
use Rattle.std.proofs.Common.{◌≡◌, ℕ, zero, suc, ◌+◌, ◌-◌, ◌*◌, ◌/◌, ◌%◌, ◌^◌, ◌<◌, ◌≤◌, Bool, true, false, not, ◌&&◌, ◌||◌, T, eqb, leb, ℤ, pos, nat_abs, sym, refl, ap, ◌∙◌, add-zero, mul_assoc, div-add-mod', zero-mul, eqb→eq, leb→le, pow_pos, pow-add}
use native.Mathlib.Nat.{mul-mod_left}
use mathlib.Core.Bool.{beq}
use lib.Dec.{eqb_refl, nleb→lt}
use lib.Ieee.{Float, nan, inf, fin, binary64, up, down, round, eq, fits}
use lib.Ieee.Fits.{eq→eqb, down_pos}
use lib.Ieee.Bits.{is_true}
use lib.Ieee.Digits.{back}
use lib.Ieee.Back.{round_whole}
use lib.Ieee.Exact.{HasValue}
use lib.Ieee.Scale.{finite}
use Rattle.base.proofs.Test.{≡→T, same_tests, and_implied, or_right}
use Rattle.interval.proofs.Naturals.{first_zero}
use Rattle.interval.specs.Bounds.{signed, in_units, plus_zero, zero_as, whole_bound}
use Rattle.interval.specs.Middle.{whole_near}
use Rattle.interval.proofs.Value.{Placed, placed}
use Rattle.interval.proofs.Zeros.{as_whole}
use Rattle.interval.proofs.HalfSum.{units_of}
use Rattle.interval.proofs.Compare.{eq_at}
use Rattle.interval.proofs.WholeRounding.{half_up, edge, whole_at, half_small, whole_half, exponent, big_is}
use Rattle.interval.proofs.Difference.{scale}

pub abs_signed : (s : Bool) (n : ℕ) → nat_abs (signed s n) ≡ n
abs_signed false n = refl
abs_signed true zero = refl
abs_signed true (suc n) = refl

-- a number compares with itself by its size alone
like : (b c : Bool) → c ≡ true → b && c ≡ b
like b c e = and_implied b c (λ k. e)

self_level : (s : Bool) (n : ℕ) → (beq s s || eqb n 0) ≡ true
self_level true n = refl
self_level false n = refl

-- +0 in place of a zero compares alike
plus_eq : (y x : Float) (s : Bool) (h X U : ℕ) → 0 < U → HasValue y s (h * U) U → HasValue x s X U → eq (plus_zero y) x ≡ eqb (h * U) X
unfolding zero_as
plus_eq nan x s h X U C v w = absurd v
plus_eq (inf t) x s h X U C v w = absurd v
plus_eq (fin t zero e) x s h X U C v w =
    let z : h * U ≡ 0 = first_zero (h * U) (down e) (down_pos e) (sym v.1 ∙ ap (λ (k : ℕ). k * U) (zero-mul (up e)) ∙ zero-mul U) in
    eq_at (fin false 0 (pos 0)) x false 0 s X U C (refl, zero-mul U) w ∙ like (eqb 0 X) (beq false s || eqb 0 0) (or_right (beq false s) true refl) ∙ ap (λ (k : ℕ). eqb k X) (sym z)
plus_eq (fin t (suc m) e) x s h X U C v w = eq_at (fin t (suc m) e) x s (h * U) s X U C v w ∙ like (eqb (h * U) X) (beq s s || eqb (h * U) 0) (self_level s (h * U))

whole_mult : (X : ℕ) → eqb (half_up X * 2 ^ 1074) X ≡ eqb (X % 2 ^ 1074) 0
whole_mult X = same_tests (eqb (half_up X * 2 ^ 1074) X) (eqb (X % 2 ^ 1074) 0)
    (λ (t : T (eqb (half_up X * 2 ^ 1074) X)). eq→eqb (ap (λ (z : ℕ). z % 2 ^ 1074) (sym (eqb→eq (half_up X * 2 ^ 1074) X t)) ∙ mul-mod_left (half_up X) (2 ^ 1074)))
    (λ (t : T (eqb (X % 2 ^ 1074) 0)).
    let e : X ≡ X / 2 ^ 1074 * 2 ^ 1074 = sym (div-add-mod' X (2 ^ 1074)) ∙ ap (λ (z : ℕ). X / 2 ^ 1074 * 2 ^ 1074 + z) (eqb→eq (X % 2 ^ 1074) 0 t) ∙ add-zero (X / 2 ^ 1074 * 2 ^ 1074) in
    eq→eqb (ap (λ (z : ℕ). z * 2 ^ 1074) (ap half_up e ∙ whole_half (X / 2 ^ 1074) (2 ^ 1074) (pow_pos 1074)) ∙ sym e))

pub whole_is : (x : Float) → T (fits binary64 x) → eq (whole_near x) x ≡ whole_bound x
unfolding whole_bound
whole_is nan f = unfold whole_near eq in refl
whole_is (inf true) f = unfold whole_near eq in refl
whole_is (inf false) f = unfold whole_near eq in refl
whole_is (fin s m e) f = go (leb edge X) (leb→le edge X) (nleb→lt edge X) ∙ sym (ap (λ (z : ℤ). eqb (nat_abs z % 2 ^ 1074) 0) (units_of s m e X p.value) ∙ ap (λ (z : ℕ). eqb (z % 2 ^ 1074) 0) (abs_signed s X))
  where
    p : Placed binary64 s (fin s m e)
    p = placed binary64 s m e f

    X : ℕ
    X = p.m * 2 ^ p.j

    n : ℕ
    n = p.m * 2 ^ (p.j - 1074)

    mult : edge ≤ X → X ≡ n * 2 ^ 1074
    mult h = ap (λ (z : ℕ). p.m * z) (ap (λ (z : ℕ). 2 ^ z) (sym (back p.j 1074 (exponent p.m p.j p.digits h))) ∙ pow-add 2 (p.j - 1074) 1074) ∙ sym (mul_assoc p.m (2 ^ (p.j - 1074)) (2 ^ 1074))

    go : (b : Bool) → (T b → edge ≤ X) → (T (not b) → X < edge) → eq (whole_near (fin s m e)) (fin s m e) ≡ eqb (X % 2 ^ 1074) 0
    go true h k =
        ap (λ (z : Float). eq z (fin s m e)) (sym (big_is s m e f p (h tt)))
        ∙ eq_at (fin s m e) (fin s m e) s X s X (2 ^ 1074) (pow_pos 1074) p.value p.value
        ∙ like (eqb X X) (beq s s || eqb X 0) (self_level s X)
        ∙ is_true (eqb X X) (eqb_refl X)
        ∙ sym (is_true (eqb (X % 2 ^ 1074) 0) (eq→eqb (ap (λ (z : ℕ). z % 2 ^ 1074) (mult (h tt)) ∙ mul-mod_left n (2 ^ 1074))))
    go false h k =
        ap (λ (z : Float). eq z (fin s m e)) (whole_at s m e p)
        ∙ plus_eq (round binary64 s (half_up X) 1) (fin s m e) s (half_up X) X (2 ^ 1074) (pow_pos 1074) (scale (round binary64 s (half_up X) 1) s (half_up X) (2 ^ 1074) (round_whole binary64 s (half_up X) (half_small X (k tt)))) p.value
        ∙ whole_mult X

-- ---- what is whole
multiple_whole : (t : Bool) (m : ℕ) (e : ℤ) (n : ℕ) → in_units (fin t m e) ≡ signed t (n * 2 ^ 1074) → whole_bound (fin t m e) ≡ true
unfolding whole_bound
multiple_whole t m e n h =
    ap (λ (z : ℤ). eqb (nat_abs z % 2 ^ 1074) 0) h
    ∙ ap (λ (z : ℕ). eqb (z % 2 ^ 1074) 0) (abs_signed t (n * 2 ^ 1074))
    ∙ ap (λ (z : ℕ). eqb z 0) (mul-mod_left n (2 ^ 1074))

-- a whole number of ones, over one
pub times_whole : (x : Float) (s : Bool) (n : ℕ) → HasValue x s (n * 2 ^ 1074) (2 ^ 1074) → whole_bound x ≡ true
times_whole nan s n v = absurd v
times_whole (inf t) s n v = absurd v
times_whole (fin t m e) s n v = multiple_whole t m e n (units_of t m e (n * 2 ^ 1074) (refl, v.1))

-- and the units of what is whole are that many
pub whole_times : (s : Bool) (m : ℕ) (e : ℤ) (X : ℕ) → HasValue (fin s m e) s X (2 ^ 1074) → whole_bound (fin s m e) ≡ true → X ≡ X / 2 ^ 1074 * 2 ^ 1074
unfolding whole_bound
whole_times s m e X v w =
    let z : X % 2 ^ 1074 ≡ 0 = ap (λ (k : ℕ). k % 2 ^ 1074) (sym (ap nat_abs (units_of s m e X v) ∙ abs_signed s X)) ∙ eqb→eq (nat_abs (in_units (fin s m e)) % 2 ^ 1074) 0 (≡→T w) in
    sym (div-add-mod' X (2 ^ 1074)) ∙ ap (λ (k : ℕ). X / 2 ^ 1074 * 2 ^ 1074 + k) z ∙ add-zero (X / 2 ^ 1074 * 2 ^ 1074)

-- a value that is a whole number
pub value_whole : (x : Float) (s : Bool) (n : ℕ) → HasValue x s n 1 → whole_bound x ≡ true
value_whole x s n v = times_whole x s n (scale x s n (2 ^ 1074) v)

-- from 2 ^ 52 on
pub large_whole : (s : Bool) (m : ℕ) (e : ℤ) (p : Placed binary64 s (fin s m e)) → edge ≤ p.m * 2 ^ p.j → whole_bound (fin s m e) ≡ true
large_whole s m e p h = multiple_whole s m e (p.m * 2 ^ (p.j - 1074)) (units_of s m e (p.m * 2 ^ p.j) p.value ∙ ap (signed s) mult)
  where
    mult : p.m * 2 ^ p.j ≡ p.m * 2 ^ (p.j - 1074) * 2 ^ 1074
    mult = ap (λ (z : ℕ). p.m * z) (ap (λ (z : ℕ). 2 ^ z) (sym (back p.j 1074 (exponent p.m p.j p.digits h))) ∙ pow-add 2 (p.j - 1074) 1074) ∙ sym (mul_assoc p.m (2 ^ (p.j - 1074)) (2 ^ 1074))

-- the whole number nearest to x
pub near_whole : (x : Float) → T (fits binary64 x) → T (finite x) → whole_bound (whole_near x) ≡ true
near_whole nan f g = absurd g
near_whole (inf s) f g = absurd g
near_whole (fin s m e) f g = go (leb edge X) (leb→le edge X) (nleb→lt edge X)
  where
    p : Placed binary64 s (fin s m e)
    p = placed binary64 s m e f

    X : ℕ
    X = p.m * 2 ^ p.j

    go : (b : Bool) → (T b → edge ≤ X) → (T (not b) → X < edge) → whole_bound (whole_near (fin s m e)) ≡ true
    go true h k = ap whole_bound (sym (big_is s m e f p (h tt))) ∙ large_whole s m e p (h tt)
    go false h k =
        ap whole_bound (whole_at s m e p)
        ∙ as_whole false (round binary64 s (half_up X) 1)
        ∙ value_whole (round binary64 s (half_up X) 1) s (half_up X) (round_whole binary64 s (half_up X) (half_small X (k tt)))
