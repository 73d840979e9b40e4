-- The candidates: a sum, a product, and a quotient by a number above zero, of two finite f64s, are the exact ones, rounded, but for the sign of a zero; and where
-- a sum, a product or a quotient is finite, so was what it was made of. Assumes nothing.
use mathlib.Core.Path.{◌≡◌, refl, sym, ap, ◌∙◌, subst}
use Prim.Native.Nat.{ℕ, zero, suc, ◌*◌, ◌^◌, ◌<◌}
use native.Mathlib.Nat.{mul_assoc, mul_comm, mul_right_comm, mul-mul-mul_comm, mul-pos, zero-mul, zero-lt-suc, eq_of_mul-eq-mul_right}
use native.Mathlib.Omega.{arith}
use mathlib.Core.Bool.{Bool, true, false, cond}
use lib.IntN.{ℤ, pos, neg_ℤ, nat_abs, pos-ne-negsuc, ◌+ℤ◌, ◌*ℤ◌}
use lib.Dec.{T, eqb, eqb→eq, not_T}
use lib.Pow.{pow_pos}
use lib.Ieee.{Float, nan, inf, fin, binary64, up, down, unlike, round, add, mul, div, fits}
use lib.Ieee.Fits.{down_pos, up_pos}
use lib.Ieee.Bits.{cond_no}
use lib.Ieee.Scale.{finite, round_same}
use Rattle.interval.specs.Bounds.{signed, in_units, plus_zero}
use Rattle.interval.specs.Middle.{rounded}
use Rattle.interval.proofs.Value.{placed}
use Rattle.interval.proofs.Halving.{add_at, sum_is}
use Rattle.interval.proofs.HalfSum.{units_of, integer_sum}
use Rattle.interval.proofs.Wholeness.{abs_signed}
use Rattle.interval.proofs.HalfBetween.{plus_signed}

pub add_is : (x y : Float) → T (fits binary64 x) → T (fits binary64 y) → T (finite x) → T (finite y)
    → plus_zero (add binary64 x y) ≡ plus_zero (rounded (in_units x +ℤ in_units y) (2 ^ 1074))
add_is nan y p q f g = absurd f
add_is (inf s) y p q f g = absurd f
add_is (fin s m e) nan p q f g = absurd g
add_is (fin s m e) (inf t) p q f g = absurd g
add_is (fin s m e) (fin t n d) p q f g =
    let u = placed binary64 s m e p in
    let v = placed binary64 t n d q in
    let a = u.m * 2 ^ u.j in
    let b = v.m * 2 ^ v.j in
    let U = 2 ^ 1074 in
    ap plus_zero (add_at binary64 (fin s m e) (fin t n d) s a t b U (pow_pos 1074) u.value v.value ∙ sym (sum_is binary64 s a t b U))
    ∙ integer_sum s a t b U (pow_pos 1074)
    ∙ ap (λ (z : ℤ). plus_zero (rounded (z +ℤ signed t b) U)) (sym (units_of s m e a u.value))
    ∙ ap (λ (z : ℤ). plus_zero (rounded (in_units (fin s m e) +ℤ z) U)) (sym (units_of t n d b v.value))

-- ---- the product
neg_pos : (a b : ℕ) → neg_ℤ (pos a) *ℤ pos b ≡ neg_ℤ (pos (a * b))
neg_pos zero b = ap pos (zero-mul b) ∙ sym (ap (λ (z : ℕ). neg_ℤ (pos z)) (zero-mul b))
neg_pos (suc a) b = refl

none : (a : ℕ) → a * 0 ≡ 0
none a = omega arith

signed_times : (s : Bool) (a : ℕ) (t : Bool) (b : ℕ) → signed s a *ℤ signed t b ≡ signed (unlike s t) (a * b)
signed_times false a false b = refl
signed_times false a true zero = ap pos (none a) ∙ sym (ap (λ (z : ℕ). neg_ℤ (pos z)) (none a))
signed_times false a true (suc b) = refl
signed_times true a false b = neg_pos a b
signed_times true zero true zero = refl
signed_times true zero true (suc b) = ap (λ (z : ℕ). neg_ℤ (pos z)) (zero-mul (suc b)) ∙ sym (ap pos (zero-mul (suc b)))
signed_times true (suc a) true zero = ap (λ (z : ℕ). neg_ℤ (pos z)) (none (suc a)) ∙ sym (ap pos (none (suc a)))
signed_times true (suc a) true (suc b) = refl

-- (M / p) (N / q) is (a / U) (b / U)
cross_product : (M N p q a b U : ℕ) → M * U ≡ a * p → N * U ≡ b * q → M * N * (U * U) ≡ a * b * (p * q)
cross_product M N p q a b U e f = mul-mul-mul_comm M N U U ∙ ap (λ (z : ℕ). z * (N * U)) e ∙ ap (λ (z : ℕ). a * p * z) f ∙ mul-mul-mul_comm a p b q

pub mul_is : (x y : Float) → T (fits binary64 x) → T (fits binary64 y) → T (finite x) → T (finite y)
    → plus_zero (mul binary64 x y) ≡ plus_zero (rounded (in_units x *ℤ in_units y) (2 ^ 1074 * 2 ^ 1074))
unfolding mul
mul_is nan y p q f g = absurd f
mul_is (inf s) y p q f g = absurd f
mul_is (fin s m e) nan p q f g = absurd g
mul_is (fin s m e) (inf t) p q f g = absurd g
mul_is (fin s m e) (fin t n d) p q f g =
    let u = placed binary64 s m e p in
    let v = placed binary64 t n d q in
    let a = u.m * 2 ^ u.j in
    let b = v.m * 2 ^ v.j in
    let U = 2 ^ 1074 in
    let W : 0 < U * U = mul-pos (pow_pos 1074) (pow_pos 1074) in
    ap plus_zero
    (round_same binary64 (unlike s t) (m * up e * (n * up d)) (down e * down d) (a * b) (U * U) (mul-pos (down_pos e) (down_pos d)) W
    (cross_product (m * up e) (n * up d) (down e) (down d) a b U u.value.1 v.value.1))
    ∙ sym (plus_signed (unlike s t) (a * b) (U * U) W)
    ∙ ap (λ (z : ℤ). plus_zero (rounded z (U * U))) (sym (signed_times s a t b))
    ∙ ap (λ (z : ℤ). plus_zero (rounded (z *ℤ signed t b) (U * U))) (sym (units_of s m e a u.value))
    ∙ ap (λ (z : ℤ). plus_zero (rounded (in_units (fin s m e) *ℤ z) (U * U))) (sym (units_of t n d b v.value))

-- ---- the quotient
-- (M / p) / (N / q) is a / b
cross_quotient : (M N p q a b U : ℕ) → 0 < U → M * U ≡ a * p → N * U ≡ b * q → M * q * b ≡ a * (N * p)
cross_quotient M N p q a b U U+ e f =
    eq_of_mul-eq-mul_right U U+ (M * q * b) (a * (N * p))
    (ap (λ (z : ℕ). z * U) (mul_assoc M q b) ∙ mul_right_comm M (q * b) U ∙ ap (λ (z : ℕ). z * (q * b)) e
    ∙ sym
    (mul_assoc a (N * p) U
    ∙ ap (λ (z : ℕ). a * z) (mul_right_comm N p U ∙ ap (λ (z : ℕ). z * p) (f ∙ mul_comm b q) ∙ mul_comm (q * b) p)
    ∙ sym (mul_assoc a p (q * b))))

plus_sign : (t : Bool) (B b : ℕ) → signed t B ≡ pos (suc b) → (t ≡ false) × (B ≡ suc b)
plus_sign t B b h = go t (sym (abs_signed t B) ∙ ap nat_abs h) h
  where
    go : (t : Bool) → B ≡ suc b → signed t B ≡ pos (suc b) → (t ≡ false) × (B ≡ suc b)
    go false e h = (refl, e)
    go true e h = absurd (pos-ne-negsuc (suc b) b (sym h ∙ ap (λ (z : ℕ). neg_ℤ (pos z)) e))

nonzero : (n u U B d : ℕ) → n * u * U ≡ B * d → 0 < B → 0 < d → n ≡ 0 → ⊥
nonzero n u U B d e h k z = clash (n * u * U) (B * d) e (ap (λ (y : ℕ). y * u * U) z ∙ ap (λ (y : ℕ). y * U) (zero-mul u) ∙ zero-mul U) (mul-pos h k)
  where
    clash : (x y : ℕ) → x ≡ y → x ≡ 0 → 0 < y → ⊥
    clash x y e f g = omega arith

positive_product : (n u : ℕ) → (n ≡ 0 → ⊥) → 0 < u → 0 < n * u
positive_product zero u h k = absurd (h refl)
positive_product (suc n) u h k = mul-pos (zero-lt-suc n) k

unlike_false : (s : Bool) → unlike s false ≡ s
unlike_false true = refl
unlike_false false = refl

pub div_is : (x y : Float) (b : ℕ) → T (fits binary64 x) → T (fits binary64 y) → T (finite x) → T (finite y)
    → in_units y ≡ pos (suc b) → plus_zero (div binary64 x y) ≡ plus_zero (rounded (in_units x) (suc b))
unfolding div
div_is nan y b p q f g h = absurd f
div_is (inf s) y b p q f g h = absurd f
div_is (fin s m e) nan b p q f g h = absurd g
div_is (fin s m e) (inf t) b p q f g h = absurd g
div_is (fin s m e) (fin t n d) b p q f g h =
    let u = placed binary64 s m e p in
    let v = placed binary64 t n d q in
    let a = u.m * 2 ^ u.j in
    let B = v.m * 2 ^ v.j in
    let U = 2 ^ 1074 in
    let k = plus_sign t B b (sym (units_of t n d B v.value) ∙ h) in
    let B+ : 0 < B = subst (λ (z : ℕ). 0 < z) (sym k.1) (zero-lt-suc b) in
    let n+ : n ≡ 0 → ⊥ = nonzero n (up d) U B (down d) v.value.1 B+ (down_pos d) in
    let N+ : 0 < n * up d = positive_product n (up d) n+ (up_pos d) in
    ap plus_zero
    (cond_no (eqb n 0) (cond (eqb m 0) nan (inf (unlike s t))) (round binary64 (unlike s t) (m * up e * down d) (n * up d * down e))
    (not_T (eqb n 0) (λ (z : T (eqb n 0)). n+ (eqb→eq n 0 z)))
    ∙ ap (λ (z : Bool). round binary64 z (m * up e * down d) (n * up d * down e)) (ap (unlike s) k.0 ∙ unlike_false s)
    ∙ round_same binary64 s (m * up e * down d) (n * up d * down e) a (suc b) (mul-pos N+ (down_pos e)) (zero-lt-suc b)
    (subst (λ (z : ℕ). m * up e * down d * z ≡ a * (n * up d * down e)) k.1
    (cross_quotient (m * up e) (n * up d) (down e) (down d) a B U (pow_pos 1074) u.value.1 v.value.1)))
    ∙ sym (plus_signed s a (suc b) (zero-lt-suc b))
    ∙ ap (λ (z : ℤ). plus_zero (rounded z (suc b))) (sym (units_of s m e a u.value))

-- ---- a finite result has finite operands
pub add_finite : (x y : Float) → T (finite (add binary64 x y)) → T (finite x) × T (finite y)
unfolding add
add_finite nan y h = absurd h
add_finite (inf s) nan h = absurd h
add_finite (inf true) (inf true) h = absurd h
add_finite (inf true) (inf false) h = absurd h
add_finite (inf false) (inf true) h = absurd h
add_finite (inf false) (inf false) h = absurd h
add_finite (inf s) (fin t n d) h = absurd h
add_finite (fin s m e) nan h = absurd h
add_finite (fin s m e) (inf t) h = absurd h
add_finite (fin s m e) (fin t n d) h = (tt, tt)

none_finite : (t s : Bool) → T (finite (cond t nan (inf s))) → ⊥
none_finite true s h = h
none_finite false s h = h

pub mul_finite : (x y : Float) → T (finite (mul binary64 x y)) → T (finite x) × T (finite y)
unfolding mul
mul_finite nan y h = absurd h
mul_finite (inf s) nan h = absurd h
mul_finite (inf s) (inf t) h = absurd h
mul_finite (inf s) (fin t n d) h = absurd (none_finite (eqb n 0) (unlike s t) h)
mul_finite (fin s m e) nan h = absurd h
mul_finite (fin s m e) (inf t) h = absurd (none_finite (eqb m 0) (unlike s t) h)
mul_finite (fin s m e) (fin t n d) h = (tt, tt)

pub div_finite : (x y : Float) → T (finite (div binary64 x y)) → T (finite x)
unfolding div
div_finite nan y h = absurd h
div_finite (inf s) nan h = absurd h
div_finite (inf s) (inf t) h = absurd h
div_finite (inf s) (fin t n d) h = absurd h
div_finite (fin s m e) y h = tt
