-- The comparisons of two numbers are those of any fractions over one denominator that they equal (`lt_at`, `eq_at`, `le_at`), and so
-- of their units (`lt_units`). Assumes nothing.
use Rattle.std.proofs.Common.{◌≡◌, ℕ, zero, suc, ◌+◌, ◌*◌, ◌^◌, ◌<◌, Bool, true, false, ◌&&◌, ◌||◌, T, eqb, ltb, ℤ, sym, refl, ap, ◌∙◌, mul_assoc, mul_comm, add-mul, mul-pos, zero-add, zero-mul, mul_right_comm, arith, eqb→eq, ltb→lt, lt→ltb, pow_pos, le-ltb, lt-ltb}
use native.Mathlib.Nat.{eq_of_mul-eq-mul_right}
use mathlib.Core.Bool.{beq}
use lib.Signed.{lt_z}
use lib.Ieee.{Float, nan, inf, fin, binary64, up, down, below, level, lt, eq, le, fits}
use lib.Ieee.Fits.{down_pos, eq→eqb}
use lib.Ieee.Exact.{HasValue}
use lib.Ieee.Scale.{finite}
use Rattle.base.proofs.Test.{same_tests}
use Rattle.interval.specs.Bounds.{signed, in_units}
use Rattle.interval.proofs.Value.{placed}
use Rattle.interval.proofs.Halving.{ltb_scale}
use Rattle.interval.proofs.HalfSum.{units_of}

eqb_scale : (A B C a b c : ℕ) → 0 < C → 0 < c → A * c ≡ a * C → B * c ≡ b * C → eqb A B ≡ eqb a b
eqb_scale A B C a b c C+ c+ p q =
    same_tests (eqb A B) (eqb a b)
    (λ (t : T (eqb A B)). eq→eqb (eq_of_mul-eq-mul_right C C+ a b (sym p ∙ ap (λ (z : ℕ). z * c) (eqb→eq A B t) ∙ q)))
    (λ (t : T (eqb a b)). eq→eqb (eq_of_mul-eq-mul_right c c+ A B (p ∙ ap (λ (z : ℕ). z * C) (eqb→eq a b t) ∙ sym q)))

below_scale : (s : Bool) (A : ℕ) (t : Bool) (B C a b c : ℕ) → 0 < C → 0 < c → A * c ≡ a * C → B * c ≡ b * C → below s A t B ≡ below s a t b
below_scale false A false B C a b c C+ c+ p q = ltb_scale A B C a b c C+ c+ p q
below_scale false A true B C a b c C+ c+ p q = refl
below_scale true A false B C a b c C+ c+ p q =
    ltb_scale 0 (A + B) C 0 (a + b) c C+ c+ (zero-mul c ∙ sym (zero-mul C)) (add-mul A B c ∙ ap (λ (z : ℕ). z + B * c) p ∙ ap (λ (z : ℕ). a * C + z) q ∙ sym (add-mul a b C))
below_scale true A true B C a b c C+ c+ p q = ltb_scale B A C b a c C+ c+ q p

level_scale : (s : Bool) (A : ℕ) (t : Bool) (B C a b c : ℕ) → 0 < C → 0 < c → A * c ≡ a * C → B * c ≡ b * C → level s A t B ≡ level s a t b
level_scale s A t B C a b c C+ c+ p q =
    ap (λ (z : Bool). z && (beq s t || eqb A 0)) (eqb_scale A B C a b c C+ c+ p q)
    ∙ ap (λ (z : Bool). eqb a b && (beq s t || z)) (eqb_scale A 0 C a 0 c C+ c+ p (zero-mul c ∙ sym (zero-mul C)))

-- by any fractions over one denominator
pub lt_at : (x y : Float) (s : Bool) (a : ℕ) (t : Bool) (b c : ℕ) → 0 < c → HasValue x s a c → HasValue y t b c → lt x y ≡ below s a t b
unfolding lt
lt_at nan y s a t b c C v w = absurd v
lt_at (inf u) y s a t b c C v w = absurd v
lt_at (fin u m e) nan s a t b c C v w = absurd w
lt_at (fin u m e) (inf r) s a t b c C v w = absurd w
lt_at (fin u m e) (fin r n d) s a t b c C v w =
    ap (λ (z : Bool). below z (m * up e * down d) r (n * up d * down e)) v.0
    ∙ ap (λ (z : Bool). below s (m * up e * down d) z (n * up d * down e)) w.0
    ∙ below_scale s (m * up e * down d) t (n * up d * down e) (down e * down d) a b c (mul-pos (down_pos e) (down_pos d)) C
    (mul_right_comm (m * up e) (down d) c ∙ ap (λ (z : ℕ). z * down d) v.1 ∙ mul_assoc a (down e) (down d))
    (mul_right_comm (n * up d) (down e) c ∙ ap (λ (z : ℕ). z * down e) w.1 ∙ mul_assoc b (down d) (down e) ∙ ap (λ (z : ℕ). b * z) (mul_comm (down d) (down e)))

pub eq_at : (x y : Float) (s : Bool) (a : ℕ) (t : Bool) (b c : ℕ) → 0 < c → HasValue x s a c → HasValue y t b c → eq x y ≡ level s a t b
unfolding eq
eq_at nan y s a t b c C v w = absurd v
eq_at (inf u) y s a t b c C v w = absurd v
eq_at (fin u m e) nan s a t b c C v w = absurd w
eq_at (fin u m e) (inf r) s a t b c C v w = absurd w
eq_at (fin u m e) (fin r n d) s a t b c C v w =
    ap (λ (z : Bool). level z (m * up e * down d) r (n * up d * down e)) v.0
    ∙ ap (λ (z : Bool). level s (m * up e * down d) z (n * up d * down e)) w.0
    ∙ level_scale s (m * up e * down d) t (n * up d * down e) (down e * down d) a b c (mul-pos (down_pos e) (down_pos d)) C
    (mul_right_comm (m * up e) (down d) c ∙ ap (λ (z : ℕ). z * down d) v.1 ∙ mul_assoc a (down e) (down d))
    (mul_right_comm (n * up d) (down e) c ∙ ap (λ (z : ℕ). z * down e) w.1 ∙ mul_assoc b (down d) (down e) ∙ ap (λ (z : ℕ). b * z) (mul_comm (down d) (down e)))

pub le_at : (x y : Float) (s : Bool) (a : ℕ) (t : Bool) (b c : ℕ) → 0 < c → HasValue x s a c → HasValue y t b c → le x y ≡ below s a t b || level s a t b
unfolding le
le_at x y s a t b c C v w = ap (λ (z : Bool). z || eq x y) (lt_at x y s a t b c C v w) ∙ ap (λ (z : Bool). below s a t b || z) (eq_at x y s a t b c C v w)

-- ---- as integers
pub below_is : (s : Bool) (a : ℕ) (t : Bool) (b : ℕ) → below s a t b ≡ lt_z (signed s a) (signed t b)
below_is false a false b = refl
below_is false a true zero = sym (le-ltb a 0 (omega arith))
below_is false a true (suc b) = refl
below_is true zero false b = ap (λ (z : ℕ). ltb 0 z) (zero-add b)
below_is true (suc a) false b = lt-ltb 0 (suc a + b) (omega arith)
below_is true zero true zero = refl
below_is true zero true (suc b) = le-ltb (suc b) 0 (omega arith)
below_is true (suc a) true zero = lt-ltb 0 (suc a) (omega arith)
below_is true (suc a) true (suc b) = same_tests (ltb (suc b) (suc a)) (ltb b a) (λ (t : T (ltb (suc b) (suc a))). lt→ltb b a (down' (ltb→lt (suc b) (suc a) t))) (λ (t : T (ltb b a)). lt→ltb (suc b) (suc a) (up' (ltb→lt b a t)))
  where
    down' : suc b < suc a → b < a
    down' h = omega arith

    up' : b < a → suc b < suc a
    up' h = omega arith

-- x < y exactly where the number of units of x is below that of y
pub lt_units : (x y : Float) → T (fits binary64 x) → T (fits binary64 y) → T (finite x) → T (finite y) → lt x y ≡ lt_z (in_units x) (in_units y)
lt_units nan y p q f g = absurd f
lt_units (inf s) y p q f g = absurd f
lt_units (fin s m e) nan p q f g = absurd g
lt_units (fin s m e) (inf t) p q f g = absurd g
lt_units (fin s m e) (fin t n d) p q f g =
    let u = placed binary64 s m e p in
    let v = placed binary64 t n d q in
    let a = u.m * 2 ^ u.j in
    let b = v.m * 2 ^ v.j in
    lt_at (fin s m e) (fin t n d) s a t b (2 ^ 1074) (pow_pos 1074) u.value v.value
    ∙ below_is s a t b
    ∙ ap (λ (z : ℤ). lt_z z (signed t b)) (sym (units_of s m e a u.value))
    ∙ ap (λ (z : ℤ). lt_z (in_units (fin s m e)) z) (sym (units_of t n d b v.value))
