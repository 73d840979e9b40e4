-- Half of a sum, three ways that agree: by the sum where that is finite (`by_the_sum`), by the halves where it overflows
-- (`by_the_halves`), and by the definition on whole numbers. Assumes nothing.
use Rattle.std.proofs.Common.{◌≡◌, ℕ, zero, suc, ◌+◌, ◌-◌, ◌*◌, ◌/◌, ◌^◌, ◌<◌, ◌≤◌, Bool, true, false, cond, not, ◌&&◌, T, ltb, ℤ, pos, negsuc, ◌+ℤ◌, neg_ℤ, sym, refl, ap, ◌∙◌, subst, not-suc-le-zero, lt_irrefl, zero-lt-suc, mul-pos, zero-mul, mul-div_cancel, arith, ltb→lt, nltb→le, pow_pos}
use lib.IntN.{sub_ℕ, +ℤ_comm, neg_ℤ-+ℤ}
use lib.Dec.{not_T}
use lib.Ieee.{Float, nan, inf, fin, binary64, low, down, round, sum, add, mul, of_bits, fits}
use lib.Ieee.Fits.{up_pos, down_pos}
use lib.Ieee.Exact.{HasValue, round_exact}
use lib.Ieee.Bits.{cond_no}
use lib.Ieee.Scale.{finite}
use Rattle.interval.specs.Bounds.{signed, in_units, plus_zero, zero_as}
use Rattle.interval.specs.Middle.{rounded, half_sum}
use Rattle.interval.proofs.Value.{placed}
use Rattle.interval.proofs.Halving.{half, sum_then_half, halves_then_sum}

-- ---- the units of a finite value
pub units_of : (s : Bool) (m : ℕ) (e : ℤ) (a : ℕ) → HasValue (fin s m e) s a (2 ^ low binary64) → in_units (fin s m e) ≡ signed s a
unfolding in_units
units_of s m e a v = ap (λ (z : ℕ). signed s (z / down e)) v.1 ∙ ap (signed s) (mul-div_cancel a (down_pos e))

-- ---- `sum` and the sum of integers, but for the sign of a zero
pub value_zero : (x : Float) (s : Bool) (c : ℕ) → 0 < c → HasValue x s 0 c → plus_zero x ≡ fin false 0 (pos 0)
unfolding zero_as
value_zero nan s c C v = absurd v
value_zero (inf t) s c C v = absurd v
value_zero (fin t zero e) s c C v = refl
value_zero (fin t (suc m) e) s c C v = absurd (lt_irrefl 0 (subst (λ (z : ℕ). 0 < z) (v.1 ∙ zero-mul (down e)) (mul-pos (mul-pos (zero-lt-suc m) (up_pos e)) C)))

round_zero : (s : Bool) (c : ℕ) → 0 < c → plus_zero (round binary64 s 0 c) ≡ fin false 0 (pos 0)
round_zero s c C = value_zero (round binary64 s 0 c) s c C (round_exact binary64 s 0 c 0 0 C (pow_pos 53) (pow_pos 2098) (zero-mul (2 ^ 1074) ∙ sym (zero-mul c)))

pub neg_rounded : (n c : ℕ) → 0 < c → plus_zero (round binary64 true n c) ≡ plus_zero (rounded (neg_ℤ (pos n)) c)
unfolding rounded
neg_rounded zero c C = round_zero true c C ∙ sym (round_zero false c C)
neg_rounded (suc n) c C = refl

less : (a b : ℕ) → a < b → suc (b - suc a) ≡ b - a
less a b h = omega arith

sub_rounded : (a b c : ℕ) → rounded (sub_ℕ a b) c ≡ cond (ltb a b) (round binary64 true (b - a) c) (round binary64 false (a - b) c)
unfolding rounded
sub_rounded a b c = go (ltb a b) (ltb→lt a b)
  where
    go : (x : Bool) → (T x → a < b) → rounded (cond x (negsuc (b - suc a)) (pos (a - b))) c ≡ cond x (round binary64 true (b - a) c) (round binary64 false (a - b) c)
    go true h = ap (λ (z : ℕ). round binary64 true z c) (less a b (h tt))
    go false h = refl

same : (a : ℕ) → a + 0 ≡ a - 0
same a = omega arith

pub plus_neg : (a b : ℕ) → pos a +ℤ neg_ℤ (pos b) ≡ sub_ℕ a b
plus_neg a zero = ap pos (same a) ∙ sym (cond_no (ltb a 0) (negsuc (0 - suc a)) (pos (a - 0)) (not_T (ltb a 0) (λ (t : T (ltb a 0)). not-suc-le-zero (ltb→lt a 0 t))))
plus_neg a (suc b) = refl

clash : (a b : ℕ) → a < b → b < a → ⊥
clash a b h k = omega arith

level_off : (a b : ℕ) → b ≤ a → a ≤ b → a - b ≡ b - a
level_off a b h k = omega arith

reversed : (a b c : ℕ) → cond (ltb a b) (round binary64 false (b - a) c) (round binary64 (ltb b a) (a - b) c) ≡ cond (ltb b a) (round binary64 true (a - b) c) (round binary64 false (b - a) c)
reversed a b c = go (ltb a b) (ltb b a) (ltb→lt a b) (ltb→lt b a) (nltb→le a b) (nltb→le b a)
  where
    go : (x y : Bool) → (T x → a < b) → (T y → b < a) → (T (not x) → b ≤ a) → (T (not y) → a ≤ b)
        → cond x (round binary64 false (b - a) c) (round binary64 y (a - b) c) ≡ cond y (round binary64 true (a - b) c) (round binary64 false (b - a) c)
    go true true h k p q = absurd (clash a b (h tt) (k tt))
    go true false h k p q = refl
    go false true h k p q = refl
    go false false h k p q = ap (λ (z : ℕ). round binary64 false z c) (level_off a b (p tt) (q tt))

pub integer_sum : (s : Bool) (a : ℕ) (t : Bool) (b c : ℕ) → 0 < c → plus_zero (sum binary64 s a t b c) ≡ plus_zero (rounded (signed s a +ℤ signed t b) c)
unfolding rounded sum
integer_sum false a false b c C = refl
integer_sum false a true b c C = ap plus_zero (sym (sub_rounded a b c) ∙ ap (λ (z : ℤ). rounded z c) (sym (plus_neg a b)))
integer_sum true a false b c C = ap plus_zero (reversed a b c ∙ sym (sub_rounded b a c) ∙ ap (λ (z : ℤ). rounded z c) (sym (+ℤ_comm (neg_ℤ (pos a)) (pos b) ∙ plus_neg b a)))
integer_sum true a true b c C = neg_rounded (a + b) c C ∙ ap (λ (z : ℤ). plus_zero (rounded z c)) (neg_ℤ-+ℤ (pos a) (pos b))

-- ---- the two paths
twice : 0 < 2 ^ 1074 * 2
twice = mul-pos (pow_pos 1074) (zero-lt-suc 1)

half_is : of_bits binary64 0x3fe0_0000_0000_0000 ≡ half
unfolding of_bits
half_is = refl

pub by_the_sum : (x y : Float) → T (fits binary64 x) → T (fits binary64 y) → T (finite x && finite y) → T (finite (add binary64 x y))
    → plus_zero (mul binary64 (add binary64 x y) (of_bits binary64 0x3fe0_0000_0000_0000)) ≡ half_sum x y
unfolding half_sum
by_the_sum nan y p q f h = absurd f
by_the_sum (inf s) y p q f h = absurd f
by_the_sum (fin s m e) nan p q f h = absurd f
by_the_sum (fin s m e) (inf t) p q f h = absurd f
by_the_sum (fin s m e) (fin t n d) p q f h =
    let x = fin s m e in
    let y = fin t n d in
    let u = placed binary64 s m e p in
    let v = placed binary64 t n d q in
    let a = u.m * 2 ^ u.j in
    let b = v.m * 2 ^ v.j in
    ap (λ (z : Float). plus_zero (mul binary64 (add binary64 x y) z)) half_is
    ∙ ap plus_zero (sum_then_half binary64 x y s a t b u.value v.value h)
    ∙ integer_sum s a t b (2 ^ 1074 * 2) twice
    ∙ ap (λ (z : ℤ). plus_zero (rounded (z +ℤ signed t b) (2 ^ 1074 * 2))) (sym (units_of s m e a u.value))
    ∙ ap (λ (z : ℤ). plus_zero (rounded (in_units x +ℤ z) (2 ^ 1074 * 2))) (sym (units_of t n d b v.value))

pub by_the_halves : (x y : Float) → T (fits binary64 x) → T (fits binary64 y) → T (finite x && finite y) → T (not (finite (add binary64 x y)))
    → plus_zero (add binary64 (mul binary64 x (of_bits binary64 0x3fe0_0000_0000_0000)) (mul binary64 y (of_bits binary64 0x3fe0_0000_0000_0000))) ≡ half_sum x y
unfolding half_sum
by_the_halves nan y p q f h = absurd f
by_the_halves (inf s) y p q f h = absurd f
by_the_halves (fin s m e) nan p q f h = absurd f
by_the_halves (fin s m e) (inf t) p q f h = absurd f
by_the_halves (fin s m e) (fin t n d) p q f h =
    let x = fin s m e in
    let y = fin t n d in
    let u = placed binary64 s m e p in
    let v = placed binary64 t n d q in
    let a = u.m * 2 ^ u.j in
    let b = v.m * 2 ^ v.j in
    ap (λ (z : Float). plus_zero (add binary64 (mul binary64 x z) (mul binary64 y z))) half_is
    ∙ ap plus_zero (halves_then_sum x y s t u v h)
    ∙ integer_sum s a t b (2 ^ 1074 * 2) twice
    ∙ ap (λ (z : ℤ). plus_zero (rounded (z +ℤ signed t b) (2 ^ 1074 * 2))) (sym (units_of s m e a u.value))
    ∙ ap (λ (z : ℤ). plus_zero (rounded (in_units x +ℤ z) (2 ^ 1074 * 2))) (sym (units_of t n d b v.value))
