-- The code's tests for [-inf, b]: the comparisons with zero are those of units, and twice b passes the least finite number exactly
-- where it overflows. Also the mirror image of a number, and that half of a sum is finite. Assumes nothing.
use Rattle.std.proofs.Common.{◌≡◌, ℕ, zero, suc, ◌+◌, ◌*◌, ◌/◌, ◌%◌, ◌^◌, ◌<◌, ◌≤◌, Bool, true, false, cond, not, ◌&&◌, T, eqb, ltb, ℤ, pos, negsuc, ◌+ℤ◌, ◌*ℤ◌, neg_ℤ, nat_abs, sym, refl, ap, ◌∙◌, subst, le_trans, lt_of_le_of_lt, lt_irrefl, mul-le-mul_right, zero-lt-suc, mul_assoc, mul-pos, pow-suc, mul-one, mul_right_comm, not-le_of_lt, arith, lit<, ltb→lt, lt→ltb, nltb→le, pow_pos}
use lib.IntN.{neg_ℤ-neg_ℤ}
use lib.Signed.{lt_z}
use lib.Dec.{not_T}
use lib.Ieee.{Float, nan, inf, fin, Format, binary64, up, down, odd, units, round, mul, neg, lt, le, of_bits, fits}
use lib.Ieee.Fits.{down_pos}
use lib.Ieee.Exact.{HasValue, round_exact}
use lib.Ieee.Order.{drop, kept, round_mono}
use lib.Ieee.Scale.{grid, overflow, round_same}
use lib.Ieee.Scale.{finite}
use Rattle.base.proofs.Test.{T→≡}
use Rattle.interval.proofs.Naturals.{twice_pos}
use Rattle.interval.specs.Bounds.{signed, in_units, plus_zero, whole_bound}
use Rattle.interval.specs.Middle.{rounded, half_sum, largest_finite}
use Rattle.interval.specs.Kinds.{largest_units, cut_up_to}
use Rattle.interval.proofs.Value.{Placed, placed, round_val}
use Rattle.interval.proofs.Halving.{at_most_max, sign, magn, magn_le, sum_is, le_finite, under_finite, unlike_false}
use Rattle.interval.proofs.Zeros.{keeps_finite}
use Rattle.interval.proofs.HalfSum.{units_of, integer_sum}
use Rattle.interval.proofs.Compare.{lt_at, lt_units, below_is}

-- ---- comparisons with zero
pub nought_fits : T (fits binary64 (fin false 0 (pos 0)))
unfolding fits
nought_fits = tt

pub under_zero : (b : Float) → T (fits binary64 b) → T (finite b) → lt b (of_bits binary64 0) ≡ lt_z (in_units b) (pos 0)
unfolding of_bits in_units
under_zero b f g = lt_units b (fin false 0 (pos 0)) f nought_fits g tt

pub over_zero : (b : Float) → T (fits binary64 b) → T (finite b) → lt (of_bits binary64 0) b ≡ lt_z (pos 0) (in_units b)
unfolding of_bits in_units
over_zero b f g = lt_units (fin false 0 (pos 0)) b nought_fits f tt g

pub cut_positive : (b : Float) → T (fits binary64 b) → T (finite b) → lt b (of_bits binary64 0) ≡ false → lt (of_bits binary64 0) b ≡ true → of_bits binary64 0 ≡ cut_up_to (in_units b)
unfolding of_bits
cut_positive b f g h k =
    sym (ap (λ (z : Bool). cond z (cond (lt_z (in_units b *ℤ pos 2) (neg_ℤ (pos largest_units))) (largest_finite true) (rounded (in_units b *ℤ pos 2) (2 ^ 1074))) (cond (lt_z (pos 0) (in_units b)) (fin false 0 (pos 0)) (fin true 1 (pos 0)))) (sym (under_zero b f g) ∙ h)
    ∙ ap (λ (z : Bool). cond z (fin false 0 (pos 0)) (fin true 1 (pos 0))) (sym (over_zero b f g) ∙ k))

pub cut_zero : (b : Float) → T (fits binary64 b) → T (finite b) → lt b (of_bits binary64 0) ≡ false → lt (of_bits binary64 0) b ≡ false → neg (of_bits binary64 0x3ff0_0000_0000_0000) ≡ cut_up_to (in_units b)
unfolding of_bits neg
cut_zero b f g h k =
    sym (ap (λ (z : Bool). cond z (cond (lt_z (in_units b *ℤ pos 2) (neg_ℤ (pos largest_units))) (largest_finite true) (rounded (in_units b *ℤ pos 2) (2 ^ 1074))) (cond (lt_z (pos 0) (in_units b)) (fin false 0 (pos 0)) (fin true 1 (pos 0)))) (sym (under_zero b f g) ∙ h)
    ∙ ap (λ (z : Bool). cond z (fin false 0 (pos 0)) (fin true 1 (pos 0))) (sym (over_zero b f g) ∙ k))

-- ---- doubling
abbrev two : Float
two = fin false 1 (pos 1)

mul_two : (f : Format) (x : Float) (s : Bool) (a c : ℕ) → 0 < c → HasValue x s a c → mul f x two ≡ round f s (a * 2) c
unfolding mul
mul_two f nan s a c C v = absurd v
mul_two f (inf t) s a c C v = absurd v
mul_two f (fin t m e) s a c C v =
    ap (λ (z : Bool). round f z (m * up e * (1 * 2)) (down e * 1)) (unlike_false t ∙ v.0)
    ∙ round_same f s (m * up e * 2) (down e * 1) (a * 2) c (mul-pos (down_pos e) (zero-lt-suc 0)) C
    (mul_right_comm (m * up e) 2 c ∙ ap (λ (z : ℕ). z * 2) v.1 ∙ mul_right_comm a (down e) 2 ∙ ap (λ (z : ℕ). a * 2 * z) (sym (mul-one (down e))))

-- from 2 ^ 1024 on a fraction rounds to an infinity
brim_infinite : round binary64 false (2 ^ 2098) (2 ^ 1074) ≡ inf false
unfolding round
brim_infinite = refl

pub inf_not_below : (x : Float) (a c : ℕ) → HasValue x false a c → T (le (inf false) x) → ⊥
unfolding le
inf_not_below nan a c v h = v
inf_not_below (inf t) a c v h = v
inf_not_below (fin t m e) a c v h = h

over_grid : (N : ℕ) → 2 ^ 2098 ≤ N → grid binary64 N (2 ^ 1074) < overflow binary64 → ⊥
over_grid N h g =
    inf_not_below (round binary64 false N (2 ^ 1074)) (grid binary64 N (2 ^ 1074)) (2 ^ 1074) (round_val binary64 false N (2 ^ 1074) g)
    (subst (λ (z : Float). T (le z (round binary64 false N (2 ^ 1074)))) brim_infinite (round_mono binary64 (2 ^ 2098) (2 ^ 1074) N (2 ^ 1074) (pow_pos 1074) (pow_pos 1074) (mul-le-mul_right (2 ^ 1074) h)))

pub over_inf : (s : Bool) (N : ℕ) → 2 ^ 2098 ≤ N → round binary64 s N (2 ^ 1074) ≡ inf s
unfolding round units
over_inf s N h = go (ltb (grid binary64 N (2 ^ 1074)) (overflow binary64)) (ltb→lt (grid binary64 N (2 ^ 1074)) (overflow binary64))
  where
    q : ℕ
    q = kept 53 (N * 2 ^ 1074) (2 ^ 1074)

    k : ℕ
    k = drop 53 (N * 2 ^ 1074) (2 ^ 1074)

    go : (b : Bool) → (T b → grid binary64 N (2 ^ 1074) < overflow binary64) → cond b (odd 54 s q k 1074) (inf s) ≡ inf s
    go true g = absurd (over_grid N h (g tt))
    go false g = refl

-- b below zero, X units in size: twice that, or the least finite number
rounded_neg : (n c : ℕ) → 0 < n → rounded (neg_ℤ (pos n)) c ≡ round binary64 true n c
unfolding rounded
rounded_neg zero c h = absurd (lt_irrefl 0 h)
rounded_neg (suc n) c h = refl

twice_signed : (X : ℕ) → 0 < X → signed true X *ℤ pos 2 ≡ neg_ℤ (pos (X * 2))
twice_signed zero h = absurd (lt_irrefl 0 h)
twice_signed (suc X) h = refl

neg_under : (X : ℕ) → 0 < X → lt_z (signed true X) (pos 0) ≡ true
neg_under zero h = absurd (lt_irrefl 0 h)
neg_under (suc X) h = refl

pub cut_units : (X : ℕ) → 0 < X → cut_up_to (signed true X) ≡ cond (ltb largest_units (X * 2)) (largest_finite true) (round binary64 true (X * 2) (2 ^ 1074))
cut_units X h =
    ap (λ (z : Bool). cond z (cond (lt_z (signed true X *ℤ pos 2) (neg_ℤ (pos largest_units))) (largest_finite true) (rounded (signed true X *ℤ pos 2) (2 ^ 1074))) (cond (lt_z (pos 0) (signed true X)) (fin false 0 (pos 0)) (fin true 1 (pos 0)))) (neg_under X h)
    ∙ ap (λ (z : ℤ). cond (lt_z z (neg_ℤ (pos largest_units))) (largest_finite true) (rounded z (2 ^ 1074))) (twice_signed X h)
    ∙ ap (λ (z : Bool). cond z (largest_finite true) (rounded (neg_ℤ (pos (X * 2))) (2 ^ 1074))) (sym (below_is true (X * 2) true largest_units))
    ∙ ap (λ (z : Float). cond (ltb largest_units (X * 2)) (largest_finite true) z) (rounded_neg (X * 2) (2 ^ 1074) (twice_pos X h))

-- ---- the tests of `cut_up_to` below zero
no_below : (X : ℕ) → ltb X 0 ≡ true → ⊥
no_below X h = bad (ltb→lt X 0 (subst T (sym h) tt))
  where
    bad : X < 0 → ⊥
    bad h = omega arith

record Negative (b : Float) : Type 0 where
  at : Placed binary64 true b
  some : 0 < at.m * 2 ^ at.j
  is_units : in_units b ≡ signed true (at.m * 2 ^ at.j)

plus_none : (X : ℕ) → X + 0 ≡ X
plus_none X = omega arith

negative : (b : Float) → T (fits binary64 b) → T (finite b) → lt b (of_bits binary64 0) ≡ true → Negative b
unfolding of_bits
negative nan f g h = absurd g
negative (inf s) f g h = absurd g
negative (fin false m e) f g h =
    let p = placed binary64 false m e f in
    absurd (no_below (p.m * 2 ^ p.j) (sym (lt_at (fin false m e) (fin false 0 (pos 0)) false (p.m * 2 ^ p.j) false 0 (2 ^ 1074) (pow_pos 1074) p.value (refl, refl)) ∙ h))
negative (fin true m e) f g h =
    let p = placed binary64 true m e f in
    let X = p.m * 2 ^ p.j in
    record {
      at = p;
      some = ltb→lt 0 X (subst T (sym (ap (λ (z : ℕ). ltb 0 z) (sym (plus_none X)) ∙ sym (lt_at (fin true m e) (fin false 0 (pos 0)) true X false 0 (2 ^ 1074) (pow_pos 1074) p.value (refl, refl)) ∙ h)) tt);
      is_units = units_of true m e X p.value;
    }

-- twice b is below the least finite number exactly where it overflows
test_is : (b : Float) (n : Negative b) → lt (mul binary64 b two) (largest_finite true) ≡ ltb largest_units (n.at.m * 2 ^ n.at.j * 2)
test_is b n = go (ltb largest_units (X * 2)) (ltb→lt largest_units (X * 2)) (nltb→le largest_units (X * 2))
  where
    X : ℕ
    X = n.at.m * 2 ^ n.at.j

    e : n.at.m * 2 ^ suc n.at.j ≡ X * 2
    e = ap (λ (z : ℕ). n.at.m * z) (pow-suc 2 n.at.j) ∙ sym (mul_assoc n.at.m (2 ^ n.at.j) 2)

    d : mul binary64 b two ≡ round binary64 true (X * 2) (2 ^ 1074)
    d = mul_two binary64 b true X (2 ^ 1074) (pow_pos 1074) n.at.value

    far : largest_units < X * 2 → 2 ^ 2098 ≤ X * 2
    far h = nltb→le (X * 2) (2 ^ 2098) (not_T (ltb (X * 2) (2 ^ 2098)) (λ (t : T (ltb (X * 2) (2 ^ 2098))). not-le_of_lt h (subst (λ (z : ℕ). z ≤ largest_units) e (at_most_max 53 2045 n.at.m (suc n.at.j) n.at.digits (subst (λ (z : ℕ). z < 2 ^ 2098) (sym e) (ltb→lt (X * 2) (2 ^ 2098) t))))))

    inf_lt : lt (inf true) (largest_finite true) ≡ true
    inf_lt = unfold lt in refl

    near : X * 2 ≤ largest_units → HasValue (round binary64 true (X * 2) (2 ^ 1074)) true (X * 2) (2 ^ 1074)
    near h = round_exact binary64 true (X * 2) (2 ^ 1074) n.at.m (suc n.at.j) (pow_pos 1074) n.at.digits (subst (λ (z : ℕ). z < 2 ^ 2098) (sym e) (lt_of_le_of_lt h (lit< tt))) (ap (λ (z : ℕ). z * 2 ^ 1074) (sym e))

    test : X * 2 ≤ largest_units → lt (mul binary64 b two) (largest_finite true) ≡ ltb largest_units (X * 2)
    test h = ap (λ (z : Float). lt z (largest_finite true)) d ∙ lt_at (round binary64 true (X * 2) (2 ^ 1074)) (largest_finite true) true (X * 2) true largest_units (2 ^ 1074) (pow_pos 1074) (near h) (refl, refl)

    go : (x : Bool) → (T x → largest_units < X * 2) → (T (not x) → X * 2 ≤ largest_units) → lt (mul binary64 b two) (largest_finite true) ≡ ltb largest_units (X * 2)
    go true h k = ap (λ (z : Float). lt z (largest_finite true)) (d ∙ over_inf true (X * 2) (far (h tt))) ∙ inf_lt ∙ sym (T→≡ (ltb largest_units (X * 2)) (lt→ltb largest_units (X * 2) (h tt)))
    go false h k = test (k tt)

pub cut_clipped : (b : Float) → T (fits binary64 b) → T (finite b) → lt b (of_bits binary64 0) ≡ true → lt (mul binary64 b (of_bits binary64 0x4000_0000_0000_0000)) (neg (of_bits binary64 0x7fef_ffff_ffff_ffff)) ≡ true → neg (of_bits binary64 0x7fef_ffff_ffff_ffff) ≡ cut_up_to (in_units b)
unfolding of_bits neg
cut_clipped b f g h k =
    let n = negative b f g h in
    let X = n.at.m * 2 ^ n.at.j in
    sym (ap cut_up_to n.is_units ∙ cut_units X n.some ∙ ap (λ (z : Bool). cond z (largest_finite true) (round binary64 true (X * 2) (2 ^ 1074))) (sym (test_is b n) ∙ k))

pub cut_doubled : (b : Float) → T (fits binary64 b) → T (finite b) → lt b (of_bits binary64 0) ≡ true → lt (mul binary64 b (of_bits binary64 0x4000_0000_0000_0000)) (neg (of_bits binary64 0x7fef_ffff_ffff_ffff)) ≡ false → mul binary64 b (of_bits binary64 0x4000_0000_0000_0000) ≡ cut_up_to (in_units b)
unfolding of_bits neg
cut_doubled b f g h k =
    let n = negative b f g h in
    let X = n.at.m * 2 ^ n.at.j in
    mul_two binary64 b true X (2 ^ 1074) (pow_pos 1074) n.at.value
    ∙ sym (ap cut_up_to n.is_units ∙ cut_units X n.some ∙ ap (λ (z : Bool). cond z (largest_finite true) (round binary64 true (X * 2) (2 ^ 1074))) (sym (test_is b n) ∙ k))

-- ---- the mirror
pub units_neg : (x : Float) → in_units (neg x) ≡ neg_ℤ (in_units x)
unfolding in_units neg
units_neg nan = refl
units_neg (inf s) = refl
units_neg (fin false m e) = refl
units_neg (fin true m e) = sym (neg_ℤ-neg_ℤ (pos (m * up e * 2 ^ 1074 / down e)))

abs_neg : (z : ℤ) → nat_abs (neg_ℤ z) ≡ nat_abs z
abs_neg (pos zero) = refl
abs_neg (pos (suc n)) = refl
abs_neg (negsuc n) = refl

pub neg_whole : (x : Float) → whole_bound (neg x) ≡ whole_bound x
unfolding whole_bound neg
neg_whole nan = refl
neg_whole (inf s) = refl
neg_whole (fin s m e) = ap (λ (z : ℤ). eqb (nat_abs z % 2 ^ 1074) 0) (units_neg (fin s m e)) ∙ ap (λ (z : ℕ). eqb (z % 2 ^ 1074) 0) (abs_neg (in_units (fin s m e)))

pub neg_finite : (x : Float) → T (finite x) → T (finite (neg x))
unfolding neg
neg_finite nan h = h
neg_finite (inf s) h = h
neg_finite (fin s m e) h = h

-- ---- half of a sum is finite
abbrev twice_largest : ℕ
twice_largest = largest_units * 2

top_finite : T (finite (round binary64 false twice_largest (2 ^ 1074 * 2)))
unfolding round
top_finite = tt

two_largest : (a b L : ℕ) → a ≤ L → b ≤ L → a + b ≤ L * 2
two_largest a b L h k = omega arith

pub half_finite : (x y : Float) → T (fits binary64 x) → T (fits binary64 y) → T (finite x && finite y) → T (finite (half_sum x y))
unfolding half_sum
half_finite nan y p q f = absurd f
half_finite (inf s) y p q f = absurd f
half_finite (fin s m e) nan p q f = absurd f
half_finite (fin s m e) (inf t) p q f = absurd f
half_finite (fin s m e) (fin t n d) p q f =
    let u = placed binary64 s m e p in
    let v = placed binary64 t n d q in
    let a = u.m * 2 ^ u.j in
    let b = v.m * 2 ^ v.j in
    let W = 2 ^ 1074 * 2 in
    let W+ : 0 < W = mul-pos (pow_pos 1074) (zero-lt-suc 1) in
    let N = magn s a t b in
    let N≤ : N ≤ twice_largest = le_trans (magn_le s a t b) (two_largest a b largest_units (at_most_max 53 2045 u.m u.j u.digits u.under) (at_most_max 53 2045 v.m v.j v.digits v.under)) in
    let g : grid binary64 N W < overflow binary64 = le_finite binary64 N W (round binary64 false twice_largest W) (round_mono binary64 N W twice_largest W W+ W+ (mul-le-mul_right W N≤)) top_finite in
    subst (λ (z : Float). T (finite z))
    (ap plus_zero (sym (sum_is binary64 s a t b W))
    ∙ integer_sum s a t b W W+
    ∙ ap (λ (z : ℤ). plus_zero (rounded (z +ℤ signed t b) W)) (sym (units_of s m e a u.value))
    ∙ ap (λ (z : ℤ). plus_zero (rounded (in_units (fin s m e) +ℤ z) W)) (sym (units_of t n d b v.value)))
    (keeps_finite false (round binary64 (sign s a t b) N W) (under_finite binary64 (sign s a t b) N W g))
