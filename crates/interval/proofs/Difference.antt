-- The float difference of two numbers is the exact one, rounded (`sub_is`), and a rounded whole number is a small whole number k
-- exactly where it was k (`whole_test`). Assumes nothing.
use Rattle.std.proofs.Common.{◌≡◌, ℕ, zero, suc, ◌*◌, ◌^◌, ◌<◌, ◌≤◌, Bool, true, false, not, ◌||◌, T, eqb, leb, ℤ, pos, ◌+ℤ◌, ◌-ℤ◌, neg_ℤ, sym, refl, ap, ◌∙◌, subst, mul-le-mul_right, zero-lt-suc, mul-lt-mul_of_pos_right, mul-one, mul_right_comm, not-le_of_lt, arith, eqb→eq, leb→le, pow_pos}
use mathlib.Core.Bool.{beq, false≢true, and-true}
use lib.IntN.{neg_ℤ-neg_ℤ}
use lib.Signed.{le_z}
use lib.Dec.{nleb→lt, not_T}
use lib.Ieee.{Float, nan, inf, fin, binary64, up, down, round, sub, neg, eq, le, fits}
use lib.Ieee.Fits.{down_pos}
use lib.Ieee.Bits.{is_false}
use lib.Ieee.Back.{round_whole}
use lib.Ieee.Exact.{HasValue}
use lib.Ieee.Order.{round_mono}
use lib.Ieee.Scale.{finite}
use Rattle.base.proofs.Test.{T→≡, ≡→T, and_left}
use Rattle.interval.specs.Bounds.{signed, in_units, plus_zero}
use Rattle.interval.specs.Middle.{rounded}
use Rattle.interval.proofs.Value.{placed}
use Rattle.interval.proofs.Halving.{add_at, sum_is}
use Rattle.interval.proofs.HalfSum.{units_of, integer_sum}
use Rattle.interval.proofs.Compare.{le_at, eq_at}
use Rattle.interval.proofs.UnitsOrder.{le_is}

sign_flip : (s : Bool) (n : ℕ) → signed (not s) n ≡ neg_ℤ (signed s n)
sign_flip false n = refl
sign_flip true n = sym (neg_ℤ-neg_ℤ (pos n))

-- a difference is the exact one, rounded, but for the sign of a zero
pub sub_is : (x y : Float) → T (fits binary64 x) → T (fits binary64 y) → T (finite x) → T (finite y) → plus_zero (sub binary64 x y) ≡ plus_zero (rounded (in_units x -ℤ in_units y) (2 ^ 1074))
unfolding sub neg
sub_is nan y p q f g = absurd f
sub_is (inf s) y p q f g = absurd f
sub_is (fin s m e) nan p q f g = absurd g
sub_is (fin s m e) (inf t) p q f g = absurd g
sub_is (fin s m e) (fin t n d) p q f g =
    let u = placed binary64 s m e p in
    let v = placed binary64 t n d q in
    let a = u.m * 2 ^ u.j in
    let b = v.m * 2 ^ v.j in
    let U = 2 ^ 1074 in
    let w : HasValue (fin (not t) n d) (not t) b U = (refl, v.value.1) in
    ap plus_zero (add_at binary64 (fin s m e) (fin (not t) n d) s a (not t) b U (pow_pos 1074) u.value w ∙ sym (sum_is binary64 s a (not t) b U))
    ∙ integer_sum s a (not t) b U (pow_pos 1074)
    ∙ ap (λ (z : ℤ). plus_zero (rounded (signed s a +ℤ z) U)) (sign_flip t b)
    ∙ ap (λ (z : ℤ). plus_zero (rounded (z +ℤ neg_ℤ (signed t b)) U)) (sym (units_of s m e a u.value))
    ∙ ap (λ (z : ℤ). plus_zero (rounded (in_units (fin s m e) +ℤ neg_ℤ z) U)) (sym (units_of t n d b v.value))

-- ---- a whole number of at most 2, tested
abbrev pub num : ℕ → Float
num k = round binary64 false k 1

small_eq : (d k : ℕ) → d ≤ 2 ^ 53 → k ≤ 2 ^ 53 → eq (num d) (num k) ≡ eqb d k
small_eq d k h g = eq_at (num d) (num k) false d false k 1 (zero-lt-suc 0) (round_whole binary64 false d h) (round_whole binary64 false k g) ∙ and-true (eqb d k)

pub scale : (x : Float) (s : Bool) (a D : ℕ) → HasValue x s a 1 → HasValue x s (a * D) D
scale nan s a D v = v
scale (inf t) s a D v = v
scale (fin t m e) s a D v = (v.0, ap (λ (z : ℕ). z * D) (sym (mul-one (m * up e)) ∙ v.1) ∙ mul_right_comm a (down e) D)

inf_not_eq : (t s : Bool) (y : Float) (a c : ℕ) → HasValue y s a c → eq (inf t) y ≡ true → ⊥
unfolding eq
inf_not_eq t s nan a c v e = v
inf_not_eq t s (inf u) a c v e = v
inf_not_eq t s (fin u m d) a c v e = false≢true e

nan_not_eq : (y : Float) → eq nan y ≡ true → ⊥
unfolding eq
nan_not_eq y e = false≢true e

more : (k D : ℕ) → 0 < D → k * D < suc k * D
more k D h = mul-lt-mul_of_pos_right (lt_suc k) h
  where
    lt_suc : (k : ℕ) → k < suc k
    lt_suc k = omega arith

no_order : (t : Bool) (M n : ℕ) → n < M → T (le_z (pos M) (signed t n)) → ⊥
no_order false M n h l = not-le_of_lt h (leb→le M n l)
no_order true M zero h l = not-le_of_lt h (leb→le M 0 l)
no_order true M (suc n) h l = l

le_not_eq : (x : Float) (k : ℕ) → suc k ≤ 2 ^ 53 → k ≤ 2 ^ 53 → T (le (num (suc k)) x) → eq x (num k) ≡ true → ⊥
le_not_eq nan k h g l e = nan_not_eq (num k) e
le_not_eq (inf t) k h g l e = inf_not_eq t false (num k) k 1 (round_whole binary64 false k g) e
le_not_eq (fin t n d) k h g l e =
    let D = down d in
    let x = fin t n d in
    let v : HasValue x t (n * up d) D = (refl, refl) in
    let q : n * up d ≡ k * D = eqb→eq (n * up d) (k * D) (≡→T (and_left (eqb (n * up d) (k * D)) (beq t false || eqb (n * up d) 0) (sym (eq_at x (num k) t (n * up d) false (k * D) D (down_pos d) v (scale (num k) false k D (round_whole binary64 false k g))) ∙ e))) in
    no_order t (suc k * D) (n * up d) (subst (λ (z : ℕ). z < suc k * D) (sym q) (more k D (down_pos d)))
    (subst T (le_at (num (suc k)) x false (suc k * D) t (n * up d) D (down_pos d) (scale (num (suc k)) false (suc k) D (round_whole binary64 false (suc k) h)) v ∙ le_is false (suc k * D) t (n * up d)) l)

-- d rounded is k exactly where d is k, for a k below 2 ^ 53
pub whole_test : (d k : ℕ) → suc k ≤ 2 ^ 53 → eq (num d) (num k) ≡ eqb d k
whole_test d k h = go (leb d (2 ^ 53)) (leb→le d (2 ^ 53)) (nleb→lt d (2 ^ 53))
  where
    le_pred : suc k ≤ 2 ^ 53 → k ≤ 2 ^ 53
    le_pred h = omega arith

    far : 2 ^ 53 < d → (suc k ≤ d) × (d ≡ k → ⊥)
    far g = (near (2 ^ 53) g h, off (2 ^ 53) g h)
      where
        near : (p : ℕ) → p < d → suc k ≤ p → suc k ≤ d
        near p a b = omega arith

        off : (p : ℕ) → p < d → suc k ≤ p → d ≡ k → ⊥
        off p a b c = omega arith

    go : (b : Bool) → (T b → d ≤ 2 ^ 53) → (T (not b) → 2 ^ 53 < d) → eq (num d) (num k) ≡ eqb d k
    go true f g = small_eq d k (f tt) (le_pred h)
    go false f g =
        is_false (eq (num d) (num k)) (not_T (eq (num d) (num k)) (λ (t : T (eq (num d) (num k))). le_not_eq (num d) k h (le_pred h) (round_mono binary64 (suc k) 1 d 1 (zero-lt-suc 0) (zero-lt-suc 0) (mul-le-mul_right 1 (far (g tt)).0)) (T→≡ (eq (num d) (num k)) t)))
        ∙ sym (is_false (eqb d k) (not_T (eqb d k) (λ (t : T (eqb d k)). (far (g tt)).1 (eqb→eq d k t))))
