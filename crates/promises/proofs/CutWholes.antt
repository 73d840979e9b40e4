-- Whole f64s as integers: their order is that of the integers, and a width that is counted in units is the integers' difference. The arithmetic stands
-- over any number U of units to one. Assumes nothing.
use mathlib.Core.Path.{◌≡◌, refl, sym, ap, ◌∙◌}
use mathlib.Core.Bool.{Bool, true, false, ◌&&◌}
use Prim.Native.Nat.{ℕ, zero, suc, ◌*◌, ◌/◌, ◌^◌, ◌<◌}
use native.Mathlib.Omega.{arith}
use native.Mathlib.Nat.{zero-mul, suc-mul, mul-one, mul_right_comm, mul-div_cancel, zero-div, eq_of_mul-eq-mul_right}
use lib.Dec.{T, eqb, eqb→eq}
use lib.Pow.{pow_pos}
use lib.IntN.{ℤ, pos, neg_ℤ, nat_abs, ◌+ℤ◌, ◌-ℤ◌, ◌*ℤ◌, +ℤ-suc_ℤ, suc_ℤ-*ℤ, +ℤ_assoc, +ℤ_comm, +ℤ_idr, +ℤ-neg_ℤ_cancel, pos-+ℤ-pos, zero-*ℤ, pos-*ℤ-pos}
use lib.IntN.{negsuc-*ℤ-pos}
use lib.Signed.{le_z, lt_z}
use lib.Ieee.{Float, nan, inf, fin, binary64, up, down, le, lt, fits}
use lib.Ieee.Exact.{HasValue}
use lib.Ieee.Fits.{down_pos}
use lib.Ieee.Scale.{finite}
use Rattle.base.proofs.Test.{≡→T, and_left, and_right}
use Rattle.interval.specs.declared.Interval.{Interval}
use Rattle.interval.specs.Bounds.{signed, in_units, whole_bound, zero_as}
use Rattle.interval.specs.Cuts.{width_is}
use Rattle.interval.proofs.Value.{placed}
use Rattle.interval.proofs.HalfSum.{units_of}
use Rattle.interval.proofs.Wholeness.{whole_times}
use Rattle.interval.proofs.Compare.{lt_at, le_at, below_is}
use Rattle.interval.proofs.UnitsOrder.{le_is, gap}
use Rattle.promises.specs.Mixes.{whole_of}

-- a zero is one integer, whatever its sign
signed_none : (s t : Bool) → signed s 0 ≡ signed t 0
signed_none false false = refl
signed_none false true = refl
signed_none true false = refl
signed_none true true = refl

pub whole_put : (t : Bool) (x : Float) → whole_of (zero_as t x) ≡ whole_of x
unfolding whole_of zero_as
whole_put t nan = refl
whole_put t (inf s) = refl
whole_put t (fin s zero e) = signed_none t s ∙ sym (ap (signed s) (ap (λ (n : ℕ). n / down e) (zero-mul (up e)) ∙ zero-div (down e)))
whole_put t (fin s (suc m) e) = refl

-- a whole f64: its integer, and its units
pub record Whole (x : Float) : Type 0 where
  pub sign : Bool
  pub size : ℕ
  pub value : HasValue x sign size 1
  pub integer : whole_of x ≡ signed sign size
  pub units : in_units x ≡ signed sign (size * 2 ^ 1074)

over_one : (a n d U X : ℕ) → 0 < U → a * U ≡ X * d → X ≡ n * U → a * 1 ≡ n * d
over_one a n d U X h e f = mul-one a ∙ eq_of_mul-eq-mul_right U h a (n * d) (e ∙ ap (λ (z : ℕ). z * d) f ∙ mul_right_comm n U d)

pub whole_is : (x : Float) → T (fits binary64 x) → T (finite x) → whole_bound x ≡ true → Whole x
unfolding whole_of
whole_is nan f g w = absurd g
whole_is (inf s) f g w = absurd g
whole_is (fin s m e) f g w =
    let p = placed binary64 s m e f in
    let X = p.m * 2 ^ p.j in
    let n = X / 2 ^ 1074 in
    let k : X ≡ n * 2 ^ 1074 = whole_times s m e X p.value w in
    let v : m * up e * 1 ≡ n * down e = over_one (m * up e) n (down e) (2 ^ 1074) X (pow_pos 1074) p.value.1 k in
    record {
      sign = s;
      size = n;
      value = (refl, v);
      integer = ap (λ (z : ℕ). signed s (z / down e)) (sym (mul-one (m * up e)) ∙ v) ∙ ap (signed s) (mul-div_cancel n (down_pos e));
      units = units_of s m e X p.value ∙ ap (signed s) k;
    }

-- ---- order

pub whole_lt : (x y : Float) → Whole x → Whole y → lt x y ≡ lt_z (whole_of x) (whole_of y)
whole_lt x y a b =
    lt_at x y a.sign a.size b.sign b.size 1 (omega arith) a.value b.value
    ∙ below_is a.sign a.size b.sign b.size ∙ rw (a.integer, b.integer)

pub whole_le : (x y : Float) → Whole x → Whole y → le x y ≡ le_z (whole_of x) (whole_of y)
whole_le x y a b =
    le_at x y a.sign a.size b.sign b.size 1 (omega arith) a.value b.value
    ∙ le_is a.sign a.size b.sign b.size ∙ rw (a.integer, b.integer)

-- ---- width

times_signed : (s : Bool) (n U : ℕ) → signed s (n * U) ≡ signed s n *ℤ pos U
times_signed false n U = sym (pos-*ℤ-pos n U)
times_signed true zero U = ap (λ (z : ℕ). neg_ℤ (pos z)) (zero-mul U) ∙ sym (zero-*ℤ (pos U))
times_signed true (suc n) U = sym (negsuc-*ℤ-pos n U)

times_further : (z : ℤ) (d U : ℕ) → (z +ℤ pos d) *ℤ pos U ≡ z *ℤ pos U +ℤ pos (d * U)
times_further z zero U = ap (λ (w : ℤ). w *ℤ pos U) (+ℤ_idr z) ∙ sym (ap (λ (n : ℕ). z *ℤ pos U +ℤ pos n) (zero-mul U) ∙ +ℤ_idr (z *ℤ pos U))
times_further z (suc d) U =
    ap (λ (w : ℤ). w *ℤ pos U) (+ℤ-suc_ℤ z (pos d)) ∙ suc_ℤ-*ℤ (z +ℤ pos d) (pos U)
    ∙ ap (λ (w : ℤ). w +ℤ pos U) (times_further z d U) ∙ +ℤ_assoc (z *ℤ pos U) (pos (d * U)) (pos U)
    ∙ ap (λ (w : ℤ). z *ℤ pos U +ℤ w) (pos-+ℤ-pos (d * U) U ∙ ap pos (sym (suc-mul d U)))

less_itself : (z : ℤ) (n : ℕ) → nat_abs ((z +ℤ pos n) -ℤ z) ≡ n
less_itself z n = ap (λ (w : ℤ). nat_abs (w -ℤ z)) (+ℤ_comm z (pos n)) ∙ ap nat_abs (+ℤ-neg_ℤ_cancel (pos n) z)

wide : (s t : Bool) (a b U k : ℕ) → 0 < U → T (le_z (signed s a) (signed t b)) → nat_abs (signed t (b * U) -ℤ signed s (a * U)) ≡ k * U
    → signed t b ≡ signed s a +ℤ pos k
wide s t a b U k h l e =
    let g = gap (signed s a) (signed t b) l in
    let d = g.0 in
    let z = signed s a *ℤ pos U in
    let u : signed t (b * U) ≡ z +ℤ pos (d * U) = times_signed t b U ∙ ap (λ (w : ℤ). w *ℤ pos U) g.1 ∙ times_further (signed s a) d U in
    let n : d * U ≡ k * U = sym (ap (λ (w : ℤ). nat_abs (w -ℤ signed s (a * U))) u ∙ ap (λ (w : ℤ). nat_abs ((z +ℤ pos (d * U)) -ℤ w)) (times_signed s a U) ∙ less_itself z (d * U)) ∙ e in
    let m : d ≡ k = eq_of_mul-eq-mul_right U h d k n in
    g.1 ∙ ap (λ (j : ℕ). signed s a +ℤ pos j) m

-- both ends of an interval that has a width are numbers, and the upper is so much further
pub width_ends : (k : ℕ) (v : Interval) → width_is k v ≡ true
    → T (finite v.lower) × T (finite v.upper) × (nat_abs (in_units v.upper -ℤ in_units v.lower) ≡ k * 2 ^ 1074)
unfolding width_is
width_ends k v e =
    let a = finite v.lower in
    let b = finite v.upper in
    let c = eqb (nat_abs (in_units v.upper -ℤ in_units v.lower)) (k * 2 ^ 1074) in
    let f = and_left (a && b) c e in
    (≡→T (and_left a b f), ≡→T (and_right a b f), eqb→eq (nat_abs (in_units v.upper -ℤ in_units v.lower)) (k * 2 ^ 1074) (≡→T (and_right (a && b) c e)))

pub whole_width : (k : ℕ) (x y : Float) → Whole x → Whole y → le x y ≡ true → nat_abs (in_units y -ℤ in_units x) ≡ k * 2 ^ 1074 → whole_of y ≡ whole_of x +ℤ pos k
whole_width k x y a b l e =
    b.integer
    ∙ wide a.sign b.sign a.size b.size (2 ^ 1074) k (pow_pos 1074) (≡→T (sym (rw (a.integer, b.integer) at (whole_le x y a b)) ∙ l))
    (ap (λ (w : ℤ). nat_abs (w -ℤ signed a.sign (a.size * 2 ^ 1074))) (sym b.units) ∙ ap (λ (w : ℤ). nat_abs (in_units y -ℤ w)) (sym a.units) ∙ e)
    ∙ ap (λ (w : ℤ). w +ℤ pos k) (sym a.integer)
