-- Rounding to whole keeps the order (`whole_mono`) and keeps a whole number, so the whole number nearest to what lies between two
-- whole bounds lies between them too (`whole_below`, `whole_above`). Assumes nothing.
use Rattle.std.proofs.Common.{◌≡◌, ℕ, zero, suc, ◌+◌, ◌*◌, ◌^◌, ◌<◌, ◌≤◌, Bool, true, false, not, T, leb, ℤ, pos, negsuc, ◌+ℤ◌, neg_ℤ, sym, refl, ap, ◌∙◌, subst, mul-le-mul_right, zero-lt-suc, mul-pos, arith, le→leb, leb→le, pow_pos}
use lib.IntN.{+ℤ_assoc}
use lib.Signed.{le_z}
use lib.Dec.{nleb→lt}
use lib.Ieee.{Float, nan, inf, fin, binary64, round, eq, lt, le, fits}
use lib.Ieee.Nearest.{div_mono}
use lib.Ieee.Back.{round_whole}
use lib.Ieee.Exact.{HasValue}
use lib.Ieee.Scale.{finite}
use Rattle.base.proofs.Test.{≡→T, of_right}
use Rattle.interval.specs.Bounds.{in_units, plus_zero, whole_bound}
use Rattle.interval.specs.Middle.{rounded, half_away, whole_near}
use Rattle.interval.proofs.Value.{Placed, placed}
use Rattle.interval.proofs.WholeRounding.{half_up, edge, whole_at, half_small, big_is}
use Rattle.interval.proofs.Wholeness.{whole_is}
use Rattle.interval.proofs.UnitsOrder.{gap, plus_le, le_units}
use Rattle.interval.proofs.HalfBetween.{rounded_mono, rounded_fits}
use Rattle.interval.proofs.Sameness.{eq_sym}
use Rattle.interval.proofs.Zeros.{as_fits, as_le, keeps_finite}

-- ---- the integers
add_pos : (z : ℤ) (n k : ℕ) → z +ℤ pos n +ℤ pos k ≡ z +ℤ pos (n + k)
add_pos z n k = +ℤ_assoc z (pos n) (pos k)

pub le_z_trans : (z w v : ℤ) → T (le_z z w) → T (le_z w v) → T (le_z z v)
le_z_trans z w v h k =
    let g = gap z w h in
    let f = gap w v k in
    subst (λ (y : ℤ). T (le_z z y)) (sym (f.1 ∙ ap (λ (y : ℤ). y +ℤ pos f.0) g.1 ∙ add_pos z g.0 f.0)) (plus_le z (g.0 + f.0))

pub neg_le_z : (m n : ℕ) → n ≤ m → T (le_z (neg_ℤ (pos m)) (neg_ℤ (pos n)))
neg_le_z zero zero h = tt
neg_le_z zero (suc n) h = absurd (bad h)
  where
    bad : suc n ≤ 0 → ⊥
    bad h = omega arith
neg_le_z (suc m) zero h = tt
neg_le_z (suc m) (suc n) h = le→leb n m (down' h)
  where
    down' : suc n ≤ suc m → n ≤ m
    down' h = omega arith

pub cross_le_z : (m n : ℕ) → T (le_z (neg_ℤ (pos m)) (pos n))
cross_le_z zero n = le→leb 0 n (omega arith)
cross_le_z (suc m) n = tt

-- ---- half away from zero keeps the order
twice_plus : (a b u : ℕ) → a ≤ b → a * 2 + u ≤ b * 2 + u
twice_plus a b u h = omega arith

half_mono : (a b : ℕ) → a ≤ b → half_up a ≤ half_up b
half_mono a b h = div_mono (a * 2 + 2 ^ 1074) (2 ^ 1074 * 2) (b * 2 + 2 ^ 1074) (2 ^ 1074 * 2) W W (mul-le-mul_right (2 ^ 1074 * 2) (twice_plus a b (2 ^ 1074) h))
  where
    W : 0 < 2 ^ 1074 * 2
    W = mul-pos (pow_pos 1074) (zero-lt-suc 1)

pub away_mono : (z w : ℤ) → T (le_z z w) → T (le_z (half_away z) (half_away w))
unfolding half_away
away_mono (pos a) (pos b) h = le→leb (half_up a) (half_up b) (half_mono a b (leb→le a b h))
away_mono (pos a) (negsuc b) h = absurd h
away_mono (negsuc a) (pos b) h = cross_le_z (half_up (suc a)) (half_up b)
away_mono (negsuc a) (negsuc b) h = neg_le_z (half_up (suc a)) (half_up (suc b)) (half_mono (suc b) (suc a) (up' (leb→le b a h)))
  where
    up' : b ≤ a → suc b ≤ suc a
    up' h = omega arith

-- ---- the rounded number is finite
pub value_finite : (x : Float) (s : Bool) (a c : ℕ) → HasValue x s a c → T (finite x)
value_finite nan s a c v = v
value_finite (inf t) s a c v = absurd v
value_finite (fin t m e) s a c v = tt

pub whole_finite : (x : Float) → T (fits binary64 x) → T (finite x) → T (finite (whole_near x))
whole_finite nan f g = absurd g
whole_finite (inf s) f g = absurd g
whole_finite (fin s m e) f g = go (leb edge X) (leb→le edge X) (nleb→lt edge X)
  where
    p : Placed binary64 s (fin s m e)
    p = placed binary64 s m e f

    X : ℕ
    X = p.m * 2 ^ p.j

    go : (b : Bool) → (T b → edge ≤ X) → (T (not b) → X < edge) → T (finite (whole_near (fin s m e)))
    go true h k = subst (λ (z : Float). T (finite z)) (big_is s m e f p (h tt)) tt
    go false h k = subst (λ (z : Float). T (finite z)) (sym (whole_at s m e p)) (keeps_finite false (round binary64 s (half_up X) 1) (value_finite (round binary64 s (half_up X) 1) s (half_up X) 1 (round_whole binary64 s (half_up X) (half_small X (k tt)))))

near_rounded : (x : Float) → T (finite x) → whole_near x ≡ plus_zero (rounded (half_away (in_units x)) 1)
unfolding whole_near
near_rounded nan g = absurd g
near_rounded (inf s) g = absurd g
near_rounded (fin s m e) g = refl

pub whole_fits : (x : Float) → T (fits binary64 x) → T (fits binary64 (whole_near x))
unfolding whole_near
whole_fits nan f = f
whole_fits (inf s) f = f
whole_fits (fin s m e) f = as_fits false (rounded (half_away (in_units (fin s m e))) 1) (rounded_fits (half_away (in_units (fin s m e))) 1)

pub whole_mono : (x y : Float) → T (fits binary64 x) → T (fits binary64 y) → T (finite x) → T (finite y) → T (le x y) → T (le (whole_near x) (whole_near y))
whole_mono x y f g fx fy h =
    subst (λ (z : Float). T (le z (whole_near y))) (sym (near_rounded x fx))
    (subst (λ (z : Float). T (le (plus_zero (rounded (half_away (in_units x)) 1)) z)) (sym (near_rounded y fy))
    (subst T (sym (as_le false false (rounded (half_away (in_units x)) 1) (rounded (half_away (in_units y)) 1)))
    (rounded_mono (half_away (in_units x)) (half_away (in_units y)) 1 (zero-lt-suc 0) (away_mono (in_units x) (in_units y) (subst T (le_units x y f g fx fy) h)))))

-- ---- a whole number stays
eq→le : (x y : Float) → eq x y ≡ true → T (le x y)
unfolding le
eq→le x y e = of_right (lt x y) (eq x y) (≡→T e)

module _ (a m b : Float) (fa : T (fits binary64 a)) (fm : T (fits binary64 m)) (fb : T (fits binary64 b)) (ga : T (finite a)) (gm : T (finite m)) (gb : T (finite b)) where
  units : (x y : Float) → T (fits binary64 x) → T (fits binary64 y) → T (finite x) → T (finite y) → T (le x y) → T (le_z (in_units x) (in_units y))
  units x y f g fx fy h = subst T (le_units x y f g fx fy) h

  pub whole_above : whole_bound b ≡ true → T (le m b) → T (le (whole_near m) b)
  whole_above w h =
      subst T (sym (le_units (whole_near m) b (whole_fits m fm) fb (whole_finite m fm gm) gb))
      (le_z_trans (in_units (whole_near m)) (in_units (whole_near b)) (in_units b)
      (units (whole_near m) (whole_near b) (whole_fits m fm) (whole_fits b fb) (whole_finite m fm gm) (whole_finite b fb gb) (whole_mono m b fm fb gm gb h))
      (units (whole_near b) b (whole_fits b fb) fb (whole_finite b fb gb) gb (eq→le (whole_near b) b (whole_is b fb ∙ w))))

  eq_swap : (x y : Float) → T (fits binary64 x) → T (fits binary64 y) → T (finite x) → T (finite y) → eq x y ≡ true → T (le_z (in_units y) (in_units x))
  eq_swap x y f g fx fy e = subst T (le_units y x g f fy fx) (eq→le y x (eq_sym x y e))

  pub whole_below : whole_bound a ≡ true → T (le a m) → T (le a (whole_near m))
  whole_below w h =
      subst T (sym (le_units a (whole_near m) fa (whole_fits m fm) ga (whole_finite m fm gm)))
      (le_z_trans (in_units a) (in_units (whole_near a)) (in_units (whole_near m))
      (eq_swap (whole_near a) a (whole_fits a fa) fa (whole_finite a fa ga) ga (whole_is a fa ∙ w))
      (units (whole_near a) (whole_near m) (whole_fits a fa) (whole_fits m fm) (whole_finite a fa ga) (whole_finite m fm gm) (whole_mono a m fa fm ga gm h)))
