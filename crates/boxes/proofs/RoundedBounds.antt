-- Rounding keeps the order of any two fractions. So what is strictly below a rounded fraction is at most the fraction itself (`below_exact`), and what is
-- strictly above it at least the fraction (`above_exact`): a step to either side of the rounded value encloses the exact one. Assumes nothing.
use mathlib.Core.Path.{◌≡◌, sym, ap, ◌∙◌, subst}
use mathlib.Core.Logic.{⊎_elim}
use Prim.Native.Nat.{ℕ, suc, ◌*◌, ◌^◌, ◌<◌}
use native.Mathlib.Nat.{mul-pos, zero-lt-suc}
use mathlib.Core.Bool.{true, false}
use lib.IntN.{ℤ, pos, negsuc, ◌*ℤ◌}
use lib.Signed.{le_z}
use lib.Dec.{T, leb→le}
use lib.Pow.{pow_pos}
use lib.Ieee.{Float, nan, inf, fin, binary64, round, neg, le, lt, fits}
use lib.Ieee.Order.{round_mono}
use lib.Ieee.Scale.{finite}
use Rattle.interval.specs.Bounds.{in_units, plus_zero}
use Rattle.interval.specs.Middle.{rounded}
use Rattle.interval.proofs.Value.{placed, round_self}
use Rattle.interval.proofs.HalfSum.{units_of}
use Rattle.interval.proofs.WholeRounding.{negated_round}
use Rattle.interval.proofs.Patterns.{le_neg}
use Rattle.interval.proofs.UnitsOrder.{neg_order, le_units}
use Rattle.interval.proofs.Compare.{lt_units}
use Rattle.interval.proofs.HalfBetween.{minus_le_plus, round_signed, plus_signed, rounded_fits}
use Rattle.interval.proofs.Zeros.{as_units, keeps_finite, was_finite}
use Rattle.boxes.proofs.Integers.{no_cross, le_z_total, lt_not_le}

-- ---- rounding keeps the order of z / c and w / d
pub rounded_mono_over : (z w : ℤ) (c d : ℕ) → 0 < c → 0 < d → T (le_z (z *ℤ pos d) (w *ℤ pos c)) → T (le (rounded z c) (rounded w d))
unfolding rounded
rounded_mono_over (pos a) (pos b) c d C D h = round_mono binary64 a c b d C D (leb→le (a * d) (b * c) h)
rounded_mono_over (pos a) (negsuc b) c d C D h = absurd (no_cross (a * d) (suc b * c) (mul-pos (zero-lt-suc b) C) h)
rounded_mono_over (negsuc a) (pos b) c d C D h =
    let x = round binary64 true (suc a) c in
    let y = round binary64 false b d in
    minus_le_plus x y (round_signed binary64 true (suc a) c) (round_signed binary64 false b d)
rounded_mono_over (negsuc a) (negsuc b) c d C D h =
    let x = round binary64 false (suc a) c in
    let y = round binary64 false (suc b) d in
    subst (λ (z : Float). T (le z (round binary64 true (suc b) d))) (negated_round binary64 false (suc a) c)
    (subst (λ (z : Float). T (le (neg x) z)) (negated_round binary64 false (suc b) d)
    (le_neg y x (round_mono binary64 (suc b) d (suc a) c D C (neg_order (suc a * d) (suc b * c) h))))

-- ---- a value's own units, rounded, are its units
abbrev again : Float → Float
again x = rounded (in_units x) (2 ^ 1074)

pub own_units : (x : Float) → T (fits binary64 x) → T (finite x) → (in_units (again x) ≡ in_units x) × T (finite (again x))
own_units nan f g = absurd g
own_units (inf s) f g = absurd g
own_units (fin s m e) f g =
    let p = placed binary64 s m e f in
    let X = p.m * 2 ^ p.j in
    let U = 2 ^ 1074 in
    let x = fin s m e in
    let r = again x in
    let q : plus_zero r ≡ plus_zero x =
    ap (λ (z : ℤ). plus_zero (rounded z U)) (units_of s m e X p.value)
    ∙ plus_signed s X U (pow_pos 1074)
    ∙ ap plus_zero (round_self binary64 x s X U (pow_pos 1074) f p.value) in (
      sym (as_units false r) ∙ ap in_units q ∙ as_units false x,
      was_finite false r (subst (λ (z : Float). T (finite z)) (sym q) (keeps_finite false x tt)),
    )

-- ---- the exact value is enclosed
module _ (b : Float) (z : ℤ) (c : ℕ) (c+ : 0 < c) (f : T (fits binary64 b)) (g : T (finite b)) (r : T (finite (rounded z c))) where
  abbrev U : ℕ
  U = 2 ^ 1074

  abbrev near : Float
  near = rounded z c

  -- two orders of one pair, one of them strict
  clash : (x y : Float) → T (fits binary64 x) → T (fits binary64 y) → T (finite x) → T (finite y) → T (lt x y) → T (le_z (in_units y) (in_units x)) → ⊥
  clash x y fx fy gx gy h k = lt_not_le (in_units x) (in_units y) (subst T (lt_units x y fx fy gx gy) h) k

  pub below_exact : T (lt b near) → T (le_z (in_units b *ℤ pos c) (z *ℤ pos U))
  below_exact h =
      ⊎_elim (λ (k : T (le_z (in_units b *ℤ pos c) (z *ℤ pos U))). k)
      (λ (k : T (le_z (z *ℤ pos U) (in_units b *ℤ pos c))).
      let o = own_units b f g in
      let l = subst T (le_units near (again b) (rounded_fits z c) (rounded_fits (in_units b) U) r o.1) (rounded_mono_over z (in_units b) c U c+ (pow_pos 1074) k) in
      absurd (clash b near f (rounded_fits z c) g r h (subst (λ (y : ℤ). T (le_z (in_units near) y)) o.0 l)))
      (le_z_total (in_units b *ℤ pos c) (z *ℤ pos U))

  pub above_exact : T (lt near b) → T (le_z (z *ℤ pos U) (in_units b *ℤ pos c))
  above_exact h =
      ⊎_elim (λ (k : T (le_z (z *ℤ pos U) (in_units b *ℤ pos c))). k)
      (λ (k : T (le_z (in_units b *ℤ pos c) (z *ℤ pos U))).
      let o = own_units b f g in
      let l = subst T (le_units (again b) near (rounded_fits (in_units b) U) (rounded_fits z c) o.1 r) (rounded_mono_over (in_units b) z U c (pow_pos 1074) c+ k) in
      absurd (clash near b (rounded_fits z c) f r g h (subst (λ (y : ℤ). T (le_z y (in_units near))) o.0 l)))
      (le_z_total (z *ℤ pos U) (in_units b *ℤ pos c))
