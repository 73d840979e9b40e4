-- Rounding keeps the order of fractions, with signs (`rounded_mono`), so half of a sum lies between its two sides (`half_between`).
-- Assumes nothing.
use Rattle.std.proofs.Common.{◌≡◌, ℕ, zero, suc, ◌+◌, ◌*◌, ◌^◌, ◌<◌, ◌≤◌, Bool, true, false, cond, not, ◌&&◌, ◌||◌, T, eqb, ltb, ℤ, pos, negsuc, ◌+ℤ◌, neg_ℤ, sym, refl, ap, ◌∙◌, subst, true≢false, mul-le-mul_right, zero-lt-suc, mul_assoc, mul_comm, mul-pos, arith, leb→le, pow_pos}
use mathlib.Core.Bool.{false≢true}
use lib.IntN.{+ℤ_comm}
use lib.Signed.{le_z}
use lib.Ieee.{Float, nan, inf, fin, Format, binary64, low, prec, up, down, odd, units, round, neg, le, fits}
use lib.Ieee.Fits.{round-fits, and_l, and_r, and_i, eq→eqb}
use lib.Ieee.Order.{drop, kept, round_mono}
use lib.Ieee.Scale.{grid, overflow, round_same}
use lib.Ieee.Scale.{finite}
use Rattle.interval.proofs.Naturals.{sum_self}
use Rattle.interval.specs.Bounds.{signed, in_units, plus_zero}
use Rattle.interval.specs.Middle.{rounded, half_sum}
use Rattle.interval.proofs.Value.{placed, round_self}
use Rattle.interval.proofs.HalfSum.{units_of, neg_rounded}
use Rattle.interval.proofs.Zeros.{as_units, as_fits, keeps_finite, was_finite}
use Rattle.interval.proofs.WholeRounding.{negated_round}
use Rattle.interval.proofs.Patterns.{le_neg}
use Rattle.interval.proofs.UnitsOrder.{add_le_z, le_units}
use Rattle.interval.proofs.CutUpTo.{half_finite}

-- ---- a rounded fraction's sign
abbrev pub Signed : Float → Bool → Type 0
Signed nan s = ⊥
Signed (inf t) s = t ≡ s
Signed (fin t m e) s = t ≡ s

odd_signed : (d : ℕ) (s : Bool) (q k l : ℕ) → Signed (odd d s q k l) s
unfolding odd
odd_signed d s zero k l = refl
odd_signed d s (suc q) k l = refl

pub round_signed : (f : Format) (s : Bool) (a c : ℕ) → Signed (round f s a c) s
unfolding round units
round_signed f s a c = go (ltb (grid f a c) (overflow f))
  where
    q : ℕ
    q = kept (prec f) (a * 2 ^ low f) c

    k : ℕ
    k = drop (prec f) (a * 2 ^ low f) c

    go : (b : Bool) → Signed (cond b (odd (suc (prec f)) s q k (low f)) (inf s)) s
    go true = odd_signed (suc (prec f)) s q k (low f)
    go false = refl

opposite : (a b : ℕ) → T (ltb 0 (a + b) || (eqb a b && eqb a 0))
opposite a b = go (ltb 0 (a + b)) (λ (t : T (not (ltb 0 (a + b)))). nltb→le' t)
  where
    nltb→le' : T (not (ltb 0 (a + b))) → a + b ≤ 0
    nltb→le' t = lib.Dec.nltb→le 0 (a + b) t

    e1 : a + b ≤ 0 → a ≡ b
    e1 h = omega arith

    e2 : a + b ≤ 0 → a ≡ 0
    e2 h = omega arith

    go : (x : Bool) → (T (not x) → a + b ≤ 0) → T (x || (eqb a b && eqb a 0))
    go true f = tt
    go false f = and_i (eqb a b) (eqb a 0) (eq→eqb (e1 (f tt))) (eq→eqb (e2 (f tt)))

pub minus_le_plus : (x y : Float) → Signed x true → Signed y false → T (le x y)
unfolding le
minus_le_plus nan y p q = absurd p
minus_le_plus (inf false) y p q = absurd (false≢true p)
minus_le_plus (inf true) nan p q = absurd q
minus_le_plus (inf true) (inf true) p q = absurd (true≢false q)
minus_le_plus (inf true) (inf false) p q = tt
minus_le_plus (inf true) (fin t n d) p q = tt
minus_le_plus (fin false m e) y p q = absurd (false≢true p)
minus_le_plus (fin true m e) nan p q = absurd q
minus_le_plus (fin true m e) (inf true) p q = absurd (true≢false q)
minus_le_plus (fin true m e) (inf false) p q = tt
minus_le_plus (fin true m e) (fin true n d) p q = absurd (true≢false q)
minus_le_plus (fin true m e) (fin false n d) p q = opposite (m * up e * down d) (n * up d * down e)

-- ---- rounding keeps the order
pub rounded_mono : (z w : ℤ) (c : ℕ) → 0 < c → T (le_z z w) → T (le (rounded z c) (rounded w c))
unfolding rounded
rounded_mono (pos a) (pos b) c C h = round_mono binary64 a c b c C C (mul-le-mul_right c (leb→le a b h))
rounded_mono (pos a) (negsuc b) c C h = absurd h
rounded_mono (negsuc a) (pos b) c C h = minus_le_plus (round binary64 true (suc a) c) (round binary64 false b c) (round_signed binary64 true (suc a) c) (round_signed binary64 false b c)
rounded_mono (negsuc a) (negsuc b) c C h =
    subst (λ (z : Float). T (le z (round binary64 true (suc b) c))) (negated_round binary64 false (suc a) c)
    (subst (λ (z : Float). T (le (neg (round binary64 false (suc a) c)) z)) (negated_round binary64 false (suc b) c)
    (le_neg (round binary64 false (suc b) c) (round binary64 false (suc a) c) (round_mono binary64 (suc b) c (suc a) c C C (mul-le-mul_right c (up' (leb→le b a h))))))
  where
    up' : b ≤ a → suc b ≤ suc a
    up' h = omega arith

-- ---- a value is its own rounding, but for the sign of a zero
pub plus_signed : (s : Bool) (n c : ℕ) → 0 < c → plus_zero (rounded (signed s n) c) ≡ plus_zero (round binary64 s n c)
unfolding rounded
plus_signed false n c C = refl
plus_signed true n c C = sym (neg_rounded n c C)

add_self : (s : Bool) (X : ℕ) → signed s X +ℤ signed s X ≡ signed s (X * 2)
add_self false X = ap pos (sum_self X)
add_self true zero = refl
add_self true (suc X) = sym (neg_suc (suc X * 2) (suc (X + X)) (two X))
  where
    two : (X : ℕ) → suc X * 2 ≡ suc (suc (X + X))
    two X = omega arith

    neg_suc : (n k : ℕ) → n ≡ suc k → neg_ℤ (pos n) ≡ negsuc k
    neg_suc n k e = ap (λ (z : ℕ). neg_ℤ (pos z)) e

W+ : 0 < 2 ^ 1074 * 2
W+ = mul-pos (pow_pos 1074) (zero-lt-suc 1)

own : (x : Float) → T (fits binary64 x) → T (finite x) → plus_zero (rounded (in_units x +ℤ in_units x) (2 ^ 1074 * 2)) ≡ plus_zero x
own nan f g = absurd g
own (inf s) f g = absurd g
own (fin s m e) f g =
    let p = placed binary64 s m e f in
    let X = p.m * 2 ^ p.j in
    let U = 2 ^ 1074 in
    ap (λ (z : ℤ). plus_zero (rounded (z +ℤ z) (U * 2))) (units_of s m e X p.value)
    ∙ ap (λ (z : ℤ). plus_zero (rounded z (U * 2))) (add_self s X)
    ∙ plus_signed s (X * 2) (U * 2) W+
    ∙ ap plus_zero (round_same binary64 s (X * 2) (U * 2) X U W+ (pow_pos 1074) (mul_assoc X 2 U ∙ ap (λ (z : ℕ). X * z) (mul_comm 2 U)) ∙ round_self binary64 (fin s m e) s X U (pow_pos 1074) f p.value)

pub rounded_fits : (z : ℤ) (c : ℕ) → T (fits binary64 (rounded z c))
unfolding rounded
rounded_fits (pos n) c = round-fits binary64 false n c
rounded_fits (negsuc n) c = round-fits binary64 true (suc n) c

pub plus_le : (x y : Float) → T (fits binary64 x) → T (fits binary64 y) → T (finite x) → T (finite y) → T (le x y) → T (le (plus_zero x) (plus_zero y))
plus_le x y f g fx fy h =
    subst T (le_units x y f g fx fy
    ∙ sym (le_units (plus_zero x) (plus_zero y) (as_fits false x f) (as_fits false y g) (keeps_finite false x fx) (keeps_finite false y fy)
    ∙ ap (λ (z : ℤ). le_z z (in_units (plus_zero y))) (as_units false x)
    ∙ ap (λ (z : ℤ). le_z (in_units x) z) (as_units false y))) h

-- the two sums that frame it are finite: each is a side, rounded
own_finite : (x : Float) → T (fits binary64 x) → T (finite x) → T (finite (rounded (in_units x +ℤ in_units x) (2 ^ 1074 * 2)))
own_finite x f g = was_finite false (rounded (in_units x +ℤ in_units x) (2 ^ 1074 * 2)) (subst (λ (z : Float). T (finite z)) (sym (own x f g)) (keeps_finite false x g))

pub half_between : (x y : Float) → T (fits binary64 x) → T (fits binary64 y) → T (finite x && finite y) → T (le x y) → T (le (plus_zero x) (half_sum x y)) × T (le (half_sum x y) (plus_zero y))
unfolding half_sum
half_between x y f g h l =
    let fx = and_l (finite x) (finite y) h in
    let fy = and_r (finite x) (finite y) h in
    let lu : T (le_z (in_units x) (in_units y)) = subst T (le_units x y f g fx fy) l in
    let W = 2 ^ 1074 * 2 in
    let mx = rounded (in_units x +ℤ in_units x) W in
    let m = rounded (in_units x +ℤ in_units y) W in
    let my = rounded (in_units y +ℤ in_units y) W in
    let fm : T (finite m) = was_finite false m (half_finite x y f g h) in
    let mf : T (fits binary64 m) = rounded_fits (in_units x +ℤ in_units y) W in (
      subst (λ (z : Float). T (le z (plus_zero m))) (own x f fx) (plus_le mx m (rounded_fits (in_units x +ℤ in_units x) W) mf (own_finite x f fx) fm (rounded_mono (in_units x +ℤ in_units x) (in_units x +ℤ in_units y) W W+ (add_le_z (in_units x) (in_units x) (in_units y) lu))),
      subst (λ (z : Float). T (le (plus_zero m) z)) (own y g fy) (plus_le m my mf (rounded_fits (in_units y +ℤ in_units y) W) fm (own_finite y g fy) (rounded_mono (in_units x +ℤ in_units y) (in_units y +ℤ in_units y) W W+ (subst (λ (z : ℤ). T (le_z z (in_units y +ℤ in_units y))) (+ℤ_comm (in_units y) (in_units x)) (add_le_z (in_units y) (in_units x) (in_units y) lu)))),
    )
