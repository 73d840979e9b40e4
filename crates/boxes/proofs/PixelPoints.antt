-- The edges in pixels are exact: the f64 of n parts is n times 2^-32 (`parts_exact`), and the interval of it alone encloses that (`point_around`). Assumes nothing.
use mathlib.Core.Path.{◌≡◌, refl, sym, ap, ◌∙◌}
use Prim.Native.Nat.{ℕ, ◌*◌, ◌^◌, ◌≤◌, ◌<◌}
use native.Mathlib.Nat.{mul_assoc, mul_comm, one-mul, mul-one, mul-pos, zero-lt-suc, lt_of_le_of_lt, le_of_lt, mul-le-mul_right}
use mathlib.Core.Bool.{Bool, true, false}
use lib.IntN.{ℤ, pos, ◌*ℤ◌}
use lib.Dec.{T, le→leb, lit<}
use lib.Pow.{pow_pos, pow-add}
use lib.Ieee.{Float, nan, inf, fin, binary64, up, down, unlike, round, div, of_int, of_bits, in_float, fits}
use lib.Ieee.Back.{round_whole}
use lib.Ieee.Exact.{HasValue, round_exact}
use lib.Ieee.Fits.{down_pos}
use lib.Ieee.Scale.{round_same}
use Rattle.interval.specs.declared.Interval.{Interval}
use Rattle.interval.specs.Bounds.{in_units, signed}
use Rattle.interval.specs.Middle.{rounded}
use Rattle.interval.proofs.Value.{placed, values_cross}
use Rattle.interval.proofs.HalfSum.{units_of}
use Rattle.interval.proofs.HalfBetween.{rounded_fits}
use Rattle.interval.proofs.ProperPieces.{put_format}
use Rattle.boxes.specs.Pixels.{parts_of, in_pixels, point_at}
use Rattle.boxes.specs.Ratios.{whole_ratio, NotOver, NotUnder}
use Rattle.boxes.specs.Enclosure.{exact_pixels}
use Rattle.boxes.proofs.Integers.{le_z_of_eq}
use Rattle.boxes.proofs.RatioLaws.{same_from}
use Rattle.boxes.proofs.AroundLaws.{put_encloses}
use Rattle.boxes.proofs.Enclosures.{Around, around_same}

-- ---- the quotient by 2^32
unlike_false : (s : Bool) → unlike s false ≡ s
unlike_false true = refl
unlike_false false = refl

over_power : (x : Float) (n : ℕ) → HasValue x false n 1 → div binary64 x (fin false 1 (pos 32)) ≡ round binary64 false n (2 ^ 32)
unfolding div
over_power nan n v = absurd v
over_power (inf s) n v = absurd v
over_power (fin s m e) n v =
    ap (λ (z : Bool). round binary64 z (m * up e * 1) (1 * 2 ^ 32 * down e)) (unlike_false s ∙ v.0)
    ∙ round_same binary64 false (m * up e * 1) (1 * 2 ^ 32 * down e) n (2 ^ 32) (mul-pos (mul-pos (zero-lt-suc 0) (pow_pos 32)) (down_pos e)) (pow_pos 32)
    (ap (λ (z : ℕ). z * 2 ^ 32) v.1
    ∙ mul_assoc n (down e) (2 ^ 32)
    ∙ ap (λ (z : ℕ). n * z) (mul_comm (down e) (2 ^ 32) ∙ sym (ap (λ (z : ℕ). z * down e) (one-mul (2 ^ 32)))))

power : of_bits binary64 4751297606875873280 ≡ fin false 1 (pos 32)
unfolding of_bits
power = refl

pub in_pixels_is : (n : ℕ) → n ≤ 2 ^ 53 → div binary64 (of_int binary64 (pos n)) (of_bits binary64 4751297606875873280) ≡ in_pixels n
unfolding of_int in_pixels rounded
in_pixels_is n h =
    ap (λ (z : Float). div binary64 (round binary64 false n 1) z) power ∙ over_power (round binary64 false n 1) n (round_whole binary64 false n h)

pub in_float_lem : (n : ℕ) → n ≤ 2 ^ 53 → T (in_float binary64 (pos n))
unfolding in_float
in_float_lem n h = le→leb n (2 ^ 53) h

-- ---- exact
in_pixels_value : (n : ℕ) → n < 2 ^ 53 → HasValue (in_pixels n) false n (2 ^ 32)
unfolding in_pixels rounded
in_pixels_value n h =
    round_exact binary64 false n (2 ^ 32) n 1042 (pow_pos 32) h (lt_of_le_of_lt (mul-le-mul_right (2 ^ 1042) (le_of_lt h)) (lit< tt))
    (ap (λ (z : ℕ). n * z) (pow-add 2 1042 32) ∙ sym (mul_assoc n (2 ^ 1042) (2 ^ 32)))

pub in_pixels_fits : (n : ℕ) → T (fits binary64 (in_pixels n))
unfolding in_pixels
in_pixels_fits n = rounded_fits (pos n) (2 ^ 32)

cross : (x : Float) (n : ℕ) → T (fits binary64 x) → HasValue x false n (2 ^ 32) → in_units x *ℤ pos (2 ^ 32) ≡ pos n *ℤ pos (2 ^ 1074)
cross nan n f v = absurd v
cross (inf s) n f v = absurd v
cross (fin s m e) n f v =
    let p = placed binary64 s m e f in
    let a = p.m * 2 ^ p.j in
    ap (λ (z : ℤ). z *ℤ pos (2 ^ 32)) (units_of s m e a p.value ∙ ap (λ (t : Bool). signed t a) v.0)
    ∙ ap pos (values_cross (fin s m e) s false a (2 ^ 1074) n (2 ^ 32) p.value v)

pub parts_exact : (n : ℕ) → n < 2 ^ 53 → in_units (in_pixels n) *ℤ pos (2 ^ 32) ≡ pos n *ℤ pos (2 ^ 1074)
parts_exact n h = cross (in_pixels n) n (in_pixels_fits n) (in_pixels_value n h)

-- a bound that is the value
not_over_is : (x : Float) (n : ℕ) → HasValue x false n (2 ^ 32) → in_units x *ℤ pos (2 ^ 32) ≡ pos n *ℤ pos (2 ^ 1074)
    → NotOver x (exact_pixels n) × NotUnder x (exact_pixels n)
not_over_is nan n v e = absurd v
not_over_is (inf s) n v e = absurd v
not_over_is (fin s m x) n v e = (le_z_of_eq e, le_z_of_eq (sym e))

pub point_around : (n : ℕ) → n < 2 ^ 53 → Around (point_at n) (exact_pixels n)
unfolding point_at
point_around n h =
    let x : Interval = record { lower = in_pixels n; upper = in_pixels n } in (
      put_format x (in_pixels_fits n, in_pixels_fits n),
      put_encloses x (exact_pixels n) (not_over_is (in_pixels n) n (in_pixels_value n h) (parts_exact n h)),
    )

-- so many whole pixels
pub whole_around : (n : ℕ) → n ≤ 32768 → Around (point_at (parts_of n)) (whole_ratio n)
whole_around n h =
    let s = same_from (exact_pixels (parts_of n)) (whole_ratio n) (ap pos (mul-one (parts_of n))) in
    around_same (point_at (parts_of n)) (exact_pixels (parts_of n)) (whole_ratio n)
    (point_around (parts_of n) (lt_of_le_of_lt (mul-le-mul_right (2 ^ 32) h) (lit< tt))) s.0 s.1
