-- The cut point of a legal interval is a number between the bounds, never -0, and whole for an integer parameter (`cut_good`).
-- Assumes nothing.
use Rattle.std.proofs.Common.{◌≡◌, ◌*◌, ◌^◌, Bool, true, false, ◌&&◌, T, ℤ, ◌+ℤ◌, neg_ℤ, sym, refl, ap, ◌∙◌, subst}
use mathlib.Core.Bool.{false≢true}
use lib.Ieee.{Float, nan, inf, fin, binary64, neg, lt, le, fits}
use lib.Ieee.Fits.{neg-fits}
use lib.Ieee.Bits.{is_true}
use lib.Ieee.Scale.{finite}
use Rattle.base.proofs.Test.{≡→T, and_left}
use Rattle.interval.specs.declared.Interval.{Interval}
use Rattle.interval.specs.Bounds.{in_units, plus_zero, zero_as, whole_bound, legal_bounds, legal_interval, InFormat}
use Rattle.interval.specs.Middle.{rounded, half_sum, half_away, whole_near, whole_if}
use Rattle.interval.specs.Kinds.{kind_of, cut_up_to, cut_point_at, cut_point_of}
use Rattle.interval.proofs.Zeros.{as_again, as_fits, as_whole, keeps_finite, as_le_left, as_le_right}
use Rattle.interval.proofs.Legality.{legal_bounds_lem, whole_ends}
use Rattle.interval.proofs.Patterns.{le_neg, neg_neg}
use Rattle.interval.proofs.CutUpTo.{units_neg, neg_finite, neg_whole, half_finite, nought_fits}
use Rattle.interval.proofs.HalfBetween.{half_between, rounded_fits}
use Rattle.interval.proofs.Wholeness.{near_whole}
use Rattle.interval.proofs.WholeOrder.{whole_finite, whole_fits, whole_above, whole_below}
use Rattle.interval.proofs.CutInside.{Good, up_to_good, nought_put, nought_whole}

-- c divides [a, b]
pub record Divides (a b : Float) (integer : Bool) (c : Float) : Type 0 where
  pub number : T (finite c)
  pub format : T (fits binary64 c)
  pub put : plus_zero c ≡ c
  pub low : le a c ≡ true
  pub high : le c b ≡ true
  pub whole : integer ≡ true → whole_bound c ≡ true

-- the bounds of an integer parameter are whole
abbrev WholeEnds : Float → Float → Bool → Type 0
WholeEnds a b integer = integer ≡ true → (whole_bound a ≡ true) × (whole_bound b ≡ true)

-- ---- a finite interval
pub near_put : (x : Float) → plus_zero (whole_near x) ≡ whole_near x
unfolding whole_near zero_as
near_put nan = refl
near_put (inf s) = refl
near_put (fin s m e) = as_again false false (rounded (half_away (in_units (fin s m e))) 1)

pub half_fits : (a b : Float) → T (fits binary64 (half_sum a b))
unfolding half_sum
half_fits a b = as_fits false (rounded (in_units a +ℤ in_units b) (2 ^ 1074 * 2)) (rounded_fits (in_units a +ℤ in_units b) (2 ^ 1074 * 2))

pub half_put : (a b : Float) → plus_zero (half_sum a b) ≡ half_sum a b
unfolding half_sum
half_put a b = as_again false false (rounded (in_units a +ℤ in_units b) (2 ^ 1074 * 2))

module _ (a b : Float) (fa : T (fits binary64 a)) (fb : T (fits binary64 b)) (ga : T (finite a)) (gb : T (finite b)) (l : T (le a b)) where
  ends : T (finite a && finite b)
  ends = subst (λ (z : Bool). T (z && finite b)) (sym (is_true (finite a) ga)) gb

  pub half_divides : Divides a b false (half_sum a b)
  half_divides =
      let h = half_between a b fa fb ends l in
      record {
        number = half_finite a b fa fb ends;
        format = half_fits a b;
        put = half_put a b;
        low = sym (as_le_left false a (half_sum a b)) ∙ is_true (le (plus_zero a) (half_sum a b)) h.0;
        high = sym (as_le_right false (half_sum a b) b) ∙ is_true (le (half_sum a b) (plus_zero b)) h.1;
        whole = λ e. absurd (false≢true e);
      }

  whole_divides : whole_bound a ≡ true → whole_bound b ≡ true → Divides a b true (whole_near (half_sum a b))
  whole_divides wa wb =
      let m = half_sum a b in
      let h = half_divides in
      record {
        number = whole_finite m h.format h.number;
        format = whole_fits m h.format;
        put = near_put m;
        low = is_true (le a (whole_near m)) (whole_below a m b fa h.format fb ga h.number gb wa (≡→T h.low));
        high = is_true (le (whole_near m) b) (whole_above a m b fa h.format fb ga h.number gb wb (≡→T h.high));
        whole = λ e. near_whole m h.format h.number;
      }

  between_divides : (integer : Bool) → WholeEnds a b integer → Divides a b integer (whole_if integer (half_sum a b))
  between_divides true w = whole_divides (w refl).0 (w refl).1
  between_divides false w = half_divides

-- ---- [-inf, b] and [a, +inf]
inf_low : (c : Float) → T (finite c) → le (inf true) c ≡ true
unfolding le
inf_low nan g = absurd g
inf_low (inf s) g = absurd g
inf_low (fin s m e) g = refl

inf_high : (c : Float) → T (finite c) → le c (inf false) ≡ true
unfolding le
inf_high nan g = absurd g
inf_high (inf s) g = absurd g
inf_high (fin s m e) g = refl

up_to_divides : (b : Float) (integer : Bool) → T (fits binary64 b) → T (finite b) → (integer ≡ true → whole_bound b ≡ true) → Divides (inf true) b integer (cut_up_to (in_units b))
up_to_divides b integer f g w =
    let h = up_to_good b f g in
    record { number = h.number; format = h.format; put = h.put; low = inf_low (cut_up_to (in_units b)) h.number; high = is_true (le (cut_up_to (in_units b)) b) h.under; whole = λ e. h.whole (w e) }

from_divides : (a : Float) (integer : Bool) → T (fits binary64 a) → T (finite a) → (integer ≡ true → whole_bound a ≡ true) → Divides a (inf false) integer (plus_zero (neg (cut_up_to (neg_ℤ (in_units a)))))
from_divides a integer f g w =
    let h : Good (cut_up_to (neg_ℤ (in_units a))) (neg a) = subst (λ (z : ℤ). Good (cut_up_to z) (neg a)) (units_neg a) (up_to_good (neg a) (neg-fits binary64 a f) (neg_finite a g)) in
    let d = cut_up_to (neg_ℤ (in_units a)) in
    let number : T (finite (plus_zero (neg d))) = keeps_finite false (neg d) (neg_finite d h.number) in
    record {
      number = number;
      format = as_fits false (neg d) (neg-fits binary64 d h.format);
      put = as_again false false (neg d);
      low = as_le_right false a (neg d) ∙ ap (λ (z : Float). le z (neg d)) (sym (neg_neg a)) ∙ is_true (le (neg (neg a)) (neg d)) (le_neg d (neg a) h.under);
      high = inf_high (plus_zero (neg d)) number;
      whole = λ e. as_whole false (neg d) ∙ neg_whole d ∙ h.whole (neg_whole a ∙ w e);
    }

pub from_number : (a : Float) → T (fits binary64 a) → T (finite a) → T (finite (plus_zero (neg (cut_up_to (neg_ℤ (in_units a))))))
from_number a f g = (from_divides a false f g (λ e. absurd (false≢true e))).number

-- ---- every kind
ends_divide : (a b : Float) (integer : Bool) → T (fits binary64 a) → T (fits binary64 b) → legal_bounds a b ≡ true → WholeEnds a b integer → Divides a b integer (cut_point_at (kind_of a b) integer)
unfolding le lt kind_of cut_point_at
ends_divide nan b integer f g h w = absurd (false≢true h)
ends_divide (inf false) nan integer f g h w = absurd (false≢true h)
ends_divide (inf false) (inf true) integer f g h w = absurd (false≢true h)
ends_divide (inf false) (inf false) integer f g h w = absurd (false≢true h)
ends_divide (inf false) (fin t n d) integer f g h w = absurd (false≢true h)
ends_divide (inf true) nan integer f g h w = absurd (false≢true h)
ends_divide (inf true) (inf true) integer f g h w = absurd (false≢true h)
ends_divide (inf true) (inf false) integer f g h w = record { number = tt; format = nought_fits; put = nought_put; low = refl; high = refl; whole = λ e. nought_whole }
ends_divide (inf true) (fin t n d) integer f g h w = up_to_divides (fin t n d) integer g tt (λ e. (w e).1)
ends_divide (fin s m e) nan integer f g h w = absurd (false≢true h)
ends_divide (fin s m e) (inf true) integer f g h w = absurd (false≢true h)
ends_divide (fin s m e) (inf false) integer f g h w = from_divides (fin s m e) integer f tt (λ k. (w k).0)
ends_divide (fin s m e) (fin t n d) integer f g h w = between_divides (fin s m e) (fin t n d) f g tt tt (≡→T (and_left (le (fin s m e) (fin t n d)) true (and_left (le (fin s m e) (fin t n d) && true) true h))) integer w

pub cut_good : (x : Interval) (integer : Bool) → InFormat x → legal_interval x integer ≡ true → Divides x.lower x.upper integer (cut_point_of x integer)
cut_good x integer f h =
    ends_divide x.lower x.upper integer f.0 f.1 (legal_bounds_lem x integer h) (whole_ends x integer h)
