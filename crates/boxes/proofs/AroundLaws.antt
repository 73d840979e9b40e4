-- An answer of `around` encloses every exact value that one of its four candidates is the rounding of (`candidates_enclosed`); where a candidate is no number it
-- is the whole line, and encloses everything (`around_by`). Assumes nothing.
use mathlib.Core.Path.{◌≡◌, sym, ap, ◌∙◌, subst}
use Prim.Native.Nat.{zero, suc}
use mathlib.Core.Bool.{Bool, true, false, ◌&&◌, cond}
use lib.IntN.{ℤ}
use lib.Signed.{le_z, lt_z}
use lib.Dec.{T}
use lib.Ieee.{Float, nan, inf, fin, binary64, lt, fits}
use lib.Ieee.Scale.{finite}
use Rattle.base.proofs.Test.{≡→T, cases, cond_yes, cond_no, and_left, and_right, and_both, T→≡}
use Rattle.interval.specs.declared.Interval.{Interval}
use Rattle.interval.specs.Bounds.{InFormat, whole_line, in_units, zero_as, plus_zero, put_interval}
use Rattle.interval.specs.Middle.{rounded}
use Rattle.interval.specs.Next.{next_below, next_above}
use Rattle.interval.proofs.Compare.{lt_units}
use Rattle.interval.proofs.WholeOrder.{le_z_trans}
use Rattle.interval.proofs.HalfBetween.{rounded_fits}
use Rattle.interval.proofs.ProperPieces.{put_format}
use Rattle.interval.proofs.Zeros.{as_units, keeps_finite, was_finite}
use Rattle.interval.proofs.Beside.{next_fits, above_fits, next_lt, above_lt}
use Rattle.boxes.specs.Ratios.{Ratio, ◌⊑◌, of_units, NotOver, NotUnder, Encloses}
use Rattle.boxes.specs.Arithmetic.{lesser, greater, least_of, greatest_of, around}
use Rattle.boxes.proofs.Integers.{le_z_refl, lt_le, le_lt, not_lt, lt_le_z}
use Rattle.boxes.proofs.RoundedBounds.{below_exact, above_exact}

-- a finite number of the format
pub record Good (x : Float) : Type 0 where
  pub held : T (fits binary64 x)
  pub number : T (finite x)

-- the value of a number
abbrev pub value_of : Float → Ratio
value_of x = of_units (in_units x)

-- ---- four at once
pub record Each (P : Float → Type 0) (p q r s : Float) : Type 0 where
  pub first : P p
  pub second : P q
  pub third : P r
  pub fourth : P s

abbrev pub all_finite : Float → Float → Float → Float → Bool
all_finite p q r s = finite p && finite q && finite r && finite s

pub each_finite : (p q r s : Float) → all_finite p q r s ≡ true → Each (λ (x : Float). T (finite x)) p q r s
each_finite p q r s h =
    let three = and_left (finite p && finite q && finite r) (finite s) h in
    let two = and_left (finite p && finite q) (finite r) three in
    record {
      first = ≡→T (and_left (finite p) (finite q) two);
      second = ≡→T (and_right (finite p) (finite q) two);
      third = ≡→T (and_right (finite p && finite q) (finite r) three);
      fourth = ≡→T (and_right (finite p && finite q && finite r) (finite s) h);
    }

pub both_each : (p q r s : Float) → Each (λ (x : Float). T (fits binary64 x)) p q r s → Each (λ (x : Float). T (finite x)) p q r s → Each Good p q r s
both_each p q r s f n =
    record {
      first = record { held = f.first; number = n.first };
      second = record { held = f.second; number = n.second };
      third = record { held = f.third; number = n.third };
      fourth = record { held = f.fourth; number = n.fourth };
    }

pub good_finite : (p q r s : Float) → Each Good p q r s → all_finite p q r s ≡ true
good_finite p q r s g =
    let two = and_both (finite p) (finite q) (T→≡ (finite p) g.first.number) (T→≡ (finite q) g.second.number) in
    let three = and_both (finite p && finite q) (finite r) two (T→≡ (finite r) g.third.number) in
    and_both (finite p && finite q && finite r) (finite s) three (T→≡ (finite s) g.fourth.number)

one_of : (P : Float → Type 0) (t : Bool) (p q : Float) → P p → P q → P (cond t q p)
one_of P true p q a b = b
one_of P false p q a b = a

-- the least and the greatest are one of the four
pub least_one : (P : Float → Type 0) (p q r s : Float) → Each P p q r s → P (least_of p q r s)
unfolding least_of
least_one P p q r s g =
    one_of P (lt (lesser r s) (lesser p q)) (lesser p q) (lesser r s) (one_of P (lt q p) p q g.first g.second) (one_of P (lt s r) r s g.third g.fourth)

pub greatest_one : (P : Float → Type 0) (p q r s : Float) → Each P p q r s → P (greatest_of p q r s)
unfolding greatest_of
greatest_one P p q r s g =
    one_of P (lt (greater p q) (greater r s)) (greater p q) (greater r s) (one_of P (lt p q) p q g.first g.second)
    (one_of P (lt r s) r s g.third g.fourth)

-- ---- the least is at most each, and the greatest at least, in units
infixl 4 ◌≤u◌
abbrev pub ◌≤u◌ : Float → Float → Type 0
x ≤u y = T (le_z (in_units x) (in_units y))

≤u_trans : (x y z : Float) → x ≤u y → y ≤u z → x ≤u z
≤u_trans x y z = le_z_trans (in_units x) (in_units y) (in_units z)

lesser_≤ : (p q : Float) → Good p → Good q → (lesser p q ≤u p) × (lesser p q ≤u q)
lesser_≤ p q g k = go (lt q p) (lt_units q p k.held g.held k.number g.number)
  where
    go : (t : Bool) → t ≡ lt_z (in_units q) (in_units p) → (cond t q p ≤u p) × (cond t q p ≤u q)
    go true e = (lt_le_z (in_units q) (in_units p) (subst T e tt), le_z_refl (in_units q))
    go false e = (le_z_refl (in_units p), not_lt (in_units q) (in_units p) (sym e))

greater_≤ : (p q : Float) → Good p → Good q → (p ≤u greater p q) × (q ≤u greater p q)
greater_≤ p q g k = go (lt p q) (lt_units p q g.held k.held g.number k.number)
  where
    go : (t : Bool) → t ≡ lt_z (in_units p) (in_units q) → (p ≤u cond t q p) × (q ≤u cond t q p)
    go true e = (lt_le_z (in_units p) (in_units q) (subst T e tt), le_z_refl (in_units q))
    go false e = (le_z_refl (in_units p), not_lt (in_units p) (in_units q) (sym e))

pub lowest : (p q r s : Float) → Each Good p q r s → Each (λ (x : Float). least_of p q r s ≤u x) p q r s
unfolding least_of
lowest p q r s g =
    let u = lesser p q in
    let v = lesser r s in
    let l = lesser u v in
    let a = lesser_≤ p q g.first g.second in
    let b = lesser_≤ r s g.third g.fourth in
    let c = lesser_≤ u v (one_of Good (lt q p) p q g.first g.second) (one_of Good (lt s r) r s g.third g.fourth) in
    record {
      first = ≤u_trans l u p c.0 a.0;
      second = ≤u_trans l u q c.0 a.1;
      third = ≤u_trans l v r c.1 b.0;
      fourth = ≤u_trans l v s c.1 b.1;
    }

pub highest : (p q r s : Float) → Each Good p q r s → Each (λ (x : Float). x ≤u greatest_of p q r s) p q r s
unfolding greatest_of
highest p q r s g =
    let u = greater p q in
    let v = greater r s in
    let h = greater u v in
    let a = greater_≤ p q g.first g.second in
    let b = greater_≤ r s g.third g.fourth in
    let c = greater_≤ u v (one_of Good (lt p q) p q g.first g.second) (one_of Good (lt r s) r s g.third g.fourth) in
    record {
      first = ≤u_trans p u h a.0 c.0;
      second = ≤u_trans q u h a.1 c.0;
      third = ≤u_trans r v h b.0 c.1;
      fourth = ≤u_trans s v h b.1 c.1;
    }

-- ---- a candidate and the value that it was rounded from
abbrev pub RoundedFrom : Ratio → Float → Type 0
RoundedFrom v x = plus_zero x ≡ plus_zero (rounded v.num v.den)

from_units : (v : Ratio) (x : Float) → RoundedFrom v x → in_units x ≡ in_units (rounded v.num v.den)
from_units v x h = sym (as_units false x) ∙ ap in_units h ∙ as_units false (rounded v.num v.den)

from_number : (v : Ratio) (x : Float) → RoundedFrom v x → T (finite x) → T (finite (rounded v.num v.den))
from_number v x h g = was_finite false (rounded v.num v.den) (subst (λ (z : Float). T (finite z)) h (keeps_finite false x g))

-- what is below a number is no NaN and not plus infinity; what is above it no NaN and not minus infinity
pub nan_left : (y : Float) → T (lt nan y) → ⊥
unfolding lt
nan_left y h = h

pub inf_left : (y : Float) → T (lt (inf false) y) → ⊥
unfolding lt
inf_left nan h = h
inf_left (inf t) h = h
inf_left (fin t m e) h = h

pub nan_right : (x : Float) → T (lt x nan) → ⊥
unfolding lt
nan_right nan h = h
nan_right (inf t) h = h
nan_right (fin t m e) h = h

pub inf_right : (x : Float) → T (lt x (inf true)) → ⊥
unfolding lt
inf_right nan h = h
inf_right (inf true) h = h
inf_right (inf false) h = h
inf_right (fin t m e) h = h

module _ (v : Ratio) (l x : Float) (gl : Good l) (gx : Good x) (h : RoundedFrom v x) where
  abbrev near : Float
  near = rounded v.num v.den

  low_bound : l ≤u x → NotOver (next_below l) v
  low_bound k = go (next_below l) (next_fits l gl.held) (next_lt l gl.held gl.number)
    where
      go : (b : Float) → T (fits binary64 b) → T (lt b l) → NotOver b v
      go nan f o = absurd (nan_left l o)
      go (inf true) f o = tt
      go (inf false) f o = absurd (inf_left l o)
      go (fin s m e) f o =
          let b = fin s m e in
          let n = from_number v x h gx.number in
          let u = lt_le (in_units b) (in_units l) (in_units x) (subst T (lt_units b l f gl.held tt gl.number) o) k in
          below_exact b v.num v.den v.den_pos f tt n
          (subst T (sym (lt_units b near f (rounded_fits v.num v.den) tt n)) (subst (λ (z : ℤ). T (lt_z (in_units b) z)) (from_units v x h) u))

  high_bound : x ≤u l → NotUnder (next_above l) v
  high_bound k = go (next_above l) (above_fits l gl.held) (above_lt l gl.held gl.number)
    where
      go : (b : Float) → T (fits binary64 b) → T (lt l b) → NotUnder b v
      go nan f o = absurd (nan_right l o)
      go (inf true) f o = absurd (inf_right l o)
      go (inf false) f o = tt
      go (fin s m e) f o =
          let b = fin s m e in
          let n = from_number v x h gx.number in
          let u = le_lt (in_units x) (in_units l) (in_units b) k (subst T (lt_units l b gl.held f gl.number tt) o) in
          above_exact b v.num v.den v.den_pos f tt n
          (subst T (sym (lt_units near b (rounded_fits v.num v.den) f n tt)) (subst (λ (z : ℤ). T (lt_z z (in_units b))) (from_units v x h) u))

-- zeros put
put_low : (t : Bool) (b : Float) (v : Ratio) → NotOver b v → NotOver (zero_as t b) v
unfolding zero_as
put_low t nan v h = h
put_low t (inf s) v h = h
put_low t (fin s zero e) v h = subst (λ (z : ℤ). of_units z ⊑ v) (sym (as_units t (fin s zero e))) h
put_low t (fin s (suc m) e) v h = h

put_high : (t : Bool) (b : Float) (v : Ratio) → NotUnder b v → NotUnder (zero_as t b) v
unfolding zero_as
put_high t nan v h = h
put_high t (inf s) v h = h
put_high t (fin s zero e) v h = subst (λ (z : ℤ). v ⊑ of_units z) (sym (as_units t (fin s zero e))) h
put_high t (fin s (suc m) e) v h = h

pub put_encloses : (x : Interval) (v : Ratio) → Encloses x v → Encloses (put_interval x) v
unfolding put_interval
put_encloses x v h = (put_low true x.lower v h.0, put_high false x.upper v h.1)

-- ---- the answer
abbrev outside : Float → Float → Float → Float → Interval
outside p q r s = record { lower = next_below (least_of p q r s); upper = next_above (greatest_of p q r s) }

pub around_is : (p q r s : Float) → all_finite p q r s ≡ true → around p q r s ≡ put_interval (outside p q r s)
unfolding around
around_is p q r s h = cond_yes (all_finite p q r s) (put_interval (outside p q r s)) whole_line h

pub around_not : (p q r s : Float) → all_finite p q r s ≡ false → around p q r s ≡ whole_line
unfolding around
around_not p q r s h = cond_no (all_finite p q r s) (put_interval (outside p q r s)) whole_line h

-- the whole line encloses everything
pub line_encloses : (v : Ratio) → Encloses whole_line v
line_encloses v = (tt, tt)

pub around_by : (p q r s : Float) (v : Ratio) → (all_finite p q r s ≡ true → Encloses (around p q r s) v) → Encloses (around p q r s) v
around_by p q r s v h =
    cases (all_finite p q r s) h (λ (e : all_finite p q r s ≡ false). subst (λ (z : Interval). Encloses z v) (sym (around_not p q r s e)) (line_encloses v))

pub record Enclosed (w : Interval) (P Q R S : Ratio) : Type 0 where
  pub first : Encloses w P
  pub second : Encloses w Q
  pub third : Encloses w R
  pub fourth : Encloses w S

-- every candidate's exact value
pub candidates_enclosed : (p q r s : Float) (P Q R S : Ratio) → Each Good p q r s → RoundedFrom P p → RoundedFrom Q q → RoundedFrom R r → RoundedFrom S s
    → Enclosed (around p q r s) P Q R S
candidates_enclosed p q r s P Q R S g hp hq hr hs =
    let lo = lowest p q r s g in
    let hi = highest p q r s g in
    record {
      first = one P p g.first hp lo.first hi.first;
      second = one Q q g.second hq lo.second hi.second;
      third = one R r g.third hr lo.third hi.third;
      fourth = one S s g.fourth hs lo.fourth hi.fourth;
    }
  where
    one : (v : Ratio) (x : Float) → Good x → RoundedFrom v x → least_of p q r s ≤u x → x ≤u greatest_of p q r s → Encloses (around p q r s) v
    one v x gx h lo hi =
        subst (λ (z : Interval). Encloses z v) (sym (around_is p q r s (good_finite p q r s g)))
        (put_encloses (outside p q r s) v
        (low_bound v (least_of p q r s) x (least_one Good p q r s g) gx h lo, high_bound v (greatest_of p q r s) x (greatest_one Good p q r s g) gx h hi))

-- an answer's bounds are of the format
abbrev Fits : Float → Type 0
Fits x = T (fits binary64 x)

pub line_format : InFormat whole_line
unfolding fits
line_format = (tt, tt)

pub around_format : (p q r s : Float) → Each (λ (x : Float). T (fits binary64 x)) p q r s → InFormat (around p q r s)
around_format p q r s f =
    let low = next_fits (least_of p q r s) (least_one Fits p q r s f) in
    let high = above_fits (greatest_of p q r s) (greatest_one Fits p q r s f) in
    cases (all_finite p q r s)
    (λ (e : all_finite p q r s ≡ true). subst InFormat (sym (around_is p q r s e)) (put_format (outside p q r s) (low, high)))
    (λ (e : all_finite p q r s ≡ false). subst InFormat (sym (around_not p q r s e)) line_format)
