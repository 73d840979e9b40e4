-- The next number below a finite one: its pattern is no NaN's, and it is below. A finite value x is the pattern of its sign and of the 63 bits behind it
-- (`Plain`). Assumes nothing.
use Rattle.std.proofs.Common.{◌≡◌, ℕ, ◌+◌, ◌-◌, ◌%◌, ◌^◌, ◌<◌, ◌≤◌, Bool, true, false, cond, not, T, ltb, leb, ◌⊎◌, negsuc, sym, refl, ap, ◌∙◌, subst, inl, inr, ⊎_elim, eq-zero-or-pos, eq-or-lt_of_le, not-le_of_lt, arith, le→leb, ltb→lt, lt→ltb, leb→le, pow_pos}
use mathlib.Core.Bool.{false≢true}
use lib.Dec.{nleb→lt, not_T}
use lib.Ieee.{Float, nan, inf, fin, binary64, below, lt, is_nan, nan_bits, to_bits, of_bits, fits}
use lib.Ieee.Bits.{is_true, is_false, nan_bits_above}
use lib.Ieee.Exact.{HasValue}
use lib.Ieee.Scale.{finite}
use Rattle.base.proofs.Test.{cond_yes, cond_no, T→≡}
use Rattle.interval.specs.Next.{nought, next_below}
use Rattle.interval.proofs.Compare.{lt_at}
use Rattle.interval.proofs.WholeRounding.{at_zero}
use Rattle.interval.proofs.Patterns.{infinite, at, units_at, at_value, at_infinite, of_bits_at}
use Rattle.interval.proofs.TopBits.{pattern}
use Rattle.interval.proofs.FractionInside.{units_strict}

pub finite_number : (x : Float) → T (finite x) → T (not (is_nan x))
unfolding is_nan
finite_number nan g = absurd g
finite_number (inf s) g = absurd g
finite_number (fin s m e) g = tt

-- the 63 bits behind the sign
abbrev pub size : Float → ℕ
size x = to_bits binary64 x % 2 ^ 63

-- a finite value's are below the infinity's
pub record Plain (x : Float) : Type 0 where
  pub sign : Bool
  pub sign_is : leb (2 ^ 63) (to_bits binary64 x) ≡ sign
  pub wide : to_bits binary64 x < 2 ^ 64
  pub rest : size x < infinite
  pub is : x ≡ at sign (size x)

pub plain : (x : Float) → T (fits binary64 x) → T (finite x) → Plain x
plain x f g =
    let p = pattern x f (finite_number x g) in
    let s = leb (2 ^ 63) (to_bits binary64 x) in
    record {
      sign = s;
      sign_is = refl;
      wide = p.fits_in;
      rest = ⊎_elim (λ (e : size x ≡ infinite). absurd (none s (p.is ∙ ap (at s) e))) (λ (l : size x < infinite). l) (eq-or-lt_of_le p.no_nan);
      is = p.is;
    }
  where
    none : (s : Bool) → x ≡ at s infinite → ⊥
    none s e = subst (λ (z : Float). T (finite z)) (e ∙ at_infinite s) g

pub value : (x : Float) (q : Plain x) → HasValue x q.sign (units_at (size x)) (2 ^ 1074)
value x q = subst (λ (z : Float). HasValue z q.sign (units_at (size x)) (2 ^ 1074)) (sym q.is) (at_value q.sign (size x) q.rest)

pub nought_value : HasValue nought false 0 (2 ^ 1074)
nought_value = (refl, refl)

-- the order against zero, by sign and bits
pub over_nought : (x : Float) (q : Plain x) → lt nought x ≡ below false 0 q.sign (units_at (size x))
over_nought x q = lt_at nought x false 0 q.sign (units_at (size x)) (2 ^ 1074) (pow_pos 1074) nought_value (value x q)

pub under_nought : (x : Float) (q : Plain x) → lt x nought ≡ below q.sign (units_at (size x)) false 0
under_nought x q = lt_at x nought q.sign (units_at (size x)) false 0 (2 ^ 1074) (pow_pos 1074) (value x q) nought_value

pub some_units : (p : ℕ) → ltb 0 (units_at p) ≡ true → 0 < p
some_units p h =
    ⊎_elim (λ (e : p ≡ 0). absurd (false≢true (ap (λ (z : ℕ). ltb 0 (units_at z)) (sym e) ∙ h))) (λ (l : 0 < p). l) (eq-zero-or-pos p)

-- ---- above zero, below zero
pub above : (x : Float) (q : Plain x) → lt nought x ≡ true → (q.sign ≡ false) × (0 < size x)
above x q h = go q.sign refl (sym (over_nought x q) ∙ h)
  where
    go : (s : Bool) → q.sign ≡ s → below false 0 s (units_at (size x)) ≡ true → (q.sign ≡ false) × (0 < size x)
    go true e k = absurd (false≢true k)
    go false e k = (e, some_units (size x) k)

pub plain_sum : (n : ℕ) → n + 0 ≡ n
plain_sum n = omega arith

pub under : (x : Float) (q : Plain x) → lt x nought ≡ true → (q.sign ≡ true) × (0 < size x)
under x q h = go q.sign refl (sym (under_nought x q) ∙ h)
  where
    none : (n : ℕ) → ltb n 0 ≡ true → ⊥
    none n e = bad (ltb→lt n 0 (subst T (sym e) tt))
      where
        bad : n < 0 → ⊥
        bad h = omega arith

    go : (s : Bool) → q.sign ≡ s → below s (units_at (size x)) false 0 ≡ true → (q.sign ≡ true) × (0 < size x)
    go true e k = (e, some_units (size x) (ap (λ (z : ℕ). ltb 0 z) (sym (plain_sum (units_at (size x)))) ∙ k))
    go false e k = absurd (none (units_at (size x)) k)

-- neither: no unit at all
pub none_of : (x : Float) (q : Plain x) → lt nought x ≡ false → lt x nought ≡ false → units_at (size x) ≡ 0
none_of x q k h = at_zero q.sign (units_at (size x)) (sym (over_nought x q) ∙ k) (sym (under_nought x q) ∙ h)

-- ---- patterns one apart
no_sign : (w : ℕ) → w < 2 ^ 63 → leb (2 ^ 63) w ≡ false
no_sign w h = is_false (leb (2 ^ 63) w) (not_T (leb (2 ^ 63) w) (λ (t : T (leb (2 ^ 63) w)). not-le_of_lt h (leb→le (2 ^ 63) w t)))

rest_is : (w : ℕ) → w < 2 ^ 63 → w % 2 ^ 63 ≡ w
rest_is w h = omega arith

below_sign : (w : ℕ) → leb (2 ^ 63) w ≡ false → w < 2 ^ 63
below_sign w e = nleb→lt (2 ^ 63) w (subst (λ (b : Bool). T (not b)) (sym e) tt)

above_sign : (w : ℕ) → leb (2 ^ 63) w ≡ true → 2 ^ 63 ≤ w
above_sign w e = leb→le (2 ^ 63) w (subst T (sym e) tt)

not_nan : (w : ℕ) → w % 2 ^ 63 ≤ infinite → T (not (nan_bits binary64 w))
not_nan w h =
    subst (λ (z : Bool). T (not z)) (sym (nan_bits_above binary64 w))
    (not_T (ltb infinite (w % 2 ^ 63)) (λ (t : T (ltb infinite (w % 2 ^ 63))). not-le_of_lt (ltb→lt infinite (w % 2 ^ 63) t) h))

pub down_one : (w : ℕ) → leb (2 ^ 63) w ≡ false → 0 < w % 2 ^ 63 → w % 2 ^ 63 < infinite
    → (of_bits binary64 (w - 1) ≡ at false (w % 2 ^ 63 - 1)) × ((w - 1) % 2 ^ 63 ≤ infinite) × (1 ≤ w)
down_one w s h k =
    let l = below_sign w s in
    let m = less w l in (
      of_bits_at (w - 1)
          ∙ ap (λ (z : Bool). at z ((w - 1) % 2 ^ 63)) (no_sign (w - 1) m)
          ∙ ap (at false) (rest_is (w - 1) m ∙ ap (λ (z : ℕ). z - 1) (sym (rest_is w l))),
      small w k l,
      one w h,
    )
  where
    less : (w : ℕ) → w < 2 ^ 63 → w - 1 < 2 ^ 63
    less w h = omega arith

    small : (w : ℕ) → w % 2 ^ 63 < infinite → w < 2 ^ 63 → (w - 1) % 2 ^ 63 ≤ infinite
    small w h l = omega arith

    one : (w : ℕ) → 0 < w % 2 ^ 63 → 1 ≤ w
    one w h = omega arith

pub up_one : (w : ℕ) → leb (2 ^ 63) w ≡ true → w < 2 ^ 64 → w % 2 ^ 63 < infinite
    → (of_bits binary64 (w + 1) ≡ at true (w % 2 ^ 63 + 1)) × ((w + 1) % 2 ^ 63 ≤ infinite) × (w + 1 < 2 ^ 64)
up_one w s h k =
    let l = above_sign w s in (
      of_bits_at (w + 1)
          ∙ ap (λ (z : Bool). at z ((w + 1) % 2 ^ 63)) (is_true (leb (2 ^ 63) (w + 1)) (le→leb (2 ^ 63) (w + 1) (more w l)))
          ∙ ap (at true) (next w l h k),
      small w l h k,
      room w l h k,
    )
  where
    more : (w : ℕ) → 2 ^ 63 ≤ w → 2 ^ 63 ≤ w + 1
    more w l = omega arith

    next : (w : ℕ) → 2 ^ 63 ≤ w → w < 2 ^ 64 → w % 2 ^ 63 < infinite → (w + 1) % 2 ^ 63 ≡ w % 2 ^ 63 + 1
    next w l h k = omega arith

    small : (w : ℕ) → 2 ^ 63 ≤ w → w < 2 ^ 64 → w % 2 ^ 63 < infinite → (w + 1) % 2 ^ 63 ≤ infinite
    small w l h k = omega arith

    room : (w : ℕ) → 2 ^ 63 ≤ w → w < 2 ^ 64 → w % 2 ^ 63 < infinite → w + 1 < 2 ^ 64
    room w l h k = omega arith

-- ---- strictly below
-- two patterns by their signs and units
at_order : (s t : Bool) (p q : ℕ) → p < infinite → q < infinite → T (below s (units_at p) t (units_at q)) → T (lt (at s p) (at t q))
at_order s t p q i j h =
    subst T (sym (lt_at (at s p) (at t q) s (units_at p) t (units_at q) (2 ^ 1074) (pow_pos 1074) (at_value s p i) (at_value t q j))) h

lower_plus : (p : ℕ) → 0 < p → p < infinite → T (lt (at false (p - 1)) (at false p))
lower_plus p h k = at_order false false (p - 1) p (fewer k) k (lt→ltb (units_at (p - 1)) (units_at p) (units_strict (p - 1) p (pred h)))
  where
    fewer : p < infinite → p - 1 < infinite
    fewer h = omega arith

    pred : 0 < p → p - 1 < p
    pred h = omega arith

inf_below : (x : Float) (s : Bool) (a c : ℕ) → HasValue x s a c → T (lt (inf true) x)
unfolding lt
inf_below nan s a c v = absurd v
inf_below (inf t) s a c v = absurd v
inf_below (fin t m e) s a c v = tt

lower_minus : (p : ℕ) → p < infinite → T (lt (at true (p + 1)) (at true p))
lower_minus p k = go (eq-or-lt_of_le (up k))
  where
    up : p < infinite → p + 1 ≤ infinite
    up h = omega arith

    more : (p : ℕ) → p < p + 1
    more p = omega arith

    go : (p + 1 ≡ infinite) ⊎ (p + 1 < infinite) → T (lt (at true (p + 1)) (at true p))
    go (inl e) =
        subst (λ (z : Float). T (lt z (at true p))) (sym (ap (at true) e ∙ at_infinite true))
        (inf_below (at true p) true (units_at p) (2 ^ 1074) (at_value true p k))
    go (inr l) = at_order true true (p + 1) p l k (lt→ltb (units_at p) (units_at (p + 1)) (units_strict p (p + 1) (more p)))

-- the largest number below zero
least_is : of_bits binary64 0x8000_0000_0000_0001 ≡ fin true 1 (negsuc 1073)
unfolding of_bits
least_is = refl

-- what is not finite is left as it is
pub next_itself : (x : Float) → finite x ≡ false → x ≡ next_below x
unfolding next_below
next_itself x h = sym (cond_no (finite x) _ x h)

-- ---- the definition at a finite value: above zero, below zero, at zero
module _ (x : Float) (f : T (fits binary64 x)) (g : T (finite x)) where
  abbrev w : ℕ
  w = to_bits binary64 x

  -- the neighbour of a number that is not above zero
  abbrev behind : Float
  behind = cond (lt x nought) (of_bits binary64 (w + 1)) (of_bits binary64 0x8000_0000_0000_0001)

  at_number : next_below x ≡ cond (lt nought x) (of_bits binary64 (w - 1)) behind
  unfolding next_below
  at_number = cond_yes (finite x) (cond (lt nought x) (of_bits binary64 (w - 1)) behind) x (T→≡ (finite x) g)

  pub next_plus : lt nought x ≡ true → (of_bits binary64 (w - 1) ≡ next_below x) × T (lt (of_bits binary64 (w - 1)) x)
  next_plus h =
      let q = plain x f g in
      let a = above x q h in
      let d = down_one w (q.sign_is ∙ a.0) a.1 q.rest in (
        sym (at_number ∙ cond_yes (lt nought x) (of_bits binary64 (w - 1)) behind h),
        subst (λ (z : Float). T (lt z x)) (sym d.0)
            (subst (λ (z : Float). T (lt (at false (size x - 1)) z)) (sym (q.is ∙ ap (λ (s : Bool). at s (size x)) a.0)) (lower_plus (size x) a.1 q.rest)),
      )

  pub next_minus : lt nought x ≡ false → lt x nought ≡ true → (of_bits binary64 (w + 1) ≡ next_below x) × T (lt (of_bits binary64 (w + 1)) x)
  next_minus k h =
      let q = plain x f g in
      let a = under x q h in
      let d = up_one w (q.sign_is ∙ a.0) q.wide q.rest in (
        sym
            (at_number ∙ cond_no (lt nought x) (of_bits binary64 (w - 1)) behind k
            ∙ cond_yes (lt x nought) (of_bits binary64 (w + 1)) (of_bits binary64 0x8000_0000_0000_0001) h),
        subst (λ (z : Float). T (lt z x)) (sym d.0)
            (subst (λ (z : Float). T (lt (at true (size x + 1)) z)) (sym (q.is ∙ ap (λ (s : Bool). at s (size x)) a.0)) (lower_minus (size x) q.rest)),
      )

  pub next_nought : lt nought x ≡ false → lt x nought ≡ false
      → (of_bits binary64 0x8000_0000_0000_0001 ≡ next_below x) × T (lt (of_bits binary64 0x8000_0000_0000_0001) x)
  next_nought k h =
      let q = plain x f g in
      let z = none_of x q k h in (
        sym
            (at_number ∙ cond_no (lt nought x) (of_bits binary64 (w - 1)) behind k
            ∙ cond_no (lt x nought) (of_bits binary64 (w + 1)) (of_bits binary64 0x8000_0000_0000_0001) h),
        subst (λ (y : Float). T (lt y x)) (sym least_is)
            (subst T
            (sym
            (lt_at (fin true 1 (negsuc 1073)) x true 1 q.sign 0 (2 ^ 1074) (pow_pos 1074) (refl, refl)
            (subst (λ (y : ℕ). HasValue x q.sign y (2 ^ 1074)) z (value x q))))
            (either q.sign)),
      )
    where
      either : (s : Bool) → T (below true 1 s 0)
      either true = tt
      either false = tt

  -- the patterns are a number's
  pub bits_minus : lt nought x ≡ true → (1 ≤ w) × T (not (nan_bits binary64 (w - 1)))
  bits_minus h =
      let q = plain x f g in
      let a = above x q h in
      let d = down_one w (q.sign_is ∙ a.0) a.1 q.rest in
      (d.2, not_nan (w - 1) d.1)

  pub bits_plus : lt x nought ≡ true → (w + 1 < 2 ^ 64) × T (not (nan_bits binary64 (w + 1)))
  bits_plus h =
      let q = plain x f g in
      let a = under x q h in
      let d = up_one w (q.sign_is ∙ a.0) q.wide q.rest in
      (d.2, not_nan (w + 1) d.1)
