-- What the neighbours mean. Of all numbers of the format below a finite x, `next_below x` is the greatest, and it is below x itself; `next_above` is the mirror
-- image. Assumes nothing.
use Rattle.std.proofs.Common.{◌≡◌, ℕ, ◌+◌, ◌-◌, ◌*◌, ◌/◌, ◌^◌, ◌<◌, ◌≤◌, Bool, true, false, cond, not, T, ltb, pos, neg_ℤ, sym, refl, ◌∙◌, subst, le_of_lt, add_comm, lt_of_not-le, not-le_of_lt, arith, ltb→lt, pow_pos}
use lib.IntN.{neg_ℤ-neg_ℤ}
use lib.Ieee.{Float, nan, inf, fin, binary64, up, down, below, lt, le, neg, fits, to_bits, of_bits}
use lib.Ieee.Bits.{of_bits-fits}
use lib.Ieee.Exact.{HasValue}
use lib.Ieee.Fits.{cond-fits}
use lib.Ieee.Fits as F
use lib.Ieee.Scale.{finite}
use Rattle.base.proofs.Test.{cases, T→≡}
use Rattle.interval.specs.Bounds.{signed, in_units}
use Rattle.interval.specs.Next.{nought, next_below, next_above}
use Rattle.interval.proofs.Compare.{lt_at}
use Rattle.interval.proofs.HalfBetween.{Signed, minus_le_plus}
use Rattle.interval.proofs.Patterns.{infinite, at, units_at, units_mono, at_value, at_mono, at_mono_neg, of_bits_at, le_neg, neg_neg}
use Rattle.interval.proofs.NextBelow.{size, plain, value, some_units, plain_sum, above, under, none_of, down_one, up_one}
use Rattle.interval.proofs.NextBelow.{next_plus, next_minus, next_nought}

-- ---- negation of single values
pub neg_finite : (x : Float) → finite (neg x) ≡ finite x
unfolding neg
neg_finite nan = refl
neg_finite (inf s) = refl
neg_finite (fin s m e) = refl

signed_not : (s : Bool) (n : ℕ) → signed (not s) n ≡ neg_ℤ (signed s n)
signed_not false n = refl
signed_not true n = sym (neg_ℤ-neg_ℤ (pos n))

pub neg_units : (x : Float) → in_units (neg x) ≡ neg_ℤ (in_units x)
unfolding neg in_units
neg_units nan = refl
neg_units (inf s) = refl
neg_units (fin s m e) = signed_not s (m * up e * 2 ^ 1074 / down e)

-- ---- the neighbour is of the format, and below
pub next_fits : (x : Float) → T (fits binary64 x) → T (fits binary64 (next_below x))
unfolding next_below
next_fits x f =
    let a = of_bits binary64 (to_bits binary64 x - 1) in
    let b = of_bits binary64 (to_bits binary64 x + 1) in
    let c = of_bits binary64 0x8000_0000_0000_0001 in
    let s = cond-fits binary64 (lt x nought) b c (of_bits-fits binary64 (to_bits binary64 x + 1)) (of_bits-fits binary64 0x8000_0000_0000_0001) in
    cond-fits binary64 (finite x) (cond (lt nought x) a (cond (lt x nought) b c)) x
    (cond-fits binary64 (lt nought x) a (cond (lt x nought) b c) (of_bits-fits binary64 (to_bits binary64 x - 1)) s) f

pub above_fits : (x : Float) → T (fits binary64 x) → T (fits binary64 (next_above x))
unfolding next_above
above_fits x f = F.neg-fits binary64 (next_below (neg x)) (next_fits (neg x) (F.neg-fits binary64 x f))

-- a fact of the neighbour, by the three cases of its definition
by_cases : (P : Float → Type 0) (x : Float) (f : T (fits binary64 x)) (g : T (finite x))
    → (lt nought x ≡ true → P (of_bits binary64 (to_bits binary64 x - 1)))
    → (lt nought x ≡ false → lt x nought ≡ true → P (of_bits binary64 (to_bits binary64 x + 1)))
    → (lt nought x ≡ false → lt x nought ≡ false → P (of_bits binary64 0x8000_0000_0000_0001))
    → P (next_below x)
by_cases P x f g p m z =
    cases (lt nought x)
    (λ (h : lt nought x ≡ true). subst P (next_plus x f g h).0 (p h))
    (λ (h : lt nought x ≡ false).
    cases (lt x nought)
    (λ (k : lt x nought ≡ true). subst P (next_minus x f g h k).0 (m h k))
    (λ (k : lt x nought ≡ false). subst P (next_nought x f g h k).0 (z h k)))

pub next_lt : (x : Float) → T (fits binary64 x) → T (finite x) → T (lt (next_below x) x)
next_lt x f g =
    by_cases (λ (y : Float). T (lt y x)) x f g (λ h. (next_plus x f g h).1) (λ h k. (next_minus x f g h k).1) (λ h k. (next_nought x f g h k).1)

-- ---- no number lies between
signed_value : (x : Float) (s : Bool) (a c : ℕ) → HasValue x s a c → Signed x s
signed_value nan s a c v = v
signed_value (inf t) s a c v = absurd v
signed_value (fin t m e) s a c v = v.0

-- fewer units, a smaller pattern
pattern_lt : (p q : ℕ) → units_at p < units_at q → p < q
pattern_lt p q h = lt_of_not-le (λ (g : q ≤ p). not-le_of_lt h (units_mono q p g))

under_plus : (s : Bool) (p P : ℕ) → p < infinite → P < infinite → 0 < P → T (below s (units_at p) false (units_at P)) → T (le (at s p) (at false (P - 1)))
under_plus true p P i j k h =
    minus_le_plus (at true p) (at false (P - 1))
    (signed_value (at true p) true (units_at p) (2 ^ 1074) (at_value true p i))
    (signed_value (at false (P - 1)) false (units_at (P - 1)) (2 ^ 1074) (at_value false (P - 1) (less P j)))
  where
    less : (P : ℕ) → P < infinite → P - 1 < infinite
    less P h = omega arith
under_plus false p P i j k h = at_mono p (P - 1) (fewer (pattern_lt p P (ltb→lt (units_at p) (units_at P) h))) (room j)
  where
    fewer : p < P → p ≤ P - 1
    fewer h = omega arith

    room : P < infinite → P - 1 ≤ infinite
    room h = omega arith

under_minus : (s : Bool) (p P : ℕ) → p < infinite → T (below s (units_at p) true (units_at P)) → T (le (at s p) (at true (P + 1)))
under_minus false p P i h = absurd h
under_minus true p P i h = at_mono_neg (P + 1) p (more (pattern_lt P p (ltb→lt (units_at P) (units_at p) h))) (le_of_lt i)
  where
    more : P < p → P + 1 ≤ p
    more h = omega arith

under_zero : (s t : Bool) (p : ℕ) → p < infinite → T (below s (units_at p) t 0) → T (le (at s p) (at true 1))
under_zero false false p i h = absurd (bad (ltb→lt (units_at p) 0 h))
  where
    bad : units_at p < 0 → ⊥
    bad h = omega arith
under_zero false true p i h = absurd h
under_zero true false p i h =
    at_mono_neg 1 p (some_units p (T→≡ (ltb 0 (units_at p)) (subst (λ (z : ℕ). T (ltb 0 z)) (plain_sum (units_at p)) h))) (le_of_lt i)
under_zero true true p i h = at_mono_neg 1 p (some_units p (T→≡ (ltb 0 (units_at p)) h)) (le_of_lt i)

pub next_greatest : (x y : Float) → T (fits binary64 x) → T (finite x) → T (fits binary64 y) → T (finite y) → T (lt y x) → T (le y (next_below x))
next_greatest x y f g u v h =
    let q = plain x f g in
    let k = plain y u v in
    let s = k.sign in
    let p = size y in
    let o = subst T (lt_at y x s (units_at p) q.sign (units_at (size x)) (2 ^ 1074) (pow_pos 1074) (value y k) (value x q)) h in
    subst (λ (z : Float). T (le z (next_below x))) (sym k.is)
    (by_cases (λ (z : Float). T (le (at s p) z)) x f g
    (λ a.
    let b = above x q a in
    subst (λ (z : Float). T (le (at s p) z)) (sym (down_one (to_bits binary64 x) (q.sign_is ∙ b.0) b.1 q.rest).0)
    (under_plus s p (size x) k.rest q.rest b.1 (subst (λ (t : Bool). T (below s (units_at p) t (units_at (size x)))) b.0 o)))
    (λ a c.
    let b = under x q c in
    subst (λ (z : Float). T (le (at s p) z)) (sym (up_one (to_bits binary64 x) (q.sign_is ∙ b.0) q.wide q.rest).0)
    (under_minus s p (size x) k.rest (subst (λ (t : Bool). T (below s (units_at p) t (units_at (size x)))) b.0 o)))
    (λ a c.
    subst (λ (z : Float). T (le (at s p) z)) (sym (of_bits_at 0x8000_0000_0000_0001))
    (under_zero s q.sign p k.rest (subst (λ (m : ℕ). T (below s (units_at p) q.sign m)) (none_of x q a c) o))))

-- ---- the mirror image
below_neg : (s : Bool) (a : ℕ) (t : Bool) (b : ℕ) → T (below s a t b) → T (below (not t) b (not s) a)
below_neg false a false b h = h
below_neg false a true b h = absurd h
below_neg true a false b h = subst (λ (z : ℕ). T (ltb 0 z)) (add_comm a b) h
below_neg true a true b h = h

lt_neg : (x y : Float) → T (lt x y) → T (lt (neg y) (neg x))
unfolding lt neg
lt_neg nan y h = absurd h
lt_neg (inf s) nan h = absurd h
lt_neg (inf true) (inf false) h = tt
lt_neg (inf true) (inf true) h = absurd h
lt_neg (inf false) (inf t) h = absurd h
lt_neg (inf true) (fin t n d) h = tt
lt_neg (inf false) (fin t n d) h = absurd h
lt_neg (fin s m e) nan h = absurd h
lt_neg (fin s m e) (inf true) h = absurd h
lt_neg (fin s m e) (inf false) h = tt
lt_neg (fin s m e) (fin t n d) h = below_neg s (m * up e * down d) t (n * up d * down e) h

pub above_lt : (x : Float) → T (fits binary64 x) → T (finite x) → T (lt x (next_above x))
unfolding next_above
above_lt x f g =
    let n = next_lt (neg x) (F.neg-fits binary64 x f) (subst T (sym (neg_finite x)) g) in
    subst (λ (z : Float). T (lt z (neg (next_below (neg x))))) (neg_neg x) (lt_neg (next_below (neg x)) (neg x) n)

pub next_least : (x y : Float) → T (fits binary64 x) → T (finite x) → T (fits binary64 y) → T (finite y) → T (lt x y) → T (le (next_above x) y)
unfolding next_above
next_least x y f g u v h =
    let fx = F.neg-fits binary64 x f in
    let fy = F.neg-fits binary64 y u in
    let gx = subst T (sym (neg_finite x)) g in
    let gy = subst T (sym (neg_finite y)) v in
    subst (λ (z : Float). T (le (neg (next_below (neg x))) z)) (neg_neg y)
    (le_neg (neg y) (next_below (neg x)) (next_greatest (neg x) (neg y) fx gx fy gy (lt_neg x y h)))
