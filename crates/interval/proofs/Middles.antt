-- The midpoint of two whole bounds whose width is 2 is whole (`middle_whole`), so that rounding it to whole changes nothing
-- (`middle_rounded`). Assumes nothing.
use Rattle.std.proofs.Common.{◌≡◌, ℕ, zero, suc, ◌+◌, ◌-◌, ◌*◌, ◌^◌, ◌<◌, ◌≤◌, Bool, true, false, not, ◌&&◌, T, eqb, leb, ℤ, pos, ◌+ℤ◌, ◌-ℤ◌, neg_ℤ, nat_abs, sym, refl, ap, ◌∙◌, subst, le_trans, le_of_lt, lt_irrefl, mul-le-mul_right, zero-lt-suc, add-mul, add_comm, mul-pos, mul-one, arith, lit<, lit≤, eqb→eq, leb→le, pow_pos}
use native.Mathlib.Nat.{eq_of_mul-eq-mul_right}
use lib.IntN.{+ℤ_comm, neg_ℤ-neg_ℤ, neg_ℤ-+ℤ}
use lib.Signed.{le_z}
use lib.Dec.{nleb→lt}
use lib.Ieee.{Float, nan, inf, fin, binary64, round, neg, le, fits}
use lib.Ieee.Fits.{round-fits}
use lib.Ieee.Back.{round_whole}
use lib.Ieee.Order.{round_mono}
use lib.Ieee.Scale.{finite, round_same}
use Rattle.base.proofs.Test.{≡→T, T→≡, and_left, and_right, of_both}
use Rattle.interval.specs.declared.Interval.{Interval}
use Rattle.interval.specs.Bounds.{signed, in_units, plus_zero, whole_bound, legal_interval, InFormat}
use Rattle.interval.specs.Middle.{rounded, half_sum, whole_near}
use Rattle.interval.specs.Kinds.{middle_at, midpoint_of}
use Rattle.interval.specs.Cuts.{width_is}
use Rattle.interval.proofs.Value.{Placed, placed}
use Rattle.interval.proofs.Zeros.{as_whole, was_finite}
use Rattle.interval.proofs.Compare.{le_at}
use Rattle.interval.proofs.UnitsOrder.{le_is, le_units, sub_ge, neg_order}
use Rattle.interval.proofs.HalfSum.{plus_neg}
use Rattle.interval.proofs.WholeRounding.{negated_round}
use Rattle.interval.proofs.HalfBetween.{plus_signed}
use Rattle.interval.proofs.CutUpTo.{neg_whole, half_finite}
use Rattle.interval.proofs.Difference.{num, scale}
use Rattle.interval.proofs.Wholeness.{value_whole, large_whole, whole_is}
use Rattle.interval.proofs.Widths.{Multiple, multiple, both_zero}
use Rattle.interval.proofs.Legality.{legal_order, whole_ends}
use Rattle.interval.proofs.FiniteEnds.{kind_by}
use Rattle.interval.proofs.Sameness.{same_float}
use Rattle.interval.proofs.WholeOrder.{whole_fits}
use Rattle.interval.proofs.CutPoint.{half_fits, half_put, near_put}

-- ---- a whole number rounded is whole
above_edge : (y : Float) → T (fits binary64 y) → T (finite y) → T (le (num (2 ^ 53)) y) → whole_bound y ≡ true
above_edge nan f g l = absurd g
above_edge (inf s) f g l = absurd g
above_edge (fin t m e) f g l = go t (placed binary64 t m e f) l
  where
    K : ℕ
    K = 2 ^ 53 * 2 ^ 1074

    order : (t : Bool) (p : Placed binary64 t (fin t m e)) → T (le (num (2 ^ 53)) (fin t m e)) → T (le_z (pos K) (signed t (p.m * 2 ^ p.j)))
    order t p l = subst T (le_at (num (2 ^ 53)) (fin t m e) false K t (p.m * 2 ^ p.j) (2 ^ 1074) (pow_pos 1074) (scale (num (2 ^ 53)) false (2 ^ 53) (2 ^ 1074) (round_whole binary64 false (2 ^ 53) (lit≤ tt))) p.value ∙ le_is false K t (p.m * 2 ^ p.j)) l

    no : (n : ℕ) → T (le_z (pos K) (neg_ℤ (pos n))) → ⊥
    no n h = lt_irrefl 0 (subst (λ (z : ℕ). 0 < z) (both_zero K n h).0 (lit< tt))

    go : (t : Bool) (p : Placed binary64 t (fin t m e)) → T (le (num (2 ^ 53)) (fin t m e)) → whole_bound (fin t m e) ≡ true
    go false p l = large_whole false m e p (le_trans (lit≤ tt) (leb→le K (p.m * 2 ^ p.j) (order false p l)))
    go true p l = absurd (no (p.m * 2 ^ p.j) (order true p l))

num_whole : (n : ℕ) → T (finite (num n)) → whole_bound (num n) ≡ true
num_whole n g = go (leb n (2 ^ 53)) (leb→le n (2 ^ 53)) (nleb→lt n (2 ^ 53))
  where
    go : (b : Bool) → (T b → n ≤ 2 ^ 53) → (T (not b) → 2 ^ 53 < n) → whole_bound (num n) ≡ true
    go true h k = value_whole (num n) false n (round_whole binary64 false n (h tt))
    go false h k = above_edge (num n) (round-fits binary64 false n 1) g (round_mono binary64 (2 ^ 53) 1 n 1 (zero-lt-suc 0) (zero-lt-suc 0) (mul-le-mul_right 1 (le_of_lt (k tt))))

finite_neg : (x : Float) → T (finite (neg x)) → T (finite x)
unfolding neg
finite_neg nan h = h
finite_neg (inf s) h = h
finite_neg (fin s m e) h = h

pub round_one_whole : (r : Bool) (n : ℕ) → T (finite (round binary64 r n 1)) → whole_bound (round binary64 r n 1) ≡ true
round_one_whole false n g = num_whole n g
round_one_whole true n g =
    ap whole_bound (sym (negated_round binary64 false n 1)) ∙ neg_whole (num n)
    ∙ num_whole n (finite_neg (num n) (subst (λ (z : Float). T (finite z)) (sym (negated_round binary64 false n 1)) g))

-- ---- the sum of two bounds that are 2 apart is twice a whole number
Even : ℤ → Type 0
Even z = (r : Bool) × (n : ℕ) × (z ≡ signed r (n * (2 ^ 1074 * 2)))

up_two : (P Q U : ℕ) → P ≤ Q → Q - P ≡ 2 * U → P + Q ≡ P * 2 + U * 2
up_two P Q U h e = omega arith

spread : (p U : ℕ) → (p + 1) * (U * 2) ≡ p * U * 2 + U * 2
spread p U = omega arith

two_parts : (p q : ℕ) → p + q ≡ 2 → Even (signed true (p * 2 ^ 1074) +ℤ signed false (q * 2 ^ 1074))
unfolding Even
two_parts zero q e = (false, 1, ap (λ (z : ℕ). signed true (0 * 2 ^ 1074) +ℤ signed false (z * 2 ^ 1074)) (two q e))
  where
    two : (q : ℕ) → 0 + q ≡ 2 → q ≡ 2
    two q e = omega arith
two_parts (suc zero) q e = (false, 0, ap (λ (z : ℕ). signed true (1 * 2 ^ 1074) +ℤ signed false (z * 2 ^ 1074)) (one q e))
  where
    one : (q : ℕ) → 1 + q ≡ 2 → q ≡ 1
    one q e = omega arith
two_parts (suc (suc zero)) q e = (true, 1, ap (λ (z : ℕ). signed true (2 * 2 ^ 1074) +ℤ signed false (z * 2 ^ 1074)) (none q e))
  where
    none : (q : ℕ) → 2 + q ≡ 2 → q ≡ 0
    none q e = omega arith
two_parts (suc (suc (suc p))) q e = absurd (over p q e)
  where
    over : (p q : ℕ) → suc (suc (suc p)) + q ≡ 2 → ⊥
    over p q e = omega arith

even_sum : (s : Bool) (p : ℕ) (t : Bool) (q : ℕ) → T (le_z (signed s (p * 2 ^ 1074)) (signed t (q * 2 ^ 1074))) → nat_abs (signed t (q * 2 ^ 1074) -ℤ signed s (p * 2 ^ 1074)) ≡ 2 * 2 ^ 1074
    → Even (signed s (p * 2 ^ 1074) +ℤ signed t (q * 2 ^ 1074))
unfolding Even
even_sum false p false q l e =
    let U = 2 ^ 1074 in
    let h : p * U ≤ q * U = leb→le (p * U) (q * U) l in
    let d : q * U - p * U ≡ 2 * U = ap nat_abs (sym (plus_neg (q * U) (p * U) ∙ sub_ge (q * U) (p * U) h)) ∙ e in
    (false, p + 1, ap pos (up_two (p * U) (q * U) U h d ∙ sym (spread p U)))
even_sum true p true q l e =
    let U = 2 ^ 1074 in
    let h : q * U ≤ p * U = neg_order (p * U) (q * U) l in
    let d : p * U - q * U ≡ 2 * U = ap nat_abs (sym (ap (λ (z : ℤ). neg_ℤ (pos (q * U)) +ℤ z) (neg_ℤ-neg_ℤ (pos (p * U))) ∙ +ℤ_comm (neg_ℤ (pos (q * U))) (pos (p * U)) ∙ plus_neg (p * U) (q * U) ∙ sub_ge (p * U) (q * U) h)) ∙ e in
    (true, q + 1, sym (neg_ℤ-+ℤ (pos (p * U)) (pos (q * U))) ∙ ap (λ (z : ℕ). neg_ℤ (pos z)) (add_comm (p * U) (q * U) ∙ up_two (q * U) (p * U) U h d ∙ sym (spread q U)))
even_sum true p false q l e =
    let U = 2 ^ 1074 in
    two_parts p q (eq_of_mul-eq-mul_right U (pow_pos 1074) (p + q) 2 (add-mul p q U ∙ add_comm (p * U) (q * U) ∙ ap nat_abs (sym (ap (λ (z : ℤ). pos (q * U) +ℤ z) (neg_ℤ-neg_ℤ (pos (p * U))))) ∙ e))
even_sum false p true q l e =
    let U = 2 ^ 1074 in
    let z = both_zero (p * U) (q * U) l in
    absurd (lt_irrefl 0 (subst (λ (k : ℕ). 0 < k) (sym (sym (ap (λ (k : ℕ). nat_abs (neg_ℤ (pos k) +ℤ neg_ℤ (pos (p * U)))) z.1 ∙ ap (λ (k : ℕ). nat_abs (neg_ℤ (pos 0) +ℤ neg_ℤ (pos k))) z.0) ∙ e)) (lit< tt)))

-- ---- so their midpoint is whole
even_half : (a b : Float) (r : Bool) (n : ℕ) → in_units a +ℤ in_units b ≡ signed r (n * (2 ^ 1074 * 2)) → half_sum a b ≡ plus_zero (round binary64 r n 1)
unfolding half_sum
even_half a b r n e =
    ap (λ (z : ℤ). plus_zero (rounded z (2 ^ 1074 * 2))) e
    ∙ plus_signed r (n * (2 ^ 1074 * 2)) (2 ^ 1074 * 2) (mul-pos (pow_pos 1074) (zero-lt-suc 1))
    ∙ ap plus_zero (round_same binary64 r (n * (2 ^ 1074 * 2)) (2 ^ 1074 * 2) n 1 (mul-pos (pow_pos 1074) (zero-lt-suc 1)) (zero-lt-suc 0) (mul-one (n * (2 ^ 1074 * 2))))

rounded_half : (a b : Float) (r : Bool) (n : ℕ) → T (finite (half_sum a b)) → half_sum a b ≡ plus_zero (round binary64 r n 1) → whole_bound (half_sum a b) ≡ true
rounded_half a b r n g e = ap whole_bound e ∙ as_whole false (round binary64 r n 1) ∙ round_one_whole r n (was_finite false (round binary64 r n 1) (subst (λ (z : Float). T (finite z)) e g))

-- in units, as multiples of one
units_even : (a b : Float) (p : Multiple a) (q : Multiple b) → T (le_z (in_units a) (in_units b)) → nat_abs (in_units b -ℤ in_units a) ≡ 2 * 2 ^ 1074 → Even (in_units a +ℤ in_units b)
units_even a b p q l e =
    subst Even (sym (ap (λ (z : ℤ). z +ℤ in_units b) p.is ∙ ap (λ (z : ℤ). signed p.sign (p.times * 2 ^ 1074) +ℤ z) q.is))
    (even_sum p.sign p.times q.sign q.times
    (subst (λ (z : ℤ). T (le_z z (signed q.sign (q.times * 2 ^ 1074)))) p.is (subst (λ (z : ℤ). T (le_z (in_units a) z)) q.is l))
    (ap nat_abs (sym (ap (λ (z : ℤ). z -ℤ in_units a) q.is ∙ ap (λ (z : ℤ). signed q.sign (q.times * 2 ^ 1074) -ℤ z) p.is)) ∙ e))

half_whole : (a b : Float) → T (fits binary64 a) → T (fits binary64 b) → T (finite a) → T (finite b) → T (whole_bound a) → T (whole_bound b) → T (le a b) → nat_abs (in_units b -ℤ in_units a) ≡ 2 * 2 ^ 1074 → whole_bound (half_sum a b) ≡ true
unfolding Even
half_whole a b fa fb ga gb wa wb l e = from (units_even a b (multiple a fa ga wa) (multiple b fb gb wb) (subst T (le_units a b fa fb ga gb) l) e)
  where
    from : Even (in_units a +ℤ in_units b) → whole_bound (half_sum a b) ≡ true
    from w = rounded_half a b w.0 w.1 (half_finite a b fa fb (of_both (finite a) (finite b) ga gb)) (even_half a b w.0 w.1 w.2)

-- ---- of an interval of width 2
pub record Two (x : Interval) : Type 0 where
  pub lower : T (finite x.lower)
  pub upper : T (finite x.upper)
  pub apart : nat_abs (in_units x.upper -ℤ in_units x.lower) ≡ 2 * 2 ^ 1074

pub two_apart : (x : Interval) → width_is 2 x ≡ true → Two x
unfolding width_is
two_apart x h =
    let ends = finite x.lower && finite x.upper in
    let test = eqb (nat_abs (in_units x.upper -ℤ in_units x.lower)) (2 * 2 ^ 1074) in
    record {
      lower = ≡→T (and_left (finite x.lower) (finite x.upper) (and_left ends test h));
      upper = ≡→T (and_right (finite x.lower) (finite x.upper) (and_left ends test h));
      apart = eqb→eq (nat_abs (in_units x.upper -ℤ in_units x.lower)) (2 * 2 ^ 1074) (≡→T (and_right ends test h));
    }

pub middle_half : (x : Interval) → T (finite x.lower) → T (finite x.upper) → midpoint_of x ≡ half_sum x.lower x.upper
unfolding middle_at
middle_half x g h = ap middle_at (sym (kind_by x.lower x.upper true true (T→≡ (finite x.lower) g) (T→≡ (finite x.upper) h)))

pub middle_whole : (x : Interval) → InFormat x → legal_interval x true ≡ true → width_is 2 x ≡ true → whole_bound (midpoint_of x) ≡ true
middle_whole x f h w =
    let t = two_apart x w in
    let e = whole_ends x true h refl in
    ap whole_bound (middle_half x t.lower t.upper)
    ∙ half_whole x.lower x.upper f.0 f.1 t.lower t.upper (≡→T e.0) (≡→T e.1) (≡→T (legal_order x true h)) t.apart

-- the middle as it stands and the middle rounded to whole are one
pub middle_rounded : (x : Interval) → InFormat x → legal_interval x true ≡ true → width_is 2 x ≡ true → whole_near (midpoint_of x) ≡ midpoint_of x
middle_rounded x f h w =
    let t = two_apart x w in
    let m = half_sum x.lower x.upper in
    let e = middle_half x t.lower t.upper in
    let fm = half_fits x.lower x.upper in
    ap whole_near e
    ∙ same_float false (whole_near m) m (whole_fits m fm) fm (near_put m) (half_put x.lower x.upper) (whole_is m fm ∙ ap whole_bound (sym e) ∙ middle_whole x f h w)
    ∙ sym e
