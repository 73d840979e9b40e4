-- A parameter is subdivisible by its midpoint exactly where its cut point differs from both bounds (`split_by_cut`).
-- Assumes nothing.
use Rattle.std.proofs.Common.{◌≡◌, ℕ, ◌*◌, ◌^◌, ◌<◌, ◌≤◌, Bool, true, false, cond, not, ◌&&◌, ◌||◌, T, eqb, ltb, ℤ, pos, neg_ℤ, sym, refl, ap, ◌∙◌, subst, ⊎_elim, lt_irrefl, eq-zero-or-pos, arith, lit<, nltb→le, pow_pos, ne_eqb}
use mathlib.Core.Bool.{beq, false≢true, and-false}
use lib.Ieee.{Float, nan, inf, fin, binary64, round, level, neg, lt, le, eq, ne, fits}
use lib.Ieee.Fits.{neg-fits}
use lib.Ieee.Exact.{HasValue}
use lib.Ieee.Scale.{finite}
use Rattle.interval.specs.declared.Interval.{Interval}
use Rattle.interval.specs.Bounds.{signed, in_units, zero_as, plus_zero, legal_bounds, legal_interval, InFormat}
use Rattle.interval.specs.Middle.{rounded, largest_finite, half_away, whole_near, whole_if}
use Rattle.interval.specs.Kinds.{kind_of, middle_at, largest_units, cut_up_to, cut_point_at, cut_point_of}
use Rattle.interval.specs.Cuts.{subdivisible}
use Rattle.interval.proofs.Value.{Placed, placed}
use Rattle.interval.proofs.Zeros.{as_eq_right, signed_zero}
use Rattle.interval.proofs.HalfSum.{units_of}
use Rattle.interval.proofs.Compare.{eq_at}
use Rattle.interval.proofs.Patterns.{neg_neg}
use Rattle.interval.proofs.CutUpTo.{cut_units, units_neg, neg_finite}
use Rattle.interval.proofs.CutInside.{up_to_good, up_above, double_value}
use Rattle.interval.proofs.CutPoint.{from_number}
use Rattle.interval.proofs.RustChain.{neg_eq}
use Rattle.interval.proofs.Legality.{legal_bounds_lem}

-- ---- [-inf, b]: b is the least finite number exactly where it is its own cut point
unequal : (s t : Bool) (a b : ℕ) → (a ≡ b → ⊥) → level s a t b ≡ false
unequal s t a b h = ap (λ (z : Bool). z && (beq s t || eqb a 0)) (ne_eqb a b h)

unlike_signs : (a b : ℕ) → (a ≡ 0 → ⊥) → level false a true b ≡ false
unlike_signs a b h = ap (λ (z : Bool). eqb a b && z) (ne_eqb a 0 h) ∙ and-false (eqb a b)

is_level : (s : Bool) (m : ℕ) (e : ℤ) (p : Placed binary64 s (fin s m e)) (c : Float) (t : Bool) (y : ℕ) → HasValue c t y (2 ^ 1074) → eq (fin s m e) c ≡ level s (p.m * 2 ^ p.j) t y
is_level s m e p c t y v = eq_at (fin s m e) c s (p.m * 2 ^ p.j) t y (2 ^ 1074) (pow_pos 1074) p.value v

grows : (X : ℕ) → 0 < X → X ≡ X * 2 → ⊥
grows X h e = omega arith

not_most : (X L : ℕ) → 0 < X → X * 2 ≤ L → X ≡ L → ⊥
not_most X L h k e = omega arith

positive : (X : ℕ) → 0 < X → X ≡ 0 → ⊥
positive X h e = omega arith

up_under : (m : ℕ) (e : ℤ) (p : Placed binary64 true (fin true m e)) → 0 < p.m * 2 ^ p.j → eq (fin true m e) (largest_finite true) ≡ eq (fin true m e) (cut_up_to (signed true (p.m * 2 ^ p.j)))
up_under m e p h = go (ltb largest_units (Y * 2)) (nltb→le largest_units (Y * 2)) ∙ sym (ap (eq (fin true m e)) (cut_units (p.m * 2 ^ p.j) h))
  where
    Y : ℕ
    Y = p.m * 2 ^ p.j

    go : (t : Bool) → (T (not t) → Y * 2 ≤ largest_units) → eq (fin true m e) (largest_finite true) ≡ eq (fin true m e) (cond t (largest_finite true) (round binary64 true (Y * 2) (2 ^ 1074)))
    go true k = refl
    go false k =
        is_level true m e p (largest_finite true) true largest_units (refl, refl) ∙ unequal true true Y largest_units (not_most Y largest_units h (k tt))
        ∙ sym (is_level true m e p (round binary64 true (Y * 2) (2 ^ 1074)) true (Y * 2) (double_value m e p (k tt)) ∙ unequal true true Y (Y * 2) (grows Y h))

up_over : (m : ℕ) (e : ℤ) (p : Placed binary64 false (fin false m e)) → 0 < p.m * 2 ^ p.j → eq (fin false m e) (largest_finite true) ≡ eq (fin false m e) (cut_up_to (pos (p.m * 2 ^ p.j)))
up_over m e p h =
    let Y = p.m * 2 ^ p.j in
    is_level false m e p (largest_finite true) true largest_units (refl, refl) ∙ unlike_signs Y largest_units (positive Y h)
    ∙ sym (ap (eq (fin false m e)) (up_above Y h) ∙ is_level false m e p (fin false 0 (pos 0)) false 0 (refl, refl) ∙ unequal false false Y 0 (positive Y h))

none_large : 0 ≡ largest_units → ⊥
none_large e = lt_irrefl 0 (subst (λ (z : ℕ). 0 < z) (sym e) (lit< tt))

none_one : 0 ≡ 2 ^ 1074 → ⊥
none_one e = lt_irrefl 0 (subst (λ (z : ℕ). 0 < z) (sym e) (lit< tt))

up_at : (s : Bool) (m : ℕ) (e : ℤ) (p : Placed binary64 s (fin s m e)) → p.m * 2 ^ p.j ≡ 0 → eq (fin s m e) (largest_finite true) ≡ eq (fin s m e) (cut_up_to (signed s (p.m * 2 ^ p.j)))
up_at s m e p z =
    is_level s m e p (largest_finite true) true largest_units (refl, refl) ∙ ap (λ (y : ℕ). level s y true largest_units) z ∙ unequal s true 0 largest_units none_large
    ∙ sym (ap (λ (y : ℤ). eq (fin s m e) (cut_up_to y)) (ap (signed s) z ∙ signed_zero s) ∙ is_level s m e p (fin true 1 (pos 0)) true (2 ^ 1074) (refl, refl) ∙ ap (λ (y : ℕ). level s y true (2 ^ 1074)) z ∙ unequal s true 0 (2 ^ 1074) none_one)

pub up_equal : (b : Float) → T (fits binary64 b) → T (finite b) → eq b (largest_finite true) ≡ eq b (cut_up_to (in_units b))
up_equal nan f g = absurd g
up_equal (inf s) f g = absurd g
up_equal (fin s m e) f g = go s (placed binary64 s m e f)
  where
    some : (s : Bool) (p : Placed binary64 s (fin s m e)) → 0 < p.m * 2 ^ p.j → eq (fin s m e) (largest_finite true) ≡ eq (fin s m e) (cut_up_to (signed s (p.m * 2 ^ p.j)))
    some true p h = up_under m e p h
    some false p h = up_over m e p h

    go : (s : Bool) (p : Placed binary64 s (fin s m e)) → eq (fin s m e) (largest_finite true) ≡ eq (fin s m e) (cut_up_to (in_units (fin s m e)))
    go s p = ⊎_elim (up_at s m e p) (some s p) (eq-zero-or-pos (p.m * 2 ^ p.j)) ∙ ap (λ (z : ℤ). eq (fin s m e) (cut_up_to z)) (sym (units_of s m e (p.m * 2 ^ p.j) p.value))

-- [a, +inf] mirrors it
from_equal : (a : Float) → T (fits binary64 a) → T (finite a) → eq a (largest_finite false) ≡ eq a (plus_zero (neg (cut_up_to (neg_ℤ (in_units a)))))
from_equal a f g =
    sym (neg_eq a (largest_finite false)) ∙ ap (eq (neg a)) least ∙ up_equal (neg a) (neg-fits binary64 a f) (neg_finite a g)
    ∙ ap (λ (z : ℤ). eq (neg a) (cut_up_to z)) (units_neg a)
    ∙ ap (eq (neg a)) (sym (neg_neg (cut_up_to (neg_ℤ (in_units a))))) ∙ neg_eq a (neg (cut_up_to (neg_ℤ (in_units a))))
    ∙ sym (as_eq_right false a (neg (cut_up_to (neg_ℤ (in_units a)))))
  where
    least : neg (largest_finite false) ≡ largest_finite true
    least = unfold neg in refl

-- ---- every legal interval
least_near : (integer : Bool) → whole_if integer (largest_finite true) ≡ largest_finite true
least_near true = unfold whole_near in_units half_away rounded zero_as round in refl
least_near false = refl

most_near : (integer : Bool) → whole_if integer (largest_finite false) ≡ largest_finite false
most_near true = unfold whole_near in_units half_away rounded zero_as round in refl
most_near false = refl

nought_near : (integer : Bool) → whole_if integer (fin false 0 (pos 0)) ≡ fin false 0 (pos 0)
nought_near true = unfold whole_near in_units half_away rounded zero_as round in refl
nought_near false = refl

inf_unlike : (t : Bool) (c : Float) → T (finite c) → ne (inf t) c ≡ true
unfolding ne
inf_unlike t nan g = absurd g
inf_unlike t (inf s) g = absurd g
inf_unlike t (fin s m e) g = refl

unlike_by : (x c d : Float) → eq x c ≡ eq x d → ne x c ≡ ne x d
unfolding ne
unlike_by x c d e = ap not e

-- the two tests by a point, where one bound is infinite and the point is not
low_free : (t : Bool) (b c d : Float) → T (finite c) → T (finite d) → eq b c ≡ eq b d → ne (inf t) c && ne b c ≡ ne (inf t) d && ne b d
low_free t b c d g h e = ap (λ (z : Bool). z && ne b c) (inf_unlike t c g) ∙ unlike_by b c d e ∙ sym (ap (λ (z : Bool). z && ne b d) (inf_unlike t d h))

high_free : (t : Bool) (a c d : Float) → T (finite c) → T (finite d) → eq a c ≡ eq a d → ne a c && ne (inf t) c ≡ ne a d && ne (inf t) d
high_free t a c d g h e = ap (λ (z : Bool). ne a c && z) (inf_unlike t c g) ∙ ap (λ (z : Bool). z && true) (unlike_by a c d e) ∙ sym (ap (λ (z : Bool). ne a d && z) (inf_unlike t d h))

ends_split : (a b : Float) (integer : Bool) → T (fits binary64 a) → T (fits binary64 b) → legal_bounds a b ≡ true
    → ne a (whole_if integer (middle_at (kind_of a b))) && ne b (whole_if integer (middle_at (kind_of a b))) ≡ ne a (cut_point_at (kind_of a b) integer) && ne b (cut_point_at (kind_of a b) integer)
unfolding le lt kind_of cut_point_at middle_at
ends_split nan b integer f g h = absurd (false≢true h)
ends_split (inf false) nan integer f g h = absurd (false≢true h)
ends_split (inf false) (inf true) integer f g h = absurd (false≢true h)
ends_split (inf false) (inf false) integer f g h = absurd (false≢true h)
ends_split (inf false) (fin t n d) integer f g h = absurd (false≢true h)
ends_split (inf true) nan integer f g h = absurd (false≢true h)
ends_split (inf true) (inf true) integer f g h = absurd (false≢true h)
ends_split (inf true) (inf false) integer f g h = ap (λ (z : Float). ne (inf true) z && ne (inf false) z) (nought_near integer)
ends_split (inf true) (fin t n d) integer f g h =
    let b = fin t n d in
    ap (λ (z : Float). ne (inf true) z && ne b z) (least_near integer)
    ∙ low_free true b (largest_finite true) (cut_up_to (in_units b)) tt (up_to_good b g tt).number (up_equal b g tt)
ends_split (fin s m e) nan integer f g h = absurd (false≢true h)
ends_split (fin s m e) (inf true) integer f g h = absurd (false≢true h)
ends_split (fin s m e) (inf false) integer f g h =
    let a = fin s m e in
    ap (λ (z : Float). ne a z && ne (inf false) z) (most_near integer)
    ∙ high_free false a (largest_finite false) (plus_zero (neg (cut_up_to (neg_ℤ (in_units a))))) tt (from_number a f tt) (from_equal a f tt)
ends_split (fin s m e) (fin t n d) integer f g h = refl

pub split_by_cut : (x : Interval) (integer : Bool) → InFormat x → legal_interval x integer ≡ true → subdivisible x integer ≡ ne x.lower (cut_point_of x integer) && ne x.upper (cut_point_of x integer)
unfolding subdivisible
split_by_cut x integer f h = ends_split x.lower x.upper integer f.0 f.1 (legal_bounds_lem x integer h)
