-- The order of the integers, with sums, as the proofs on units need it; and `le` of two numbers as the order of their units
-- (`le_units`). Assumes nothing.
use Rattle.std.proofs.Common.{◌≡◌, ℕ, zero, suc, ◌+◌, ◌-◌, ◌*◌, ◌^◌, ◌<◌, ◌≤◌, Bool, true, false, cond, not, ◌&&◌, ◌||◌, T, eqb, ltb, leb, ℤ, pos, negsuc, ◌+ℤ◌, neg_ℤ, sym, refl, ap, ◌∙◌, subst, le_of_lt, arith, le→leb, eqb→eq, ltb→lt, lt→ltb, leb→le, pow_pos}
use lib.IntN.{sub_ℕ, +ℤ_assoc}
use lib.Signed.{le_z}
use lib.Dec.{not_T}
use lib.Ieee.{Float, nan, inf, fin, binary64, below, level, le, fits}
use lib.Ieee.Fits.{eq→eqb, and_l, and_r, and_i}
use lib.Ieee.Bits.{is_true, is_false, cond_no}
use lib.Ieee.Scale.{finite}
use Rattle.base.proofs.Test.{same_tests, either_of, of_left, of_right}
use Rattle.interval.proofs.Naturals.{at_most_zero}
use Rattle.interval.specs.Bounds.{signed, in_units}
use Rattle.interval.proofs.Value.{placed}
use Rattle.interval.proofs.HalfSum.{units_of}
use Rattle.interval.proofs.Compare.{le_at}

-- ---- w is z and some more
cond_yes : {X : Type 0} (b : Bool) (x y : X) → T b → cond b x y ≡ x
cond_yes true x y t = refl
cond_yes false x y t = absurd t

pub sub_ge : (a b : ℕ) → b ≤ a → sub_ℕ a b ≡ pos (a - b)
sub_ge a b h = cond_no (ltb a b) (negsuc (b - suc a)) (pos (a - b)) (not_T (ltb a b) (λ (t : T (ltb a b)). bad (ltb→lt a b t)))
  where
    bad : a < b → ⊥
    bad k = omega arith

sub_lt : (a b : ℕ) → a < b → sub_ℕ a b ≡ negsuc (b - suc a)
sub_lt a b h = cond_yes (ltb a b) (negsuc (b - suc a)) (pos (a - b)) (lt→ltb a b h)

pub gap : (z w : ℤ) → T (le_z z w) → (n : ℕ) × (w ≡ z +ℤ pos n)
gap (pos a) (pos b) h = (b - a, ap pos (fill a b (leb→le a b h)))
  where
    fill : (a b : ℕ) → a ≤ b → b ≡ a + (b - a)
    fill a b h = omega arith
gap (pos a) (negsuc b) h = absurd h
gap (negsuc a) (pos b) h = (b + suc a, sym (sub_ge (b + suc a) (suc a) (wide a b) ∙ ap pos (off a b)))
  where
    wide : (a b : ℕ) → suc a ≤ b + suc a
    wide a b = omega arith

    off : (a b : ℕ) → b + suc a - suc a ≡ b
    off a b = omega arith
gap (negsuc a) (negsuc b) h = (a - b, sym (sub_lt (a - b) (suc a) (under a b) ∙ ap negsuc (off a b (leb→le b a h))))
  where
    under : (a b : ℕ) → a - b < suc a
    under a b = omega arith

    off : (a b : ℕ) → b ≤ a → suc a - suc (a - b) ≡ b
    off a b h = omega arith

pub plus_le : (z : ℤ) (n : ℕ) → T (le_z z (z +ℤ pos n))
plus_le (pos a) n = le→leb a (a + n) (omega arith)
plus_le (negsuc a) n = go (ltb n (suc a))
  where
    go : (b : Bool) → T (le_z (negsuc a) (cond b (negsuc (suc a - suc n)) (pos (n - suc a))))
    go true = le→leb (suc a - suc n) a (omega arith)
    go false = tt

pub add_le_z : (v z w : ℤ) → T (le_z z w) → T (le_z (v +ℤ z) (v +ℤ w))
add_le_z v z w h =
    let g = gap z w h in
    subst (λ (y : ℤ). T (le_z (v +ℤ z) y)) (+ℤ_assoc v z (pos g.0) ∙ ap (λ (y : ℤ). v +ℤ y) (sym g.1)) (plus_le (v +ℤ z) g.0)

pub neg_order : (m n : ℕ) → T (le_z (neg_ℤ (pos m)) (neg_ℤ (pos n))) → n ≤ m
neg_order m zero h = omega arith
neg_order zero (suc n) h = absurd h
neg_order (suc m) (suc n) h = up (leb→le n m h)
  where
    up : n ≤ m → suc n ≤ suc m
    up h = omega arith

-- ---- `le` as the order of units
le_split : (a b : ℕ) → a ≤ b → T (ltb a b || (eqb a b && true))
le_split a b h = go (ltb a b) (λ (t : T (not (ltb a b))). last t)
  where
    last : T (not (ltb a b)) → T (eqb a b)
    last t = eq→eqb (same (nltb a b t))
      where
        nltb : (a b : ℕ) → T (not (ltb a b)) → b ≤ a
        nltb = lib.Dec.nltb→le

        same : b ≤ a → a ≡ b
        same k = omega arith

    go : (x : Bool) → (T (not x) → T (eqb a b)) → T (x || (eqb a b && true))
    go true f = tt
    go false f = and_i (eqb a b) true (f tt) tt

eq_le : (a b : ℕ) → a ≡ b → a ≤ b
eq_le a b h = omega arith

not_suc : (a : ℕ) (b : ℕ) → a ≡ suc b → a ≡ 0 → ⊥
not_suc a b h k = omega arith

pub le_is : (s : Bool) (a : ℕ) (t : Bool) (b : ℕ) → below s a t b || level s a t b ≡ le_z (signed s a) (signed t b)
le_is false a false b = same_tests (ltb a b || (eqb a b && true)) (leb a b) (either_of (ltb a b) (eqb a b && true) (λ t. le→leb a b (le_of_lt (ltb→lt a b t))) (λ t. le→leb a b (eq_le a b (eqb→eq a b (and_l (eqb a b) true t))))) (λ t. le_split a b (leb→le a b t))
le_is false a true zero = same_tests (eqb a 0 && eqb a 0) (leb a 0) (λ t. le→leb a 0 (eq_le a 0 (eqb→eq a 0 (and_l (eqb a 0) (eqb a 0) t)))) (λ t. let e : T (eqb a 0) = eq→eqb (at_most_zero a (leb→le a 0 t)) in and_i (eqb a 0) (eqb a 0) e e)
le_is false a true (suc b) = is_false (eqb a (suc b) && eqb a 0) (not_T (eqb a (suc b) && eqb a 0) (λ t. not_suc a b (eqb→eq a (suc b) (and_l (eqb a (suc b)) (eqb a 0) t)) (eqb→eq a 0 (and_r (eqb a (suc b)) (eqb a 0) t))))
le_is true zero false b = same_tests (ltb 0 (0 + b) || (eqb 0 b && eqb 0 0)) (leb 0 b) (λ t. le→leb 0 b (omega arith)) (λ t. subst (λ (z : ℕ). T (ltb 0 z || (eqb 0 b && eqb 0 0))) (sym (plain b)) (le_split 0 b (omega arith)))
  where
    plain : (b : ℕ) → 0 + b ≡ b
    plain b = omega arith
le_is true (suc a) false b = is_true (ltb 0 (suc a + b) || (eqb (suc a) b && eqb (suc a) 0)) (of_left (ltb 0 (suc a + b)) (eqb (suc a) b && eqb (suc a) 0) (lt→ltb 0 (suc a + b) (omega arith)))
le_is true zero true zero = refl
le_is true zero true (suc b) = is_false (ltb (suc b) 0 || (eqb 0 (suc b) && true)) (not_T (ltb (suc b) 0 || (eqb 0 (suc b) && true)) (either_of (ltb (suc b) 0) (eqb 0 (suc b) && true) (λ t. no_lt (ltb→lt (suc b) 0 t)) (λ t. no_eq (eqb→eq 0 (suc b) (and_l (eqb 0 (suc b)) true t)))))
  where
    no_lt : suc b < 0 → ⊥
    no_lt h = omega arith

    no_eq : 0 ≡ suc b → ⊥
    no_eq h = omega arith
le_is true (suc a) true zero = is_true (ltb 0 (suc a) || (eqb (suc a) 0 && true)) (of_left (ltb 0 (suc a)) (eqb (suc a) 0 && true) (lt→ltb 0 (suc a) (omega arith)))
le_is true (suc a) true (suc b) = same_tests (ltb (suc b) (suc a) || (eqb (suc a) (suc b) && true)) (leb b a) (either_of (ltb (suc b) (suc a)) (eqb (suc a) (suc b) && true) (λ t. le→leb b a (less (ltb→lt (suc b) (suc a) t))) (λ t. le→leb b a (same (eqb→eq (suc a) (suc b) (and_l (eqb (suc a) (suc b)) true t))))) (λ t. more (leb→le b a t))
  where
    less : suc b < suc a → b ≤ a
    less h = omega arith

    same : suc a ≡ suc b → b ≤ a
    same h = omega arith

    more : b ≤ a → T (ltb (suc b) (suc a) || (eqb (suc a) (suc b) && true))
    more h = either_of (ltb (suc b) (suc a)) (eqb (suc b) (suc a) && true) (λ t. of_left (ltb (suc b) (suc a)) (eqb (suc a) (suc b) && true) t) (λ t. of_right (ltb (suc b) (suc a)) (eqb (suc a) (suc b) && true) (and_i (eqb (suc a) (suc b)) true (eq→eqb (sym (eqb→eq (suc b) (suc a) (and_l (eqb (suc b) (suc a)) true t)))) tt)) (le_split (suc b) (suc a) (up h))
      where
        up : b ≤ a → suc b ≤ suc a
        up h = omega arith

-- x ≤ y exactly where the number of units of x is at most that of y
pub le_units : (x y : Float) → T (fits binary64 x) → T (fits binary64 y) → T (finite x) → T (finite y) → le x y ≡ le_z (in_units x) (in_units y)
le_units nan y p q f g = absurd f
le_units (inf s) y p q f g = absurd f
le_units (fin s m e) nan p q f g = absurd g
le_units (fin s m e) (inf t) p q f g = absurd g
le_units (fin s m e) (fin t n d) p q f g =
    let u = placed binary64 s m e p in
    let v = placed binary64 t n d q in
    let a = u.m * 2 ^ u.j in
    let b = v.m * 2 ^ v.j in
    le_at (fin s m e) (fin t n d) s a t b (2 ^ 1074) (pow_pos 1074) u.value v.value
    ∙ le_is s a t b
    ∙ ap (λ (z : ℤ). le_z z (signed t b)) (sym (units_of s m e a u.value))
    ∙ ap (λ (z : ℤ). le_z (in_units (fin s m e)) z) (sym (units_of t n d b v.value))
