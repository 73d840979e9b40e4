-- Intervals with the same bounds: kept by putting (`same_put`), and equality for put ones (`same_is`), since two floats with the same zeros that
-- compare equal are one. Assumes nothing.
use Rattle.std.proofs.Common.{◌≡◌, ℕ, zero, suc, ◌*◌, ◌<◌, Bool, true, false, ◌&&◌, ◌||◌, T, eqb, ◌⊎◌, ℤ, sym, refl, ap, ◌∙◌, subst, inl, inr, ⊎_elim, lt_irrefl, zero-lt-suc, mul-pos, eqb→eq}
use mathlib.Core.Bool.{beq, false≢true}
use lib.Dec.{eqb_refl}
use lib.Ieee.{Float, nan, inf, fin, binary64, up, down, level, eq, le, fits}
use lib.Ieee.Fits.{up_pos, down_pos, eq→eqb}
use lib.Ieee.Bits.{is_true}
use Rattle.base.proofs.Test.{≡→T, and_left, and_right, and_both, or_parts, beq_true, beq_self, both_ways}
use Rattle.interval.specs.declared.Interval.{Interval}
use Rattle.interval.specs.Bounds.{zero_as, InFormat, put_interval, same_interval}
use Rattle.interval.proofs.Value.{value_unique}
use Rattle.interval.proofs.Zeros.{as_eq_left, as_eq_right}

none : (m : ℕ) (e : ℤ) (d : ℕ) → 0 < d → suc m * up e * d ≡ 0 → ⊥
none m e d h k = lt_irrefl 0 (subst (λ (z : ℕ). 0 < z) k (mul-pos (mul-pos (zero-lt-suc m) (up_pos e)) h))

-- ---- one float
-- of two numbers, the products that are compared
level_same : (t : Bool) (r : Bool) (m : ℕ) (e : ℤ) (s : Bool) (n : ℕ) (d : ℤ) → T (fits binary64 (fin r m e)) → T (fits binary64 (fin s n d)) → zero_as t (fin r m e) ≡ fin r m e → zero_as t (fin s n d) ≡ fin s n d
    → m * up e * down d ≡ n * up d * down e → (r ≡ s) ⊎ (m * up e * down d ≡ 0) → fin r m e ≡ fin s n d
unfolding zero_as
level_same t r m e s n d f g p q h (inl k) =
    value_unique binary64 (fin r m e) (fin s n d) r (m * up e) (down e) (down_pos e) f g (refl, refl) (sym k, sym h)
level_same t r zero e s zero d f g p q h (inr k) = sym p ∙ q
level_same t r zero e s (suc n) d f g p q h (inr k) = absurd (none n d (down e) (down_pos e) (sym h ∙ k))
level_same t r (suc m) e s n d f g p q h (inr k) = absurd (none m e (down d) (down_pos d) k)

-- a zero of either has the sign t
pub same_float : (t : Bool) (x y : Float) → T (fits binary64 x) → T (fits binary64 y) → zero_as t x ≡ x → zero_as t y ≡ y → eq x y ≡ true → x ≡ y
unfolding eq
same_float t nan y f g p q h = absurd (false≢true h)
same_float t (inf r) nan f g p q h = absurd (false≢true h)
same_float t (inf r) (inf s) f g p q h = ap inf (beq_true r s h)
same_float t (inf r) (fin s n d) f g p q h = absurd (false≢true h)
same_float t (fin r m e) nan f g p q h = absurd (false≢true h)
same_float t (fin r m e) (inf s) f g p q h = absurd (false≢true h)
same_float t (fin r m e) (fin s n d) f g p q h =
    let A = m * up e * down d in
    let B = n * up d * down e in
    let k : A ≡ B = eqb→eq A B (≡→T (and_left (eqb A B) (beq r s || eqb A 0) h)) in
    level_same t r m e s n d f g p q k
    (⊎_elim (λ (z : beq r s ≡ true). inl (beq_true r s z)) (λ (z : eqb A 0 ≡ true). inr (eqb→eq A 0 (≡→T z))) (or_parts (beq r s) (eqb A 0) (and_right (eqb A B) (beq r s || eqb A 0) h)))

level_self : (s : Bool) (a : ℕ) → level s a s a ≡ true
level_self true a = and_both (eqb a a) true (is_true (eqb a a) (eqb_refl a)) refl
level_self false a = and_both (eqb a a) true (is_true (eqb a a) (eqb_refl a)) refl

-- what is comparable at all equals itself
pub eq_self_low : (x y : Float) → le x y ≡ true → eq x x ≡ true
unfolding le eq
eq_self_low nan y h = absurd (false≢true h)
eq_self_low (inf s) y h = beq_self s
eq_self_low (fin s m e) y h = level_self s (m * up e * down e)

pub eq_self_high : (x y : Float) → le x y ≡ true → eq y y ≡ true
unfolding le eq
eq_self_high x (inf s) h = beq_self s
eq_self_high x (fin s m e) h = level_self s (m * up e * down e)
eq_self_high nan nan h = absurd (false≢true h)
eq_self_high (inf s) nan h = absurd (false≢true h)
eq_self_high (fin s m e) nan h = absurd (false≢true h)

-- either way round
eqb_swap : (a b : ℕ) → eqb a b ≡ true → eqb b a ≡ true
eqb_swap a b h = is_true (eqb b a) (eq→eqb (sym (eqb→eq a b (subst T (sym h) tt))))

level_swap : (s : Bool) (a : ℕ) (t : Bool) (b : ℕ) → level s a t b ≡ true → level t b s a ≡ true
level_swap s a t b h =
    let f : eqb a b ≡ true = and_left (eqb a b) (beq s t || eqb a 0) h in
    let e : a ≡ b = eqb→eq a b (≡→T f) in
    ap (λ (z : Bool). z && (beq t s || eqb b 0)) (eqb_swap a b f) ∙ sides s t (eqb b 0) (subst (λ (z : ℕ). beq s t || eqb z 0 ≡ true) e (and_right (eqb a b) (beq s t || eqb a 0) h))
  where
    sides : (s t x : Bool) → beq s t || x ≡ true → beq t s || x ≡ true
    sides true true x h = refl
    sides true false x h = h
    sides false true x h = h
    sides false false x h = refl

pub eq_sym : (x y : Float) → eq x y ≡ true → eq y x ≡ true
unfolding eq
eq_sym nan y h = absurd (false≢true h)
eq_sym (inf s) nan h = absurd (false≢true h)
eq_sym (inf true) (inf true) h = refl
eq_sym (inf true) (inf false) h = absurd (false≢true h)
eq_sym (inf false) (inf true) h = absurd (false≢true h)
eq_sym (inf false) (inf false) h = refl
eq_sym (inf s) (fin t n d) h = absurd (false≢true h)
eq_sym (fin s m e) nan h = absurd (false≢true h)
eq_sym (fin s m e) (inf t) h = absurd (false≢true h)
eq_sym (fin s m e) (fin t n d) h = level_swap s (m * up e * down d) t (n * up d * down e) h

pub eq_swap : (x y : Float) → eq x y ≡ eq y x
eq_swap x y = both_ways (eq x y) (eq y x) (eq_sym x y) (eq_sym y x)

-- ---- two intervals
pub same_put : (x y : Interval) → same_interval (put_interval x) (put_interval y) ≡ same_interval x y
unfolding same_interval put_interval
same_put x y =
    ap (λ (z : Bool). z && eq (put_interval x).upper (put_interval y).upper) (as_eq_left true x.lower (put_interval y).lower ∙ as_eq_right true x.lower y.lower)
    ∙ ap (λ (z : Bool). eq x.lower y.lower && z) (as_eq_left false x.upper (put_interval y).upper ∙ as_eq_right false x.upper y.upper)

-- put intervals that are the same are equal
pub same_is : (x y : Interval) → InFormat x → InFormat y → put_interval x ≡ x → put_interval y ≡ y → same_interval x y ≡ true → x ≡ y
unfolding same_interval put_interval
same_is x y f g p q h =
    let low : x.lower ≡ y.lower = same_float true x.lower y.lower f.0 g.0 (ap (λ (z : Interval). z.lower) p) (ap (λ (z : Interval). z.lower) q) (and_left (eq x.lower y.lower) (eq x.upper y.upper) h) in
    let high : x.upper ≡ y.upper = same_float false x.upper y.upper f.1 g.1 (ap (λ (z : Interval). z.upper) p) (ap (λ (z : Interval). z.upper) q) (and_right (eq x.lower y.lower) (eq x.upper y.upper) h) in
    λ i. record { lower = low i; upper = high i }
