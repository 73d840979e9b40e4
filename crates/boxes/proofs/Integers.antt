-- Whole numbers, and their products with natural ones: the laws that fractions need and lib.IntN has not (products there have neither associativity nor
-- distributivity). Assumes nothing.
use mathlib.Core.Path.{◌≡◌, refl, sym, ap, ◌∙◌, subst}
use mathlib.Core.Logic.{◌⊎◌, inl, inr}
use mathlib.Core.Bool.{false, true≢false}
use Prim.Native.Nat.{ℕ, zero, suc, ◌*◌, ◌≤◌, ◌<◌}
use native.Mathlib.Nat.{mul_assoc, mul_comm, zero-mul, mul-pos, mul-le-mul_right, le_of_mul-le-mul_right, zero-lt-suc, le_refl, le_of_lt, not-le_of_lt}
use native.Mathlib.Omega.{arith}
use lib.IntN.{ℤ, pos, negsuc, neg_ℤ, ◌+ℤ◌, ◌*ℤ◌, neg_ℤ-neg_ℤ, *ℤ_comm, *ℤ-negsuc, *ℤ-zero, suc_ℤ-*ℤ, +ℤ_assoc, +ℤ_comm, neg_ℤ-+ℤ}
use lib.Signed.{le_z, lt_z}
use lib.Dec.{T, leb, leb→le, le→leb, ltb→lt, lt→ltb}
use borrow.Author.Tests.{leb-false, ltb-false}
use Rattle.base.proofs.Test.{cases, ≡→T}
use Rattle.interval.proofs.UnitsOrder.{add_le_z, neg_order}
use Rattle.interval.proofs.WholeOrder.{le_z_trans, neg_le_z, cross_le_z}

-- ---- the product with a natural number
neg_times : (x b : ℕ) → neg_ℤ (pos x) *ℤ pos b ≡ neg_ℤ (pos (x * b))
neg_times zero b = ap pos (zero-mul b) ∙ sym (ap (λ (z : ℕ). neg_ℤ (pos z)) (zero-mul b))
neg_times (suc x) b = refl

pub times_times : (z : ℤ) (a b : ℕ) → z *ℤ pos a *ℤ pos b ≡ z *ℤ pos (a * b)
times_times (pos m) a b = ap pos (mul_assoc m a b)
times_times (negsuc m) a b = neg_times (suc m * a) b ∙ ap (λ (z : ℕ). neg_ℤ (pos z)) (mul_assoc (suc m) a b)

-- the same, by another way to the same number
pub times_as : (z : ℤ) (a b c d : ℕ) → a * b ≡ c * d → z *ℤ pos a *ℤ pos b ≡ z *ℤ pos c *ℤ pos d
times_as z a b c d e = times_times z a b ∙ ap (λ (n : ℕ). z *ℤ pos n) e ∙ sym (times_times z c d)

pub times_neg : (z : ℤ) (a : ℕ) → neg_ℤ z *ℤ pos a ≡ neg_ℤ (z *ℤ pos a)
times_neg (pos m) a = neg_times m a
times_neg (negsuc m) a = sym (neg_ℤ-neg_ℤ (pos (suc m * a)))

times_suc : (z : ℤ) (a : ℕ) → z *ℤ pos (suc a) ≡ z *ℤ pos a +ℤ z
times_suc z a = *ℤ_comm z (pos (suc a)) ∙ suc_ℤ-*ℤ (pos a) z ∙ ap (λ (y : ℤ). y +ℤ z) (*ℤ_comm (pos a) z)

shuffle : (a b c d : ℤ) → a +ℤ b +ℤ (c +ℤ d) ≡ a +ℤ c +ℤ (b +ℤ d)
shuffle a b c d =
    +ℤ_assoc a b (c +ℤ d)
    ∙ ap (λ (y : ℤ). a +ℤ y) (sym (+ℤ_assoc b c d) ∙ ap (λ (y : ℤ). y +ℤ d) (+ℤ_comm b c) ∙ +ℤ_assoc c b d)
    ∙ sym (+ℤ_assoc a c (b +ℤ d))

pub times_sum : (z w : ℤ) (a : ℕ) → (z +ℤ w) *ℤ pos a ≡ z *ℤ pos a +ℤ w *ℤ pos a
times_sum z w zero = *ℤ-zero (z +ℤ w) ∙ sym (ap (λ (y : ℤ). y +ℤ w *ℤ pos 0) (*ℤ-zero z) ∙ ap (λ (y : ℤ). pos 0 +ℤ y) (*ℤ-zero w))
times_sum z w (suc a) =
    times_suc (z +ℤ w) a
    ∙ ap (λ (y : ℤ). y +ℤ (z +ℤ w)) (times_sum z w a)
    ∙ shuffle (z *ℤ pos a) (w *ℤ pos a) z w
    ∙ ap (λ (y : ℤ). y +ℤ (w *ℤ pos a +ℤ w)) (sym (times_suc z a))
    ∙ ap (λ (y : ℤ). z *ℤ pos (suc a) +ℤ y) (sym (times_suc w a))

-- ---- the order
pub le_z_refl : (z : ℤ) → T (le_z z z)
le_z_refl (pos a) = le→leb a a (le_refl a)
le_z_refl (negsuc a) = le→leb a a (le_refl a)

pub le_z_of_eq : {z w : ℤ} → z ≡ w → T (le_z z w)
le_z_of_eq {z} e = subst (λ (y : ℤ). T (le_z z y)) e (le_z_refl z)

-- between equals
pub le_z_as : {z z' w w' : ℤ} → z ≡ z' → w ≡ w' → T (le_z z w) → T (le_z z' w')
le_z_as {z} {z'} {w} {w'} e f h = subst (λ (y : ℤ). T (le_z z' y)) f (subst (λ (y : ℤ). T (le_z y w)) e h)

pub times_mono : (z w : ℤ) (a : ℕ) → T (le_z z w) → T (le_z (z *ℤ pos a) (w *ℤ pos a))
times_mono (pos m) (pos n) a h = le→leb (m * a) (n * a) (mul-le-mul_right a (leb→le m n h))
times_mono (pos m) (negsuc n) a h = absurd h
times_mono (negsuc m) (pos n) a h = cross_le_z (suc m * a) (n * a)
times_mono (negsuc m) (negsuc n) a h = neg_le_z (suc m * a) (suc n * a) (mul-le-mul_right a (up (leb→le n m h)))
  where
    up : n ≤ m → suc n ≤ suc m
    up h = omega arith

pub no_cross : (m n : ℕ) → 0 < n → T (le_z (pos m) (neg_ℤ (pos n))) → ⊥
no_cross m zero h k = absurd (bad h)
  where
    bad : 0 < 0 → ⊥
    bad h = omega arith
no_cross m (suc n) h k = k

pub times_cancel : (z w : ℤ) (a : ℕ) → 0 < a → T (le_z (z *ℤ pos a) (w *ℤ pos a)) → T (le_z z w)
times_cancel (pos m) (pos n) a A h = le→leb m n (le_of_mul-le-mul_right (leb→le (m * a) (n * a) h) A)
times_cancel (pos m) (negsuc n) a A h = absurd (no_cross (m * a) (suc n * a) (mul-pos (zero-lt-suc n) A) h)
times_cancel (negsuc m) (pos n) a A h = tt
times_cancel (negsuc m) (negsuc n) a A h = le→leb n m (down (le_of_mul-le-mul_right (neg_order (suc m * a) (suc n * a) h) A))
  where
    down : suc n ≤ suc m → n ≤ m
    down h = omega arith

pub neg_mono : (z w : ℤ) → T (le_z z w) → T (le_z (neg_ℤ w) (neg_ℤ z))
neg_mono (pos a) (pos b) h = neg_le_z b a (leb→le a b h)
neg_mono (pos a) (negsuc b) h = absurd h
neg_mono (negsuc a) (pos b) h = cross_le_z b (suc a)
neg_mono (negsuc a) (negsuc b) h = le→leb (suc b) (suc a) (up (leb→le b a h))
  where
    up : b ≤ a → suc b ≤ suc a
    up h = omega arith

pub sum_mono : (z w u v : ℤ) → T (le_z z u) → T (le_z w v) → T (le_z (z +ℤ w) (u +ℤ v))
sum_mono z w u v h k = le_z_trans (z +ℤ w) (z +ℤ v) (u +ℤ v) (add_le_z z w v k) (le_z_as (+ℤ_comm v z) (+ℤ_comm v u) (add_le_z v z u h))

-- one of two is at most the other
pub le_z_total : (z w : ℤ) → T (le_z z w) ⊎ T (le_z w z)
le_z_total z w = cases (le_z z w) (λ e. inl (≡→T e)) (λ e. inr (turned z w e))
  where
    less : (a b : ℕ) → leb a b ≡ false → T (leb b a)
    less a b e = le→leb b a (le_of_lt (leb-false a b e))

    turned : (z w : ℤ) → le_z z w ≡ false → T (le_z w z)
    turned (pos a) (pos b) e = less a b e
    turned (pos a) (negsuc b) e = tt
    turned (negsuc a) (pos b) e = absurd (true≢false e)
    turned (negsuc a) (negsuc b) e = less b a e

-- not below is at least; below is at most, and not at least
pub not_lt : (z w : ℤ) → lt_z z w ≡ false → T (le_z w z)
not_lt (pos a) (pos b) h = le→leb b a (ltb-false a b h)
not_lt (pos a) (negsuc b) h = tt
not_lt (negsuc a) (pos b) h = absurd (true≢false h)
not_lt (negsuc a) (negsuc b) h = le→leb a b (ltb-false b a h)

pub lt_le_z : (z w : ℤ) → T (lt_z z w) → T (le_z z w)
lt_le_z (pos a) (pos b) h = le→leb a b (le_of_lt (ltb→lt a b h))
lt_le_z (pos a) (negsuc b) h = absurd h
lt_le_z (negsuc a) (pos b) h = tt
lt_le_z (negsuc a) (negsuc b) h = le→leb b a (le_of_lt (ltb→lt b a h))

pub lt_not_le : (z w : ℤ) → T (lt_z z w) → T (le_z w z) → ⊥
lt_not_le (pos a) (pos b) h k = not-le_of_lt (ltb→lt a b h) (leb→le b a k)
lt_not_le (pos a) (negsuc b) h k = h
lt_not_le (negsuc a) (pos b) h k = k
lt_not_le (negsuc a) (negsuc b) h k = not-le_of_lt (ltb→lt b a h) (leb→le a b k)

-- strictly below what is at most
pub lt_le : (z w v : ℤ) → T (lt_z z w) → T (le_z w v) → T (lt_z z v)
lt_le (pos a) (pos b) (pos c) h k = lt→ltb a c (through (ltb→lt a b h) (leb→le b c k))
  where
    through : a < b → b ≤ c → a < c
    through h k = omega arith
lt_le (pos a) (pos b) (negsuc c) h k = absurd k
lt_le (pos a) (negsuc b) v h k = absurd h
lt_le (negsuc a) w (pos c) h k = tt
lt_le (negsuc a) (pos b) (negsuc c) h k = absurd k
lt_le (negsuc a) (negsuc b) (negsuc c) h k = lt→ltb c a (through (ltb→lt b a h) (leb→le c b k))
  where
    through : b < a → c ≤ b → c < a
    through h k = omega arith

pub le_lt : (z w v : ℤ) → T (le_z z w) → T (lt_z w v) → T (lt_z z v)
le_lt (pos a) (pos b) (pos c) h k = lt→ltb a c (through (leb→le a b h) (ltb→lt b c k))
  where
    through : a ≤ b → b < c → a < c
    through h k = omega arith
le_lt (pos a) (negsuc b) v h k = absurd h
le_lt (pos a) (pos b) (negsuc c) h k = absurd k
le_lt (negsuc a) w (pos c) h k = tt
le_lt (negsuc a) (pos b) (negsuc c) h k = absurd k
le_lt (negsuc a) (negsuc b) (negsuc c) h k = lt→ltb c a (through (leb→le b a h) (ltb→lt c b k))
  where
    through : b ≤ a → c < b → c < a
    through h k = omega arith

-- ---- the product of two integers
pub neg_product : (z w : ℤ) → neg_ℤ z *ℤ w ≡ neg_ℤ (z *ℤ w)
neg_product z (pos a) = times_neg z a
neg_product z (negsuc a) = *ℤ-negsuc (neg_ℤ z) a ∙ ap neg_ℤ (times_neg z (suc a)) ∙ sym (ap neg_ℤ (*ℤ-negsuc z a))

pub product_neg : (z w : ℤ) → z *ℤ neg_ℤ w ≡ neg_ℤ (z *ℤ w)
product_neg z w = *ℤ_comm z (neg_ℤ w) ∙ neg_product w z ∙ ap neg_ℤ (*ℤ_comm w z)

pub slide : (z w : ℤ) (a : ℕ) → z *ℤ w *ℤ pos a ≡ z *ℤ (w *ℤ pos a)
slide (pos m) w a = ap (λ (y : ℤ). y *ℤ pos a) (*ℤ_comm (pos m) w) ∙ times_as w m a a m (mul_comm m a) ∙ *ℤ_comm (w *ℤ pos a) (pos m)
slide (negsuc m) w a =
    ap (λ (y : ℤ). y *ℤ pos a) (*ℤ_comm (negsuc m) w ∙ *ℤ-negsuc w m)
    ∙ times_neg (w *ℤ pos (suc m)) a
    ∙ ap neg_ℤ (times_as w (suc m) a a (suc m) (mul_comm (suc m) a))
    ∙ sym (*ℤ_comm (negsuc m) (w *ℤ pos a) ∙ *ℤ-negsuc (w *ℤ pos a) m)

pub product_assoc : (z w v : ℤ) → z *ℤ w *ℤ v ≡ z *ℤ (w *ℤ v)
product_assoc z w (pos a) = slide z w a
product_assoc z w (negsuc a) =
    *ℤ-negsuc (z *ℤ w) a ∙ ap neg_ℤ (slide z w (suc a)) ∙ sym (ap (λ (y : ℤ). z *ℤ y) (*ℤ-negsuc w a) ∙ product_neg z (w *ℤ pos (suc a)))

pub product_sum : (z w v : ℤ) → (z +ℤ w) *ℤ v ≡ z *ℤ v +ℤ w *ℤ v
product_sum z w (pos a) = times_sum z w a
product_sum z w (negsuc a) =
    *ℤ-negsuc (z +ℤ w) a
    ∙ ap neg_ℤ (times_sum z w (suc a))
    ∙ neg_ℤ-+ℤ (z *ℤ pos (suc a)) (w *ℤ pos (suc a))
    ∙ (λ i. sym (*ℤ-negsuc z a) i +ℤ sym (*ℤ-negsuc w a) i)
