-- The order of exact values with their sums and products, and when two are the same; and the one argument behind every enclosure: what lies between two values
-- that an interval encloses is enclosed too, also after a multiplication by any k (`between_times`). Assumes nothing.
use mathlib.Core.Path.{◌≡◌, refl, sym, ap, ◌∙◌}
use Prim.Native.Nat.{ℕ, suc, ◌*◌, ◌<◌}
use native.Mathlib.Nat.{mul_assoc, mul_comm, mul_left_comm, mul-mul-mul_comm}
use lib.IntN.{ℤ, pos, negsuc, neg_ℤ, ◌+ℤ◌, ◌*ℤ◌, *ℤ_comm, *ℤ-negsuc, +ℤ_assoc}
use lib.Signed.{le_z}
use lib.Dec.{T}
use lib.Ieee.{Float, nan, inf, fin}
use Rattle.interval.specs.declared.Interval.{Interval}
use Rattle.interval.specs.Bounds.{in_units}
use Rattle.interval.proofs.WholeOrder.{le_z_trans}
use Rattle.boxes.specs.Ratios.{Ratio, ◌⊑◌, sum_of, minus_of, product_of, of_units, NotOver, NotUnder, Encloses}
use Rattle.boxes.proofs.Integers.{times_times, times_as, times_neg, times_sum, le_z_refl, le_z_of_eq, le_z_as, times_mono, times_cancel, neg_mono, sum_mono}
use Rattle.boxes.proofs.Integers.{product_assoc, product_sum}

-- ---- the order
pub ⊑_refl : (a : Ratio) → a ⊑ a
⊑_refl a = le_z_refl (a.num *ℤ pos a.den)

-- of three values, by the numbers that they are made of
chain : (x y z : ℤ) (d e f : ℕ) → 0 < e → T (le_z (x *ℤ pos e) (y *ℤ pos d)) → T (le_z (y *ℤ pos f) (z *ℤ pos e)) → T (le_z (x *ℤ pos f) (z *ℤ pos d))
chain x y z d e f e+ h k =
    times_cancel (x *ℤ pos f) (z *ℤ pos d) e e+
    (le_z_trans (x *ℤ pos f *ℤ pos e) (y *ℤ pos d *ℤ pos f) (z *ℤ pos d *ℤ pos e)
    (le_z_as (times_as x e f f e (mul_comm e f)) refl (times_mono (x *ℤ pos e) (y *ℤ pos d) f h))
    (le_z_as (times_as y f d d f (mul_comm f d)) (times_as z e d d e (mul_comm e d)) (times_mono (y *ℤ pos f) (z *ℤ pos e) d k)))

pub ⊑_trans : (a b c : Ratio) → a ⊑ b → b ⊑ c → a ⊑ c
⊑_trans a b c = chain a.num b.num c.num a.den b.den c.den b.den_pos

-- ---- sums
add_both : (n1 n2 m1 m2 : ℤ) (d1 d2 e1 e2 : ℕ) → T (le_z (n1 *ℤ pos e1) (m1 *ℤ pos d1)) → T (le_z (n2 *ℤ pos e2) (m2 *ℤ pos d2))
    → T (le_z ((n1 *ℤ pos d2 +ℤ n2 *ℤ pos d1) *ℤ pos (e1 * e2)) ((m1 *ℤ pos e2 +ℤ m2 *ℤ pos e1) *ℤ pos (d1 * d2)))
add_both n1 n2 m1 m2 d1 d2 e1 e2 h k =
    le_z_as (sym (spread n1 n2 d1 d2 e1 e2)) (sym (spread m1 m2 e1 e2 d1 d2 ∙ turned))
    (sum_mono (n1 *ℤ pos e1 *ℤ pos (d2 * e2)) (n2 *ℤ pos e2 *ℤ pos (d1 * e1)) (m1 *ℤ pos d1 *ℤ pos (d2 * e2)) (m2 *ℤ pos d2 *ℤ pos (d1 * e1))
    (times_mono (n1 *ℤ pos e1) (m1 *ℤ pos d1) (d2 * e2) h) (times_mono (n2 *ℤ pos e2) (m2 *ℤ pos d2) (d1 * e1) k))
  where
    moved : (d e f : ℕ) → d * (e * f) ≡ f * (d * e)
    moved d e f = sym (mul_assoc d e f) ∙ mul_comm (d * e) f

    spread : (z w : ℤ) (d e f g : ℕ) → (z *ℤ pos e +ℤ w *ℤ pos d) *ℤ pos (f * g) ≡ z *ℤ pos f *ℤ pos (e * g) +ℤ w *ℤ pos g *ℤ pos (d * f)
    spread z w d e f g =
        times_sum (z *ℤ pos e) (w *ℤ pos d) (f * g) ∙ (λ i. times_as z e (f * g) f (e * g) (mul_left_comm e f g) i +ℤ times_as w d (f * g) g (d * f) (moved d f g) i)

    turned : m1 *ℤ pos d1 *ℤ pos (e2 * d2) +ℤ m2 *ℤ pos d2 *ℤ pos (e1 * d1) ≡ m1 *ℤ pos d1 *ℤ pos (d2 * e2) +ℤ m2 *ℤ pos d2 *ℤ pos (d1 * e1)
    turned = λ i. m1 *ℤ pos d1 *ℤ pos (mul_comm e2 d2 i) +ℤ m2 *ℤ pos d2 *ℤ pos (mul_comm e1 d1 i)

pub sum_⊑ : (a b u v : Ratio) → a ⊑ u → b ⊑ v → sum_of a b ⊑ sum_of u v
sum_⊑ a b u v = add_both a.num b.num u.num v.num a.den b.den u.den v.den

pub minus_⊑ : (a b : Ratio) → a ⊑ b → minus_of b ⊑ minus_of a
minus_⊑ a b h =
    le_z_as (sym (times_neg b.num a.den)) (sym (times_neg a.num b.den)) (neg_mono (a.num *ℤ pos b.den) (b.num *ℤ pos a.den) h)

-- ---- products
regroup : (m k d : ℕ) → m * (k * d) ≡ d * (m * k)
regroup m k d = sym (mul_assoc m k d) ∙ mul_comm (m * k) d

-- z times (m / k), over d
scaled : (z : ℤ) (m k d : ℕ) → pos m *ℤ z *ℤ pos (k * d) ≡ z *ℤ pos d *ℤ pos (m * k)
scaled z m k d = ap (λ (y : ℤ). y *ℤ pos (k * d)) (*ℤ_comm (pos m) z) ∙ times_as z m (k * d) d (m * k) (regroup m k d)

scaled_neg : (z : ℤ) (m k d : ℕ) → negsuc m *ℤ z *ℤ pos (k * d) ≡ neg_ℤ (z *ℤ pos d *ℤ pos (suc m * k))
scaled_neg z m k d =
    ap (λ (y : ℤ). y *ℤ pos (k * d)) (*ℤ_comm (negsuc m) z ∙ *ℤ-negsuc z m)
    ∙ times_neg (z *ℤ pos (suc m)) (k * d)
    ∙ ap neg_ℤ (times_as z (suc m) (k * d) d (suc m * k) (regroup (suc m) k d))

-- a multiplication keeps the order or turns it round
pub times_⊑ : (m : ℕ) (k a b : Ratio) → k.num ≡ pos m → a ⊑ b → product_of k a ⊑ product_of k b
times_⊑ m k a b e h =
    le_z_as (sym (ap (λ (y : ℤ). y *ℤ a.num *ℤ pos (k.den * b.den)) e ∙ scaled a.num m k.den b.den))
    (sym (ap (λ (y : ℤ). y *ℤ b.num *ℤ pos (k.den * a.den)) e ∙ scaled b.num m k.den a.den))
    (times_mono (a.num *ℤ pos b.den) (b.num *ℤ pos a.den) (m * k.den) h)

pub times_turned : (m : ℕ) (k a b : Ratio) → k.num ≡ negsuc m → a ⊑ b → product_of k b ⊑ product_of k a
times_turned m k a b e h =
    le_z_as (sym (ap (λ (y : ℤ). y *ℤ b.num *ℤ pos (k.den * a.den)) e ∙ scaled_neg b.num m k.den a.den))
    (sym (ap (λ (y : ℤ). y *ℤ a.num *ℤ pos (k.den * b.den)) e ∙ scaled_neg a.num m k.den b.den))
    (neg_mono (a.num *ℤ pos b.den *ℤ pos (suc m * k.den)) (b.num *ℤ pos a.den *ℤ pos (suc m * k.den))
    (times_mono (a.num *ℤ pos b.den) (b.num *ℤ pos a.den) (suc m * k.den) h))

-- ---- the same value, as another fraction
abbrev pub Same : Ratio → Ratio → Type 0
Same a b = (a ⊑ b) × (b ⊑ a)

pub same_from : (a b : Ratio) → a.num *ℤ pos b.den ≡ b.num *ℤ pos a.den → Same a b
same_from a b e = (le_z_of_eq e, le_z_of_eq (sym e))

pub same_sym : (a b : Ratio) → Same a b → Same b a
same_sym a b s = (s.1, s.0)

pub same_trans : (a b c : Ratio) → Same a b → Same b c → Same a c
same_trans a b c s t = (⊑_trans a b c s.0 t.0, ⊑_trans c b a t.1 s.1)

same_parts : (a b : Ratio) → a.num ≡ b.num → a.den ≡ b.den → Same a b
same_parts a b e d = same_from a b (λ i. e i *ℤ pos (sym d i))

pub same_left : (a b c : Ratio) → Same a b → Same (sum_of a c) (sum_of b c)
same_left a b c s = (sum_⊑ a c b c s.0 (⊑_refl c), sum_⊑ b c a c s.1 (⊑_refl c))

pub same_times : (k a b : Ratio) → Same a b → Same (product_of k a) (product_of k b)
same_times k a b s = go k.num refl
  where
    go : (z : ℤ) → k.num ≡ z → Same (product_of k a) (product_of k b)
    go (pos m) e = (times_⊑ m k a b e s.0, times_⊑ m k b a e s.1)
    go (negsuc m) e = (times_turned m k b a e s.1, times_turned m k a b e s.0)

pub associated : (a b c : Ratio) → Same (product_of (product_of a b) c) (product_of a (product_of b c))
associated a b c =
    same_parts (product_of (product_of a b) c) (product_of a (product_of b c)) (product_assoc a.num b.num c.num) (mul_assoc a.den b.den c.den)

pub commuted : (a b : Ratio) → Same (product_of a b) (product_of b a)
commuted a b = same_parts (product_of a b) (product_of b a) (*ℤ_comm a.num b.num) (mul_comm a.den b.den)

pub sums_associated : (a b c : Ratio) → Same (sum_of (sum_of a b) c) (sum_of a (sum_of b c))
sums_associated a b c =
    same_parts (sum_of (sum_of a b) c) (sum_of a (sum_of b c)) (nums a.num b.num c.num a.den b.den c.den) (mul_assoc a.den b.den c.den)
  where
    nums : (x y z : ℤ) (d e f : ℕ)
        → (x *ℤ pos e +ℤ y *ℤ pos d) *ℤ pos f +ℤ z *ℤ pos (d * e) ≡ x *ℤ pos (e * f) +ℤ (y *ℤ pos f +ℤ z *ℤ pos e) *ℤ pos d
    nums x y z d e f =
        ap (λ (w : ℤ). w +ℤ z *ℤ pos (d * e)) (times_sum (x *ℤ pos e) (y *ℤ pos d) f ∙ (λ i. times_times x e f i +ℤ times_as y d f f d (mul_comm d f) i))
        ∙ +ℤ_assoc (x *ℤ pos (e * f)) (y *ℤ pos f *ℤ pos d) (z *ℤ pos (d * e))
        ∙ ap (λ (w : ℤ). x *ℤ pos (e * f) +ℤ w)
        (ap (λ (w : ℤ). y *ℤ pos f *ℤ pos d +ℤ w) (ap (λ (n : ℕ). z *ℤ pos n) (mul_comm d e) ∙ sym (times_times z e d))
        ∙ sym (times_sum (y *ℤ pos f) (z *ℤ pos e) d))

pub distributed : (a b c : Ratio) → Same (product_of (sum_of a b) c) (sum_of (product_of a c) (product_of b c))
distributed a b c =
    same_from (product_of (sum_of a b) c) (sum_of (product_of a c) (product_of b c)) (cross a.num b.num c.num a.den b.den c.den)
  where
    one : (x z : ℤ) (e f : ℕ) → x *ℤ pos e *ℤ z *ℤ pos f ≡ x *ℤ z *ℤ pos (e * f)
    one x z e f =
        ap (λ (w : ℤ). w *ℤ pos f) (product_assoc x (pos e) z ∙ ap (λ (w : ℤ). x *ℤ w) (*ℤ_comm (pos e) z) ∙ sym (product_assoc x z (pos e)))
        ∙ times_times (x *ℤ z) e f

    -- the right side is the left one with f on both sides of the bar
    top : (x y z : ℤ) (d e f : ℕ) → (x *ℤ pos e +ℤ y *ℤ pos d) *ℤ z *ℤ pos f ≡ x *ℤ z *ℤ pos (e * f) +ℤ y *ℤ z *ℤ pos (d * f)
    top x y z d e f =
        ap (λ (w : ℤ). w *ℤ pos f) (product_sum (x *ℤ pos e) (y *ℤ pos d) z)
        ∙ times_sum (x *ℤ pos e *ℤ z) (y *ℤ pos d *ℤ z) f
        ∙ (λ i. one x z e f i +ℤ one y z d f i)

    bottom : (d e f : ℕ) → d * f * (e * f) ≡ f * (d * e * f)
    bottom d e f = mul-mul-mul_comm d f e f ∙ sym (mul_assoc (d * e) f f) ∙ mul_comm (d * e * f) f

    cross : (x y z : ℤ) (d e f : ℕ)
        → (x *ℤ pos e +ℤ y *ℤ pos d) *ℤ z *ℤ pos (d * f * (e * f)) ≡ (x *ℤ z *ℤ pos (e * f) +ℤ y *ℤ z *ℤ pos (d * f)) *ℤ pos (d * e * f)
    cross x y z d e f =
        ap (λ (n : ℕ). (x *ℤ pos e +ℤ y *ℤ pos d) *ℤ z *ℤ pos n) (bottom d e f)
        ∙ sym (times_times ((x *ℤ pos e +ℤ y *ℤ pos d) *ℤ z) f (d * e * f))
        ∙ ap (λ (w : ℤ). w *ℤ pos (d * e * f)) (top x y z d e f)

-- ---- enclosing
pub over_less : (x : Float) (v w : Ratio) → v ⊑ w → NotOver x v → NotOver x w
over_less nan v w s h = h
over_less (inf t) v w s h = h
over_less (fin t m e) v w s h = ⊑_trans (of_units (in_units (fin t m e))) v w h s

pub under_more : (x : Float) (v w : Ratio) → w ⊑ v → NotUnder x v → NotUnder x w
under_more nan v w s h = h
under_more (inf t) v w s h = h
under_more (fin t m e) v w s h = ⊑_trans w v (of_units (in_units (fin t m e))) s h

pub encloses_same : (x : Interval) (v w : Ratio) → Same v w → Encloses x v → Encloses x w
encloses_same x v w s h = (over_less x.lower v w s.0 h.0, under_more x.upper v w s.1 h.1)

-- what lies between two values that are enclosed
pub encloses_between : (x : Interval) (u v w : Ratio) → Encloses x u → Encloses x w → u ⊑ v → v ⊑ w → Encloses x v
encloses_between x u v w f g h k = (over_less x.lower u v h f.0, under_more x.upper w v k g.1)

-- k times what lies between a and b lies between k times a and k times b
pub between_times : (x : Interval) (k a v b : Ratio) → a ⊑ v → v ⊑ b → Encloses x (product_of k a) → Encloses x (product_of k b) → Encloses x (product_of k v)
between_times x k a v b h j f g = go k.num refl
  where
    go : (z : ℤ) → k.num ≡ z → Encloses x (product_of k v)
    go (pos m) e = encloses_between x (product_of k a) (product_of k v) (product_of k b) f g (times_⊑ m k a v e h) (times_⊑ m k v b e j)
    go (negsuc m) e = encloses_between x (product_of k b) (product_of k v) (product_of k a) g f (times_turned m k v b e j) (times_turned m k a v e h)

swapped : (x : Interval) (a b : Ratio) → Encloses x (product_of a b) → Encloses x (product_of b a)
swapped x a b = encloses_same x (product_of a b) (product_of b a) (commuted a b)

-- a product of two values between others is enclosed if the four products at the corners are
pub product_between : (x : Interval) (a0 a a1 b0 b b1 : Ratio) → a0 ⊑ a → a ⊑ a1 → b0 ⊑ b → b ⊑ b1
    → Encloses x (product_of a0 b0) → Encloses x (product_of a0 b1) → Encloses x (product_of a1 b0) → Encloses x (product_of a1 b1) → Encloses x (product_of a b)
product_between x a0 a a1 b0 b b1 p q r s f00 f01 f10 f11 =
    swapped x b a
    (between_times x b a0 a a1 p q
    (swapped x a0 b (between_times x a0 b0 b b1 r s f00 f01))
    (swapped x a1 b (between_times x a1 b0 b b1 r s f10 f11)))
