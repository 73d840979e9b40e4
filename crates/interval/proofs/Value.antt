-- A value that a format holds is known by its sign and its size: two with the same are one (`value_unique`), and rounding a value's
-- own fraction gives it back (`round_self`). Assumes nothing.
use Rattle.std.proofs.Common.{◌≡◌, ℕ, zero, suc, ◌+◌, ◌-◌, ◌*◌, ◌%◌, ◌^◌, ◌<◌, ◌≤◌, Bool, ◌&&◌, T, eqb, ltb, leb, ℤ, pos, negsuc, sym, refl, ap, ◌∙◌, subst, lt_of_lt_of_le, le_of_suc-le-suc, lt_irrefl, zero-lt-suc, mul_assoc, mul_comm, lt_of_mul-lt-mul_right, mul-lt-mul_of_pos_right, mul-pos, one-mul, pow-suc, lt_of_not-le, zero-mul, mul-one, mul_right_comm, mul_left_comm, arith, eqb→eq, ltb→lt, leb→le, pow_pos, pow-add}
use native.Mathlib.Nat.{pow-succ', eq_of_mul-eq-mul_right}
use lib.Pow.{pow-lt}
use lib.Ieee.{Float, nan, inf, fin, Format, prec, emax, low, up, down, size, round, fits}
use lib.Ieee.Fits.{round_is, round-fits, up_pos, down_pos, and_l, and_r}
use lib.Ieee.Exact.{HasValue, units_val, round_exact}
use lib.Ieee.Digits.{back}
use lib.Ieee.Nearest.{closest, closest_same, div_same}
use lib.Ieee.Order.{drop, kept}
use lib.Ieee.Scale.{grid, overflow}

even_odd : (m t : ℕ) → m % 2 ≡ 1 → m ≡ 2 * t → ⊥
even_odd m t o h = omega arith

odd_pow : (m n a b : ℕ) → m % 2 ≡ 1 → n % 2 ≡ 1 → m * 2 ^ a ≡ n * 2 ^ b → (m ≡ n) × (a ≡ b)
odd_pow m n zero zero o p h = (sym (mul-one m) ∙ h ∙ mul-one n, refl)
odd_pow m n zero (suc b) o p h = absurd (even_odd m (n * 2 ^ b) o (sym (mul-one m) ∙ h ∙ ap (λ (x : ℕ). n * x) (pow-succ' 2 b) ∙ mul_left_comm n 2 (2 ^ b)))
odd_pow m n (suc a) zero o p h = absurd (even_odd n (m * 2 ^ a) p (sym (mul-one n) ∙ sym h ∙ ap (λ (x : ℕ). m * x) (pow-succ' 2 a) ∙ mul_left_comm m 2 (2 ^ a)))
odd_pow m n (suc a) (suc b) o p h =
    let r = odd_pow m n a b o p (eq_of_mul-eq-mul_right 2 (zero-lt-suc 1) (m * 2 ^ a) (n * 2 ^ b)
    (mul_assoc m (2 ^ a) 2 ∙ ap (λ (x : ℕ). m * x) (sym (pow-suc 2 a)) ∙ h ∙ ap (λ (x : ℕ). n * x) (pow-suc 2 b) ∙ sym (mul_assoc n (2 ^ b) 2))) in
    (r.0, ap suc r.1)

-- ---- what `fits` says of a value that is not zero
pub record Held (f : Format) (m : ℕ) (e : ℤ) : Type 0 where
  pub is_odd : m % 2 ≡ 1
  pub digits : m < 2 ^ prec f
  pub low_end : down e ≤ 2 ^ low f
  pub high_end : m * up e < 2 ^ suc (emax f) * down e

pub held : (f : Format) (s : Bool) (m : ℕ) (e : ℤ) → T (fits f (fin s (suc m) e)) → Held f (suc m) e
unfolding fits
held f s m e t =
    let a : Bool = eqb (suc m % 2) 1 in
    let b : Bool = ltb (suc m) (2 ^ prec f) in
    let c : Bool = leb (down e) (2 ^ low f) in
    let d : Bool = ltb (suc m * up e) (2 ^ suc (emax f) * down e) in
    record {
      is_odd = eqb→eq (suc m % 2) 1 (and_l a b (and_l (a && b) c (and_l (a && b && c) d t)));
      digits = ltb→lt (suc m) (2 ^ prec f) (and_r a b (and_l (a && b) c (and_l (a && b && c) d t)));
      low_end = leb→le (down e) (2 ^ low f) (and_r (a && b) c (and_l (a && b && c) d t));
      high_end = ltb→lt (suc m * up e) (2 ^ suc (emax f) * down e) (and_r (a && b && c) d t);
    }

two_up : (p : ℕ) → 0 < p → 2 * p ≡ 1 → ⊥
two_up p h e = omega arith

flat : (e : ℤ) → up e * down e ≡ 1 → e ≡ pos 0
flat (pos zero) h = refl
flat (pos (suc k)) h = absurd (two_up (2 ^ k) (pow_pos k) (sym (pow-succ' 2 k) ∙ sym (mul-one (2 ^ suc k)) ∙ h))
flat (negsuc k) h = absurd (two_up (2 ^ k) (pow_pos k) (sym (pow-succ' 2 k) ∙ sym (one-mul (2 ^ suc k)) ∙ h))

pub zero_exp : (f : Format) (s : Bool) (e : ℤ) → T (fits f (fin s zero e)) → e ≡ pos 0
unfolding fits
zero_exp f s e t = flat e (eqb→eq (up e * down e) 1 t)

-- ---- an odd m with an exponent is written in one way
no_suc : (a b : ℕ) → a + suc b ≡ 0 → ⊥
no_suc a b h = omega arith

same_odd : (m : ℕ) (e : ℤ) (n : ℕ) (g : ℤ) → m % 2 ≡ 1 → n % 2 ≡ 1 → m * up e * down g ≡ n * up g * down e → (m ≡ n) × (e ≡ g)
same_odd m (pos a) n (pos b) o p h =
    let r = odd_pow m n a b o p (sym (mul-one (m * 2 ^ a)) ∙ h ∙ mul-one (n * 2 ^ b)) in (r.0, ap pos r.1)
same_odd m (pos a) n (negsuc b) o p h =
    let r = odd_pow m n (a + suc b) 0 o p (ap (λ (x : ℕ). m * x) (pow-add 2 a (suc b)) ∙ sym (mul_assoc m (2 ^ a) (2 ^ suc b)) ∙ h ∙ mul-one (n * 1)) in absurd (no_suc a b r.1)
same_odd m (negsuc a) n (pos b) o p h =
    let r = odd_pow n m (b + suc a) 0 p o (ap (λ (x : ℕ). n * x) (pow-add 2 b (suc a)) ∙ sym (mul_assoc n (2 ^ b) (2 ^ suc a)) ∙ sym h ∙ mul-one (m * 1)) in absurd (no_suc b a r.1)
same_odd m (negsuc a) n (negsuc b) o p h =
    let r = odd_pow m n (suc b) (suc a) o p (ap (λ (x : ℕ). x * 2 ^ suc b) (sym (mul-one m)) ∙ h ∙ ap (λ (x : ℕ). x * 2 ^ suc a) (mul-one n)) in
    (r.0, λ i. negsuc (pr r.1 (negsuc_eq a b r.1) i))
  where
    negsuc_eq : (a b : ℕ) → suc b ≡ suc a → a ≡ b
    negsuc_eq a b h = omega arith

    pr : {x y : ℕ} → suc y ≡ suc x → x ≡ y → x ≡ y
    pr q h = h

cross : (x de y dg a c : ℕ) → 0 < c → x * c ≡ a * de → y * c ≡ a * dg → x * dg ≡ y * de
cross x de y dg a c C p q =
    eq_of_mul-eq-mul_right c C (x * dg) (y * de)
    (mul_right_comm x dg c ∙ ap (λ (z : ℕ). z * dg) p ∙ mul_right_comm a de dg ∙ ap (λ (z : ℕ). z * de) (sym q) ∙ mul_right_comm y c de)

zero_clash : (m : ℕ) (e g : ℤ) → suc m * up e * down g ≡ zero * up g * down e → ⊥
zero_clash m e g h = lt_irrefl 0 (subst (λ (x : ℕ). 0 < x) (h ∙ ap (λ (x : ℕ). x * down e) (zero-mul (up g)) ∙ zero-mul (down e)) (mul-pos (mul-pos (zero-lt-suc m) (up_pos e)) (down_pos g)))

pub value_unique : (f : Format) (x y : Float) (s : Bool) (a c : ℕ) → 0 < c → T (fits f x) → T (fits f y) → HasValue x s a c → HasValue y s a c → x ≡ y
value_unique f nan y s a c C p q v w = absurd v
value_unique f (inf t) y s a c C p q v w = absurd v
value_unique f (fin t m e) nan s a c C p q v w = absurd w
value_unique f (fin t m e) (inf u) s a c C p q v w = absurd w
value_unique f (fin t zero e) (fin u zero g) s a c C p q v w = λ i. fin ((v.0 ∙ sym w.0) i) zero ((zero_exp f t e p ∙ sym (zero_exp f u g q)) i)
value_unique f (fin t zero e) (fin u (suc n) g) s a c C p q v w = absurd (zero_clash n g e (cross (suc n * up g) (down g) (zero * up e) (down e) a c C w.1 v.1))
value_unique f (fin t (suc m) e) (fin u zero g) s a c C p q v w = absurd (zero_clash m e g (cross (suc m * up e) (down e) (zero * up g) (down g) a c C v.1 w.1))
value_unique f (fin t (suc m) e) (fin u (suc n) g) s a c C p q v w =
    let r = same_odd (suc m) e (suc n) g (held f t m e p).is_odd (held f u n g q).is_odd (cross (suc m * up e) (down e) (suc n * up g) (down g) a c C v.1 w.1) in
    λ i. fin ((v.0 ∙ sym w.0) i) (r.0 i) (r.1 i)

-- ---- a value in units of the format's smallest, 2 ^ -low: m * 2 ^ j of them
pow_le_back : (a l : ℕ) → 2 ^ a ≤ 2 ^ l → a ≤ l
pow_le_back a l h = le_of_suc-le-suc (lt_of_not-le (λ (g : suc l ≤ a). lt_irrefl (2 ^ l) (lt_of_lt_of_le (pow-lt g) h)))

place : (l : ℕ) (e : ℤ) → down e ≤ 2 ^ l → (j : ℕ) × ((m : ℕ) → m * up e * 2 ^ l ≡ m * 2 ^ j * down e)
place l (pos a) h = (a + l, λ m. mul_assoc m (2 ^ a) (2 ^ l) ∙ ap (λ (x : ℕ). m * x) (sym (pow-add 2 a l)) ∙ sym (mul-one (m * 2 ^ (a + l))))
place l (negsuc a) h =
    let q : suc a ≤ l = pow_le_back (suc a) l h in
    (l - suc a, λ m. ap (λ (x : ℕ). x * 2 ^ l) (mul-one m) ∙ ap (λ (x : ℕ). m * x) (ap (λ (x : ℕ). 2 ^ x) (sym (back l (suc a) q)) ∙ pow-add 2 (l - suc a) (suc a)) ∙ sym (mul_assoc m (2 ^ (l - suc a)) (2 ^ suc a)))

pub record Placed (f : Format) (s : Bool) (x : Float) : Type 0 where
  pub m : ℕ
  pub j : ℕ
  pub digits : m < 2 ^ prec f
  pub under : m * 2 ^ j < overflow f
  pub value : HasValue x s (m * 2 ^ j) (2 ^ low f)

pub placed : (f : Format) (s : Bool) (m : ℕ) (e : ℤ) → T (fits f (fin s m e)) → Placed f s (fin s m e)
placed f s zero e t =
    record {
      m = 0;
      j = 0;
      digits = pow_pos (prec f);
      under = pow_pos (low f + suc (emax f));
      value = (refl, ap (λ (x : ℕ). x * 2 ^ low f) (zero-mul (up e)) ∙ zero-mul (2 ^ low f) ∙ sym (zero-mul (down e)));
    }
placed f s (suc m) e t =
    let h = held f s m e t in
    let p = place (low f) e h.low_end in
    let v : suc m * up e * 2 ^ low f ≡ suc m * 2 ^ p.0 * down e = p.1 (suc m) in
    record {
      m = suc m;
      j = p.0;
      digits = h.digits;
      under = lt_of_mul-lt-mul_right (down e)
          (subst (λ (x : ℕ). x < 2 ^ (low f + suc (emax f)) * down e) v
          (subst (λ (x : ℕ). suc m * up e * 2 ^ low f < x)
          (mul_right_comm (2 ^ suc (emax f)) (down e) (2 ^ low f) ∙ ap (λ (x : ℕ). x * down e) (mul_comm (2 ^ suc (emax f)) (2 ^ low f) ∙ sym (pow-add 2 (low f) (suc (emax f)))))
          (mul-lt-mul_of_pos_right h.high_end (pow_pos (low f)))));
      value = (refl, v);
    }

-- ---- two fractions for one value
pub values_cross : (x : Float) (s t : Bool) (a c b d : ℕ) → HasValue x s a c → HasValue x t b d → a * d ≡ b * c
values_cross nan s t a c b d v w = absurd v
values_cross (inf u) s t a c b d v w = absurd v
values_cross (fin u m e) s t a c b d v w =
    eq_of_mul-eq-mul_right (down e) (down_pos e) (a * d) (b * c)
    (mul_right_comm a d (down e) ∙ ap (λ (z : ℕ). z * d) (sym v.1) ∙ mul_right_comm (m * up e) c d ∙ ap (λ (z : ℕ). z * c) w.1 ∙ mul_right_comm b (down e) c)

pub round_self : (f : Format) (x : Float) (s : Bool) (a c : ℕ) → 0 < c → T (fits f x) → HasValue x s a c → round f s a c ≡ x
round_self f nan s a c C t v = absurd v
round_self f (inf u) s a c C t v = absurd v
round_self f (fin u m e) s a c C t v =
    let p = placed f u m e t in
    value_unique f (round f s a c) (fin u m e) s a c C (round-fits f s a c) t
    (round_exact f s a c p.m p.j C p.digits p.under (values_cross (fin u m e) s u a c (p.m * 2 ^ p.j) (2 ^ low f) v p.value))
    v

-- ---- a rounded fraction's value, with either sign
pub round_val : (f : Format) (s : Bool) (a c : ℕ) → grid f a c < overflow f → HasValue (round f s a c) s (grid f a c) (2 ^ low f)
round_val f s a c h = subst (λ (z : Float). HasValue z s (grid f a c) (2 ^ low f)) (sym (round_is f s a c)) (units_val f s (kept (prec f) (a * 2 ^ low f) c) (drop (prec f) (a * 2 ^ low f) c) h)

-- rounding what is rounded already changes nothing
pub round_again : (f : Format) (s : Bool) (a c : ℕ) → grid f a c < overflow f → round f s (grid f a c) (2 ^ low f) ≡ round f s a c
round_again f s a c h = round_self f (round f s a c) s (grid f a c) (2 ^ low f) (pow_pos (low f)) (round-fits f s a c) (round_val f s a c h)

pub grid_same : (f : Format) (a b c d : ℕ) → 0 < b → 0 < d → a * d ≡ c * b → grid f a b ≡ grid f c d
grid_same f a b c d B D e =
    let l = 2 ^ low f in
    let p = prec f in
    let x : a * l * d ≡ c * l * b = mul_right_comm a l d ∙ ap (λ (z : ℕ). z * l) e ∙ mul_right_comm c b l in
    let k : drop p (a * l) b ≡ drop p (c * l) d = ap (λ (z : ℕ). size z - p) (div_same (a * l) b (c * l) d B D x) in
    let j = drop p (c * l) d in
    let y : a * l * (d * 2 ^ j) ≡ c * l * (b * 2 ^ j) = sym (mul_assoc (a * l) d (2 ^ j)) ∙ ap (λ (z : ℕ). z * 2 ^ j) x ∙ mul_assoc (c * l) b (2 ^ j) in
    ap (λ (z : ℕ). closest (a * l) (b * 2 ^ z) * 2 ^ z) k
    ∙ ap (λ (z : ℕ). z * 2 ^ j) (closest_same (a * l) (b * 2 ^ j) (c * l) (d * 2 ^ j) (mul-pos B (pow_pos j)) (mul-pos D (pow_pos j)) y)
