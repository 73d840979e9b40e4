-- Halving after rounding is rounding after halving (`half_round`), for a whole number N of the format's smallest values whose
-- rounding does not overflow. Where N has more digits than the format keeps, N / 2 is in the normal range and the halving is exact
-- (`grid_scale`); where it has not, N units are a value of the format, so that the first rounding changes nothing.
-- Then the sum of two values by their units (`add_at`). Assumes nothing.
use Rattle.std.proofs.Common.{◌≡◌, ℕ, zero, suc, ◌+◌, ◌-◌, ◌*◌, ◌/◌, ◌^◌, ◌<◌, ◌≤◌, Bool, true, false, cond, not, ◌&&◌, T, ltb, leb, negsuc, sym, refl, ap, ◌∙◌, subst, le_trans, le_of_eq, lt_of_lt_of_le, le_of_suc-le-suc, le_of_lt, mul-le-mul_right, zero-lt-suc, mul_assoc, mul_comm, div-lt_iff_lt-mul, add-mul, lt_of_mul-lt-mul_right, mul-le-mul_left, mul-lt-mul_of_pos_right, mul-pos, pow-suc, lt_of_not-le, mul-one, mul_right_comm, mul_left_comm, arith, lit<, ltb→lt, lt→ltb, leb→le, T_not, pow_pos, pow_mono, pow-add}
use native.Mathlib.Nat.{mul-sub}
use mathlib.Core.Bool.{beq}
use lib.Dec.{nleb→lt}
use lib.Ieee.{Float, nan, inf, fin, Format, binary32, binary64, prec, emax, low, unlike, up, down, size, odd, units, round, sum, add, mul, le}
use lib.Ieee.Fits.{down_pos, reach}
use lib.Ieee.Digits.{size-lt, back}
use lib.Ieee.Exact.{HasValue, round_exact}
use lib.Ieee.Order.{drop, kept, round_mono}
use lib.Ieee.Scale.{grid, overflow, finite, grid_scale, round_same}
use Rattle.base.proofs.Test.{same_tests}
use Rattle.interval.proofs.Naturals.{half_less, at_most_pred}
use Rattle.interval.proofs.Value.{Placed, round_val, round_again, grid_same}

abbrev pub half : Float
half = fin false 1 (negsuc 0)

pub unlike_false : (t : Bool) → unlike t false ≡ t
unlike_false true = refl
unlike_false false = refl

-- x times a half, by any fraction that x equals
pub mul_half : (f : Format) (x : Float) (s : Bool) (a c : ℕ) → 0 < c → HasValue x s a c → mul f x half ≡ round f s a (c * 2)
unfolding mul
mul_half f nan s a c C v = absurd v
mul_half f (inf t) s a c C v = absurd v
mul_half f (fin t m e) s a c C v =
    ap (λ (z : Bool). round f z (m * up e * (1 * 1)) (down e * 2)) (unlike_false t ∙ v.0)
    ∙ round_same f s (m * up e * (1 * 1)) (down e * 2) a (c * 2) (mul-pos (down_pos e) (zero-lt-suc 1)) (mul-pos C (zero-lt-suc 1))
    (ap (λ (z : ℕ). z * (c * 2)) (mul-one (m * up e)) ∙ sym (mul_assoc (m * up e) c 2) ∙ ap (λ (z : ℕ). z * 2) v.1 ∙ mul_assoc a (down e) 2)

-- ---- the two cases of `half_round`
normal_case : (f : Format) (s : Bool) (N : ℕ) → grid f N (2 ^ low f) < overflow f → prec f ≤ size (N * 2 ^ low f / (2 ^ low f * 2)) → mul f (round f s N (2 ^ low f)) half ≡ round f s N (2 ^ low f * 2)
normal_case f s N h n =
    let U = 2 ^ low f in
    let P : 0 < U = pow_pos (low f) in
    let P2 : 0 < U * 2 = mul-pos P (zero-lt-suc 1) in
    let G = grid f N (U * 2) in
    let g : grid f N U ≡ G * 2 = grid_same f N U (N * 2) (U * 2) P P2 (mul_left_comm N U 2 ∙ mul_comm U (N * 2)) ∙ grid_scale f N (U * 2) 1 P2 n in
    mul_half f (round f s N U) s (grid f N U) U P (round_val f s N U h)
    ∙ ap (λ (z : ℕ). round f s z (U * 2)) g
    ∙ round_same f s (G * 2) (U * 2) G U P2 P (mul_assoc G 2 U ∙ ap (λ (z : ℕ). G * z) (mul_comm 2 U))
    ∙ round_again f s N (U * 2) (half_less G (overflow f) (subst (λ (z : ℕ). z < overflow f) g h))

pred_suc : (p : ℕ) → 0 < p → suc (p - 1) ≡ p
pred_suc p h = omega arith

few_digits : (l p N : ℕ) → 0 < p → size (N * 2 ^ l / (2 ^ l * 2)) < p → N < 2 ^ p
few_digits l p N P h =
    let U = 2 ^ l in
    let w = N * U / (U * 2) in
    let a : w < 2 ^ (p - 1) = lt_of_lt_of_le (size-lt w) (pow_mono (at_most_pred (size w) p h)) in
    let b : N * U < 2 ^ (p - 1) * (U * 2) = (div-lt_iff_lt-mul (mul-pos (pow_pos l) (zero-lt-suc 1))).0 a in
    lt_of_mul-lt-mul_right U
    (subst (λ (z : ℕ). N * U < z) (ap (λ (z : ℕ). 2 ^ (p - 1) * z) (mul_comm U 2) ∙ sym (mul_assoc (2 ^ (p - 1)) 2 U) ∙ ap (λ (z : ℕ). z * U) (sym (pow-suc 2 (p - 1)) ∙ ap (λ (z : ℕ). 2 ^ z) (pred_suc p P))) b)

within : (p e l : ℕ) → p ≤ e → p ≤ l + e
within p e l h = omega arith

pub small_exact : (f : Format) (s : Bool) (N : ℕ) → N < 2 ^ prec f → HasValue (round f s N (2 ^ low f)) s N (2 ^ low f)
small_exact f s N h =
    round_exact f s N (2 ^ low f) N 0 (pow_pos (low f)) h
    (subst (λ (z : ℕ). z < overflow f) (sym (mul-one N)) (lt_of_lt_of_le h (pow_mono (within (prec f) (suc (emax f)) (low f) (reach f)))))
    (ap (λ (z : ℕ). z * 2 ^ low f) (sym (mul-one N)))

few_case : (f : Format) (s : Bool) (N : ℕ) → N < 2 ^ prec f → mul f (round f s N (2 ^ low f)) half ≡ round f s N (2 ^ low f * 2)
few_case f s N h = mul_half f (round f s N (2 ^ low f)) s N (2 ^ low f) (pow_pos (low f)) (small_exact f s N h)

prec_pos : (f : Format) → 0 < prec f
prec_pos binary32 = lit< tt
prec_pos binary64 = lit< tt

-- the half of the rounded is the rounded half
pub half_round : (f : Format) (s : Bool) (N : ℕ) → grid f N (2 ^ low f) < overflow f → mul f (round f s N (2 ^ low f)) half ≡ round f s N (2 ^ low f * 2)
half_round f s N h = go (leb (prec f) z) (leb→le (prec f) z) (nleb→lt (prec f) z)
  where
    z : ℕ
    z = size (N * 2 ^ low f / (2 ^ low f * 2))

    go : (b : Bool) → (T b → prec f ≤ z) → (T (not b) → z < prec f) → mul f (round f s N (2 ^ low f)) half ≡ round f s N (2 ^ low f * 2)
    go true p q = normal_case f s N h (p tt)
    go false p q = few_case f s N (few_digits (low f) (prec f) N (prec_pos f) (q tt))

-- ---- the sum of two values over one denominator
-- the sign and the size of ±a + ±b
abbrev pub sign : Bool → ℕ → Bool → ℕ → Bool
sign s a t b = cond (beq s t) s (cond (ltb a b) t (s && ltb b a))

abbrev pub magn : Bool → ℕ → Bool → ℕ → ℕ
magn s a t b = cond (beq s t) (a + b) (cond (ltb a b) (b - a) (a - b))

pub sum_is : (f : Format) (s : Bool) (a : ℕ) (t : Bool) (b c : ℕ) → sum f s a t b c ≡ round f (sign s a t b) (magn s a t b) c
unfolding sum
sum_is f s a t b c = go (beq s t) (ltb a b) (s && ltb b a)
  where
    go : (x y z : Bool) → cond x (round f s (a + b) c) (cond y (round f t (b - a) c) (round f z (a - b) c)) ≡ round f (cond x s (cond y t z)) (cond x (a + b) (cond y (b - a) (a - b))) c
    go true y z = refl
    go false true z = refl
    go false false z = refl

-- equal fractions compare alike
pub ltb_scale : (A B C a b c : ℕ) → 0 < C → 0 < c → A * c ≡ a * C → B * c ≡ b * C → ltb A B ≡ ltb a b
ltb_scale A B C a b c C+ c+ p q =
    same_tests (ltb A B) (ltb a b)
    (λ (t : T (ltb A B)). lt→ltb a b (lt_of_mul-lt-mul_right C (subst (λ (z : ℕ). z < b * C) p (subst (λ (z : ℕ). A * c < z) q (mul-lt-mul_of_pos_right (ltb→lt A B t) c+)))))
    (λ (t : T (ltb a b)). lt→ltb A B (lt_of_mul-lt-mul_right c (subst (λ (z : ℕ). z < B * c) (sym p) (subst (λ (z : ℕ). a * C < z) (sym q) (mul-lt-mul_of_pos_right (ltb→lt a b t) C+)))))

sub_scale : (A B C a b c : ℕ) → A * c ≡ a * C → B * c ≡ b * C → (A - B) * c ≡ (a - b) * C
sub_scale A B C a b c p q =
    mul_comm (A - B) c ∙ mul-sub c A B ∙ ap (λ (z : ℕ). z - c * B) (mul_comm c A ∙ p) ∙ ap (λ (z : ℕ). a * C - z) (mul_comm c B ∙ q)
    ∙ sym (mul_comm (a - b) C ∙ mul-sub C a b ∙ ap (λ (z : ℕ). z - C * b) (mul_comm C a) ∙ ap (λ (z : ℕ). a * C - z) (mul_comm C b))

magn_scale : (s : Bool) (A : ℕ) (t : Bool) (B C a b c : ℕ) → 0 < C → 0 < c → A * c ≡ a * C → B * c ≡ b * C → magn s A t B * c ≡ magn s a t b * C
magn_scale s A t B C a b c C+ c+ p q =
    ap (λ (z : Bool). cond (beq s t) (A + B) (cond z (B - A) (A - B)) * c) (ltb_scale A B C a b c C+ c+ p q) ∙ go (beq s t) (ltb a b)
  where
    go : (x y : Bool) → cond x (A + B) (cond y (B - A) (A - B)) * c ≡ cond x (a + b) (cond y (b - a) (a - b)) * C
    go true y = add-mul A B c ∙ ap (λ (z : ℕ). z + B * c) p ∙ ap (λ (z : ℕ). a * C + z) q ∙ sym (add-mul a b C)
    go false true = sub_scale B A C b a c q p
    go false false = sub_scale A B C a b c p q

sign_scale : (s : Bool) (A : ℕ) (t : Bool) (B C a b c : ℕ) → 0 < C → 0 < c → A * c ≡ a * C → B * c ≡ b * C → sign s A t B ≡ sign s a t b
sign_scale s A t B C a b c C+ c+ p q =
    ap (λ (z : Bool). cond (beq s t) s (cond z t (s && ltb B A))) (ltb_scale A B C a b c C+ c+ p q)
    ∙ ap (λ (z : Bool). cond (beq s t) s (cond (ltb a b) t (s && z))) (ltb_scale B A C b a c C+ c+ q p)

pub add_at : (f : Format) (x y : Float) (s : Bool) (a : ℕ) (t : Bool) (b c : ℕ) → 0 < c → HasValue x s a c → HasValue y t b c → add f x y ≡ round f (sign s a t b) (magn s a t b) c
unfolding add
add_at f nan y s a t b c C v w = absurd v
add_at f (inf u) y s a t b c C v w = absurd v
add_at f (fin u m e) nan s a t b c C v w = absurd w
add_at f (fin u m e) (inf r) s a t b c C v w = absurd w
add_at f (fin u m e) (fin r n d) s a t b c C v w =
    let A = m * up e * down d in
    let B = n * up d * down e in
    let D = down e * down d in
    let D+ : 0 < D = mul-pos (down_pos e) (down_pos d) in
    let p : A * c ≡ a * D = mul_right_comm (m * up e) (down d) c ∙ ap (λ (z : ℕ). z * down d) v.1 ∙ mul_assoc a (down e) (down d) in
    let q : B * c ≡ b * D = mul_right_comm (n * up d) (down e) c ∙ ap (λ (z : ℕ). z * down e) w.1 ∙ mul_assoc b (down d) (down e) ∙ ap (λ (z : ℕ). b * z) (mul_comm (down d) (down e)) in
    ap (λ (z : Bool). sum f z A r B D) v.0
    ∙ ap (λ (z : Bool). sum f s A z B D) w.0
    ∙ sum_is f s A t B D
    ∙ ap (λ (z : Bool). round f z (magn s A t B) D) (sign_scale s A t B D a b c D+ C p q)
    ∙ round_same f (sign s a t b) (magn s A t B) D (magn s a t b) c D+ C (magn_scale s A t B D a b c D+ C p q)

-- ---- a finite result did not overflow, and back
pub finite_under : (f : Format) (s : Bool) (a c : ℕ) → T (finite (round f s a c)) → grid f a c < overflow f
unfolding round units
finite_under f s a c t = go (ltb (grid f a c) (overflow f)) (ltb→lt (grid f a c) (overflow f)) t
  where
    q : ℕ
    q = kept (prec f) (a * 2 ^ low f) c

    k : ℕ
    k = drop (prec f) (a * 2 ^ low f) c

    go : (b : Bool) → (T b → grid f a c < overflow f) → T (finite (cond b (odd (suc (prec f)) s q k (low f)) (inf s))) → grid f a c < overflow f
    go true h u = h tt
    go false h u = absurd u

-- ---- the sum, then the half
pub sum_then_half : (f : Format) (x y : Float) (s : Bool) (a : ℕ) (t : Bool) (b : ℕ) → HasValue x s a (2 ^ low f) → HasValue y t b (2 ^ low f) → T (finite (add f x y))
    → mul f (add f x y) half ≡ sum f s a t b (2 ^ low f * 2)
sum_then_half f x y s a t b v w h =
    let U = 2 ^ low f in
    let e : add f x y ≡ round f (sign s a t b) (magn s a t b) U = add_at f x y s a t b U (pow_pos (low f)) v w in
    ap (λ (z : Float). mul f z half) e
    ∙ half_round f (sign s a t b) (magn s a t b) (finite_under f (sign s a t b) (magn s a t b) U (subst (λ (z : Float). T (finite z)) e h))
    ∙ sym (sum_is f s a t b (U * 2))

-- ---- the halves, then the sum
-- a value of 2 ^ prec units or more is halved exactly
no_less : (m p : ℕ) → m < p → p ≤ m * 1 → ⊥
no_less m p h k = omega arith

pub half_exact : (f : Format) (x : Float) (s : Bool) (m j : ℕ) → m < 2 ^ prec f → m * 2 ^ j < overflow f → HasValue x s (m * 2 ^ j) (2 ^ low f) → 2 ^ prec f ≤ m * 2 ^ j
    → HasValue (mul f x half) s (m * 2 ^ j) (2 ^ low f * 2)
half_exact f x s m zero d u v h = absurd (no_less m (2 ^ prec f) d h)
half_exact f x s m (suc i) d u v h =
    let U = 2 ^ low f in
    let e : m * 2 ^ suc i ≡ m * 2 ^ i * 2 = ap (λ (z : ℕ). m * z) (pow-suc 2 i) ∙ sym (mul_assoc m (2 ^ i) 2) in
    subst (λ (z : Float). HasValue z s (m * 2 ^ suc i) (U * 2)) (sym (mul_half f x s (m * 2 ^ suc i) U (pow_pos (low f)) v))
    (round_exact f s (m * 2 ^ suc i) (U * 2) m i (mul-pos (pow_pos (low f)) (zero-lt-suc 1)) d (half_less (m * 2 ^ i) (overflow f) (subst (λ (z : ℕ). z < overflow f) e u))
    (ap (λ (z : ℕ). z * U) e ∙ mul_assoc (m * 2 ^ i) 2 U ∙ ap (λ (z : ℕ). m * 2 ^ i * z) (mul_comm 2 U)))

-- the largest_finite finite value, in units
pub at_most_max : (p h m j : ℕ) → m < 2 ^ p → m * 2 ^ j < 2 ^ (p + h) → m * 2 ^ j ≤ (2 ^ p - 1) * 2 ^ h
at_most_max p h m j d u = go (leb j h) (leb→le j h) (nleb→lt j h)
  where
    high : h ≤ j → m * 2 ^ j ≤ (2 ^ p - 1) * 2 ^ h
    high g =
        let e : m * 2 ^ j ≡ m * 2 ^ (j - h) * 2 ^ h = ap (λ (z : ℕ). m * z) (ap (λ (z : ℕ). 2 ^ z) (sym (back j h g)) ∙ pow-add 2 (j - h) h) ∙ sym (mul_assoc m (2 ^ (j - h)) (2 ^ h)) in
        let l : m * 2 ^ (j - h) < 2 ^ p = lt_of_mul-lt-mul_right (2 ^ h) (subst (λ (z : ℕ). m * 2 ^ (j - h) * 2 ^ h < z) (pow-add 2 p h) (subst (λ (z : ℕ). z < 2 ^ (p + h)) e u)) in
        le_trans (le_of_eq e) (mul-le-mul_right (2 ^ h) (at_most_pred (m * 2 ^ (j - h)) (2 ^ p) l))

    go : (b : Bool) → (T b → j ≤ h) → (T (not b) → h < j) → m * 2 ^ j ≤ (2 ^ p - 1) * 2 ^ h
    go true a b = le_trans (mul-le-mul_right (2 ^ j) (at_most_pred m (2 ^ p) d)) (mul-le-mul_left (2 ^ p - 1) (pow_mono (a tt)))
    go false a b = high (le_of_lt (b tt))

abbrev U64 : ℕ
U64 = 2 ^ low binary64

-- the largest_finite finite value and 2 ^ 53 units more still round to a finite value
abbrev brim : ℕ
brim = (2 ^ 53 - 1) * 2 ^ 2045 + 2 ^ 53

brim_finite : T (finite (round binary64 false brim U64))
unfolding round
brim_finite = tt

pub le_finite : (f : Format) (a c : ℕ) (y : Float) → T (le (round f false a c) y) → T (finite y) → grid f a c < overflow f
unfolding round units le
le_finite f a c nan h t = absurd t
le_finite f a c (inf u) h t = absurd t
le_finite f a c (fin u n d) h t = go (ltb (grid f a c) (overflow f)) (ltb→lt (grid f a c) (overflow f)) h
  where
    q : ℕ
    q = kept (prec f) (a * 2 ^ low f) c

    k : ℕ
    k = drop (prec f) (a * 2 ^ low f) c

    go : (b : Bool) → (T b → grid f a c < overflow f) → T (le (cond b (odd (suc (prec f)) false q k (low f)) (inf false)) (fin u n d)) → grid f a c < overflow f
    go true z v = z tt
    go false z v = absurd v

below_brim : (N : ℕ) → N ≤ brim → grid binary64 N U64 < overflow binary64
below_brim N h = le_finite binary64 N U64 (round binary64 false brim U64) (round_mono binary64 N U64 brim U64 (pow_pos (low binary64)) (pow_pos (low binary64)) (mul-le-mul_right U64 h)) brim_finite

pub under_finite : (f : Format) (s : Bool) (a c : ℕ) → grid f a c < overflow f → T (finite (round f s a c))
under_finite f s a c h = go (round f s a c) (round_val f s a c h)
  where
    go : (x : Float) → HasValue x s (grid f a c) (2 ^ low f) → T (finite x)
    go nan v = absurd v
    go (inf u) v = absurd v
    go (fin u m e) v = tt

pub magn_le : (s : Bool) (a : ℕ) (t : Bool) (b : ℕ) → magn s a t b ≤ a + b
magn_le s a t b = go (beq s t) (ltb a b)
  where
    l1 : (a b : ℕ) → a + b ≤ a + b
    l1 a b = omega arith

    l2 : (a b : ℕ) → b - a ≤ a + b
    l2 a b = omega arith

    l3 : (a b : ℕ) → a - b ≤ a + b
    l3 a b = omega arith

    go : (x y : Bool) → cond x (a + b) (cond y (b - a) (a - b)) ≤ a + b
    go true y = l1 a b
    go false true = l2 a b
    go false false = l3 a b

not_lt→le : (a b : ℕ) → (a < b → ⊥) → b ≤ a
not_lt→le a b h = le_of_suc-le-suc (lt_of_not-le h)

room_left : (a b M P : ℕ) → a < P → b ≤ M → a + b ≤ M + P
room_left a b M P h k = omega arith

room_right : (a b M P : ℕ) → b < P → a ≤ M → a + b ≤ M + P
room_right a b M P h k = omega arith

-- where a sum overflows, both sides are at least 2 ^ 53 units
pub halves_then_sum : (x y : Float) (s t : Bool) (p : Placed binary64 s x) (q : Placed binary64 t y) → T (not (finite (add binary64 x y)))
    → add binary64 (mul binary64 x half) (mul binary64 y half) ≡ sum binary64 s (p.m * 2 ^ p.j) t (q.m * 2 ^ q.j) (U64 * 2)
halves_then_sum x y s t p q n =
    let a = p.m * 2 ^ p.j in
    let b = q.m * 2 ^ q.j in
    let a≤ : a ≤ (2 ^ 53 - 1) * 2 ^ 2045 = at_most_max 53 2045 p.m p.j p.digits p.under in
    let b≤ : b ≤ (2 ^ 53 - 1) * 2 ^ 2045 = at_most_max 53 2045 q.m q.j q.digits q.under in
    let over : a + b ≤ brim → ⊥ = λ (h : a + b ≤ brim).
    T_not (finite (add binary64 x y)) n
    (subst (λ (z : Float). T (finite z)) (sym (add_at binary64 x y s a t b U64 (pow_pos (low binary64)) p.value q.value))
    (under_finite binary64 (sign s a t b) (magn s a t b) U64 (below_brim (magn s a t b) (le_trans (magn_le s a t b) h)))) in
    let a≥ : 2 ^ 53 ≤ a = not_lt→le a (2 ^ 53) (λ (h : a < 2 ^ 53). over (room_left a b ((2 ^ 53 - 1) * 2 ^ 2045) (2 ^ 53) h b≤)) in
    let b≥ : 2 ^ 53 ≤ b = not_lt→le b (2 ^ 53) (λ (h : b < 2 ^ 53). over (room_right a b ((2 ^ 53 - 1) * 2 ^ 2045) (2 ^ 53) h a≤)) in
    add_at binary64 (mul binary64 x half) (mul binary64 y half) s a t b (U64 * 2) (mul-pos (pow_pos (low binary64)) (zero-lt-suc 1))
    (half_exact binary64 x s p.m p.j p.digits p.under p.value a≥)
    (half_exact binary64 y t q.m q.j q.digits q.under q.value b≥)
    ∙ sym (sum_is binary64 s a t b (U64 * 2))
