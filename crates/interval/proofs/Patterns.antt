-- The order of bit patterns is the order of the values: of two patterns without a sign, up to the infinity's, the larger stands for
-- the larger value (`at_mono`); with the sign set it is the other way round. Assumes nothing.
use Rattle.std.proofs.Common.{◌≡◌, ℕ, zero, suc, ◌+◌, ◌*◌, ◌/◌, ◌%◌, ◌^◌, ◌<◌, ◌≤◌, Bool, true, false, cond, not, ◌&&◌, ◌||◌, T, eqb, ltb, leb, ◌⊎◌, sym, refl, ap, ◌∙◌, subst, inl, inr, true≢false, le_trans, le_of_eq, le_of_suc-le-suc, le-add_right, not-suc-le-zero, lt_of_le_of_lt, le_of_lt, mul-le-mul_right, mod-lt, mul_assoc, mul_comm, div-lt_iff_lt-mul, add_comm, eq-or-lt_of_le, mul-le-mul_left, pow-suc, div-add-mod', arith, eqb→eq, pow_pos, pow_mono}
use lib.Dec.{not_T}
use lib.Pow.{shr_mono, mod-mod-pow}
use lib.Ieee.{Float, nan, inf, fin, binary64, up, down, odd, of_fields, of_bits, neg, le, below, level}
use lib.Ieee.Fits.{eq→eqb, and_i, and_l, and_r}
use lib.Ieee.Bits.{cond_no}
use lib.Ieee.Exact.{HasValue, odd_sign}
use lib.Ieee.Order.{le_of_values}

abbrev pub infinite : ℕ
infinite = 0x7ff0_0000_0000_0000

-- the value of a sign and the 63 bits below it
abbrev pub at : Bool → ℕ → Float
at s p = of_fields binary64 s (p / 2 ^ 52) (p % 2 ^ 52)

-- its size in units: a field of 0 has no leading digit, and counts as a field of 1
abbrev pub field_units : ℕ → ℕ → ℕ
field_units zero t = t * 2 ^ 0
field_units (suc x) t = (2 ^ 52 + t) * 2 ^ x

abbrev pub units_at : ℕ → ℕ
units_at p = field_units (p / 2 ^ 52) (p % 2 ^ 52)

no_ones : (x : ℕ) → x < 2047 → x ≡ 2047 → ⊥
no_ones x h e = omega arith

fields_value : (s : Bool) (x t : ℕ) → x < 2047 → HasValue (of_fields binary64 s x t) s (field_units x t) (2 ^ 1074)
unfolding of_fields
fields_value s zero t h = odd_sign 53 s t 0 1074
fields_value s (suc x) t h =
    subst (λ (z : Float). HasValue z s ((2 ^ 52 + t) * 2 ^ x) (2 ^ 1074)) (sym (cond_no (eqb (suc x) 2047) (cond (eqb t 0) (inf s) nan) (odd 53 s (2 ^ 52 + t) x 1074) (not_T (eqb (suc x) 2047) (λ (u : T (eqb (suc x) 2047)). no_ones (suc x) h (eqb→eq (suc x) 2047 u)))))
    (odd_sign 53 s (2 ^ 52 + t) x 1074)

pub at_value : (s : Bool) (p : ℕ) → p < infinite → HasValue (at s p) s (units_at p) (2 ^ 1074)
at_value s p h = fields_value s (p / 2 ^ 52) (p % 2 ^ 52) ((div-lt_iff_lt-mul (pow_pos 52)).1 h)

pub at_infinite : (s : Bool) → at s infinite ≡ inf s
unfolding of_fields
at_infinite s = refl

-- ---- the order
add_le : (a b c : ℕ) → b ≤ c → a + b ≤ a + c
add_le a b c h = omega arith

same_field : (x t u : ℕ) → t ≤ u → field_units x t ≤ field_units x u
same_field zero t u h = mul-le-mul_right (2 ^ 0) h
same_field (suc x) t u h = mul-le-mul_right (2 ^ x) (add_le (2 ^ 52) t u h)

grow : (h t : ℕ) → t < h → h + t ≤ h * 2
grow h t k = omega arith

below_next : (x t : ℕ) → t < 2 ^ 52 → field_units x t ≤ 2 ^ 52 * 2 ^ x
below_next zero t h = mul-le-mul_right (2 ^ 0) (le_of_lt h)
below_next (suc x) t h =
    le_trans (mul-le-mul_right (2 ^ x) (grow (2 ^ 52) t h)) (le_of_eq (mul_assoc (2 ^ 52) 2 (2 ^ x) ∙ ap (λ (z : ℕ). 2 ^ 52 * z) (mul_comm 2 (2 ^ x) ∙ sym (pow-suc 2 x))))

other_field : (x t y u : ℕ) → t < 2 ^ 52 → x < y → field_units x t ≤ field_units y u
other_field x t zero u h l = absurd (not-suc-le-zero l)
other_field x t (suc y) u h l = le_trans (below_next x t h) (le_trans (mul-le-mul_left (2 ^ 52) (pow_mono (le_of_suc-le-suc l))) (mul-le-mul_right (2 ^ y) (le-add_right (2 ^ 52) u)))

digits_le : (k t u p q : ℕ) → k + t ≡ p → k + u ≡ q → p ≤ q → t ≤ u
digits_le k t u p q a b h = omega arith

pub units_mono : (p q : ℕ) → p ≤ q → units_at p ≤ units_at q
units_mono p q h = go (eq-or-lt_of_le (shr_mono 52 h))
  where
    go : (p / 2 ^ 52 ≡ q / 2 ^ 52) ⊎ (p / 2 ^ 52 < q / 2 ^ 52) → units_at p ≤ units_at q
    go (inl e) =
        subst (λ (z : ℕ). field_units z (p % 2 ^ 52) ≤ units_at q) (sym e)
        (same_field (q / 2 ^ 52) (p % 2 ^ 52) (q % 2 ^ 52) (digits_le (q / 2 ^ 52 * 2 ^ 52) (p % 2 ^ 52) (q % 2 ^ 52) p q (ap (λ (z : ℕ). z * 2 ^ 52 + p % 2 ^ 52) (sym e) ∙ div-add-mod' p (2 ^ 52)) (div-add-mod' q (2 ^ 52)) h))
    go (inr l) = other_field (p / 2 ^ 52) (p % 2 ^ 52) (q / 2 ^ 52) (q % 2 ^ 52) (mod-lt p (pow_pos 52)) l

value_le_inf : (x : Float) (a c : ℕ) → HasValue x false a c → T (le x (inf false))
unfolding le
value_le_inf nan a c v = absurd v
value_le_inf (inf s) a c v = absurd v
value_le_inf (fin true m e) a c v = absurd (true≢false v.0)
value_le_inf (fin false m e) a c v = tt

inf_le_inf : T (le (inf false) (inf false))
unfolding le
inf_le_inf = tt

pub at_mono : (p q : ℕ) → p ≤ q → q ≤ infinite → T (le (at false p) (at false q))
at_mono p q h k = go (eq-or-lt_of_le k)
  where
    low_end : (p ≡ infinite) ⊎ (p < infinite) → T (le (at false p) (inf false))
    low_end (inl e) = subst (λ (z : Float). T (le z (inf false))) (sym (ap (at false) e ∙ at_infinite false)) inf_le_inf
    low_end (inr l) = value_le_inf (at false p) (units_at p) (2 ^ 1074) (at_value false p l)

    go : (q ≡ infinite) ⊎ (q < infinite) → T (le (at false p) (at false q))
    go (inl e) = subst (λ (z : Float). T (le (at false p) z)) (sym (ap (at false) e ∙ at_infinite false)) (low_end (eq-or-lt_of_le (le_trans h k)))
    go (inr l) =
        le_of_values (at false p) (at false q) (units_at p) (2 ^ 1074) (units_at q) (2 ^ 1074) (pow_pos 1074) (pow_pos 1074) (at_value false p (lt_of_le_of_lt h l)) (at_value false q l)
        (mul-le-mul_right (2 ^ 1074) (units_mono p q h))

-- ---- with the sign set
neg_odd : (d q k l : ℕ) → odd d true q k l ≡ neg (odd d false q k l)
unfolding odd neg
neg_odd d zero k l = refl
neg_odd d (suc q) k l = refl

neg_cond : (b c : Bool) (x y : Float) → x ≡ neg y → cond b (cond c (inf true) nan) x ≡ neg (cond b (cond c (inf false) nan) y)
unfolding neg
neg_cond true true x y e = refl
neg_cond true false x y e = refl
neg_cond false c x y e = e

neg_fields : (x t : ℕ) → of_fields binary64 true x t ≡ neg (of_fields binary64 false x t)
unfolding of_fields
neg_fields zero t = neg_odd 53 t 0 1074
neg_fields (suc x) t = neg_cond (eqb (suc x) 2047) (eqb t 0) (odd 53 true (2 ^ 52 + t) x 1074) (odd 53 false (2 ^ 52 + t) x 1074) (neg_odd 53 (2 ^ 52 + t) x 1074)

pub at_neg : (p : ℕ) → at true p ≡ neg (at false p)
at_neg p = neg_fields (p / 2 ^ 52) (p % 2 ^ 52)

eqb_swap : (a b : ℕ) → T (eqb a b) → T (eqb b a)
eqb_swap a b t = eq→eqb (sym (eqb→eq a b t))

or_map : (a b a' b' : Bool) → (T a → T a') → (T b → T b') → T (a || b) → T (a' || b')
or_map true b true b' f g h = tt
or_map true b false b' f g h = absurd (f tt)
or_map false b true b' f g h = tt
or_map false b false b' f g h = g h

and_swap : (a b : ℕ) (c c' : Bool) → (a ≡ b → T c → T c') → T (eqb a b && c) → T (eqb b a && c')
and_swap a b c c' f h = and_i (eqb b a) c' (eqb_swap a b (and_l (eqb a b) c h)) (f (eqb→eq a b (and_l (eqb a b) c h)) (and_r (eqb a b) c h))

zero_too : (a b : ℕ) → a ≡ b → T (eqb a 0) → T (eqb b 0)
zero_too a b e t = eq→eqb (sym e ∙ eqb→eq a 0 t)

order_neg : (s : Bool) (a : ℕ) (t : Bool) (b : ℕ) → T (below s a t b || level s a t b) → T (below (not t) b (not s) a || level (not t) b (not s) a)
order_neg false a false b h = or_map (ltb a b) (eqb a b && true) (ltb a b) (eqb b a && true) (λ t. t) (and_swap a b true true (λ e t. t)) h
order_neg false a true b h = and_swap a b (eqb a 0) (eqb b 0) (zero_too a b) h
order_neg true a false b h = or_map (ltb 0 (a + b)) (eqb a b && eqb a 0) (ltb 0 (b + a)) (eqb b a && eqb b 0) (λ t. subst (λ (z : ℕ). T (ltb 0 z)) (add_comm a b) t) (and_swap a b (eqb a 0) (eqb b 0) (zero_too a b)) h
order_neg true a true b h = or_map (ltb b a) (eqb a b && true) (ltb b a) (eqb b a && true) (λ t. t) (and_swap a b true true (λ e t. t)) h

-- negation turns the order round
pub le_neg : (x y : Float) → T (le x y) → T (le (neg y) (neg x))
unfolding le neg
le_neg nan y h = absurd h
le_neg (inf true) nan h = absurd h
le_neg (inf false) nan h = absurd h
le_neg (inf true) (inf true) h = tt
le_neg (inf true) (inf false) h = tt
le_neg (inf false) (inf true) h = absurd h
le_neg (inf false) (inf false) h = tt
le_neg (inf true) (fin t n d) h = tt
le_neg (inf false) (fin t n d) h = absurd h
le_neg (fin s m e) nan h = absurd h
le_neg (fin s m e) (inf true) h = absurd h
le_neg (fin s m e) (inf false) h = tt
le_neg (fin s m e) (fin t n d) h = order_neg s (m * up e * down d) t (n * up d * down e) h

pub neg_neg : (x : Float) → neg (neg x) ≡ x
unfolding neg
neg_neg nan = refl
neg_neg (inf true) = refl
neg_neg (inf false) = refl
neg_neg (fin true m e) = refl
neg_neg (fin false m e) = refl

pub at_mono_neg : (p q : ℕ) → p ≤ q → q ≤ infinite → T (le (at true q) (at true p))
at_mono_neg p q h k = subst (λ (z : Float). T (le z (at true p))) (sym (at_neg q)) (subst (λ (z : Float). T (le (neg (at false q)) z)) (sym (at_neg p)) (le_neg (at false p) (at false q) (at_mono p q h k)))

-- the value of a pattern, by its sign and the rest
pub of_bits_at : (b : ℕ) → of_bits binary64 b ≡ at (leb (2 ^ 63) b) (b % 2 ^ 63)
unfolding of_bits
of_bits_at b = ap (λ (z : ℕ). of_fields binary64 (leb (2 ^ 63) b) (b % 2 ^ 63 / 2 ^ 52) z) (sym (mod-mod-pow b 11 52))
