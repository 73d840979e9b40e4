-- The simple fraction lies between the bounds (`fraction_inside`): patterns are ordered as their values are, and clearing the bits
-- below the first in which two differ keeps the larger above the smaller. Assumes nothing.
use Rattle.std.proofs.Common.{◌≡◌, ℕ, zero, suc, ◌+◌, ◌-◌, ◌*◌, ◌/◌, ◌%◌, ◌^◌, ◌<◌, ◌≤◌, Bool, true, false, cond, not, ◌&&◌, T, eqb, leb, ◌⊎◌, pos, neg_ℤ, sym, refl, ap, ◌∙◌, subst, inl, inr, ⊎_elim, true≢false, zero-le, le_trans, le_of_eq, le_refl, lt_of_lt_of_le, le_of_suc-le-suc, le-add_right, not-suc-le-zero, lt_of_le_of_lt, le_of_lt, mul-le-mul_right, mod-lt, mul_assoc, mul_comm, eq-zero-or-pos, eq-or-lt_of_le, mul-le-mul_left, mul-lt-mul_of_pos_right, pow-suc, lt_of_not-le, div-add-mod', zero-mul, not-le_of_lt, div-mul-le_self, arith, le→leb, eqb→eq, leb→le, pow_pos, pow_mono}
use mathlib.Core.Bool.{false≢true}
use lib.Signed.{le_z}
use lib.Dec.{nleb→lt}
use lib.Pow.{shr_mono}
use lib.Bits.{bit_xor, xor_comm, xor_lt}
use lib.Count.{count_leading_zeros, leading_top, leading_of_zero}
use lib.Ieee.{Float, nan, inf, fin, binary64, up, down, neg, le, lt, to_bits, of_bits, of_fields, odd, fits}
use lib.Ieee.Fits.{eq→eqb, and_l, and_r, down_pos}
use lib.Ieee.Bits.{is_true}
use lib.Ieee.Exact.{HasValue}
use Rattle.base.proofs.Test.{≡→T}
use Rattle.interval.proofs.Naturals.{at_most_zero, add_lt, first_zero}
use Rattle.interval.specs.declared.Interval.{Interval}
use Rattle.interval.specs.Bounds.{legal_bounds, legal_interval, InFormat}
use Rattle.interval.specs.Fraction.{top_bits, shared_bits, simple_fraction}
use Rattle.interval.proofs.Legality.{legal_bounds_lem}
use Rattle.interval.proofs.Compare.{le_at}
use Rattle.interval.proofs.Patterns.{infinite, at, field_units, units_at, at_value, at_infinite, at_mono, at_mono_neg, at_neg, le_neg, neg_neg}
use Rattle.interval.proofs.TopBits.{pattern, cut_rest, cut_same_sign, cut_le, cut_at, cut_above, not_all, frac_same, frac_other, lower_number, upper_number}
use Rattle.interval.proofs.UnitsOrder.{le_is}
use Rattle.interval.proofs.HalfBetween.{Signed, minus_le_plus}
use Rattle.interval.proofs.CutUpTo.{inf_not_below}

-- ---- the order of patterns, strictly
same_strict : (x t u : ℕ) → t < u → field_units x t < field_units x u
same_strict zero t u h = mul-lt-mul_of_pos_right h (pow_pos 0)
same_strict (suc x) t u h = mul-lt-mul_of_pos_right (add_lt (2 ^ 52) t u h) (pow_pos x)

grow : (h t : ℕ) → t < h → h + t < h * 2
grow h t k = omega arith

next_strict : (x t : ℕ) → t < 2 ^ 52 → field_units x t < 2 ^ 52 * 2 ^ x
next_strict zero t h = mul-lt-mul_of_pos_right h (pow_pos 0)
next_strict (suc x) t h = lt_of_lt_of_le (mul-lt-mul_of_pos_right (grow (2 ^ 52) t h) (pow_pos x)) (le_of_eq (mul_assoc (2 ^ 52) 2 (2 ^ x) ∙ ap (λ (z : ℕ). 2 ^ 52 * z) (mul_comm 2 (2 ^ x) ∙ sym (pow-suc 2 x))))

other_strict : (x t y u : ℕ) → t < 2 ^ 52 → x < y → field_units x t < field_units y u
other_strict x t zero u h l = absurd (not-suc-le-zero l)
other_strict x t (suc y) u h l = lt_of_lt_of_le (next_strict x t h) (le_trans (mul-le-mul_left (2 ^ 52) (pow_mono (le_of_suc-le-suc l))) (mul-le-mul_right (2 ^ y) (le-add_right (2 ^ 52) u)))

digits_lt : (k t u p q : ℕ) → k + t ≡ p → k + u ≡ q → p < q → t < u
digits_lt k t u p q a b h = omega arith

pub units_strict : (p q : ℕ) → p < q → units_at p < units_at q
units_strict p q h = go (eq-or-lt_of_le (shr_mono 52 (le_of_lt h)))
  where
    go : (p / 2 ^ 52 ≡ q / 2 ^ 52) ⊎ (p / 2 ^ 52 < q / 2 ^ 52) → units_at p < units_at q
    go (inl e) =
        subst (λ (z : ℕ). field_units z (p % 2 ^ 52) < units_at q) (sym e)
        (same_strict (q / 2 ^ 52) (p % 2 ^ 52) (q % 2 ^ 52) (digits_lt (q / 2 ^ 52 * 2 ^ 52) (p % 2 ^ 52) (q % 2 ^ 52) p q (ap (λ (z : ℕ). z * 2 ^ 52 + p % 2 ^ 52) (sym e) ∙ div-add-mod' p (2 ^ 52)) (div-add-mod' q (2 ^ 52)) h))
    go (inr l) = other_strict (p / 2 ^ 52) (p % 2 ^ 52) (q / 2 ^ 52) (q % 2 ^ 52) (mod-lt p (pow_pos 52)) l

-- so the order of two values is that of their patterns
pub order_back : (p q : ℕ) → p ≤ infinite → q ≤ infinite → T (le (at false p) (at false q)) → p ≤ q
order_back p q P Q h = le_of_suc-le-suc (lt_of_not-le (λ (g : suc q ≤ p). no g (eq-or-lt_of_le P)))
  where
    no : q < p → (p ≡ infinite) ⊎ (p < infinite) → ⊥
    no g (inl e) = inf_not_below (at false q) (units_at q) (2 ^ 1074) (at_value false q (lt_of_lt_of_le g P)) (subst (λ (z : Float). T (le z (at false q))) (ap (at false) e ∙ at_infinite false) h)
    no g (inr l) =
        not-le_of_lt (units_strict q p g)
        (leb→le (units_at p) (units_at q) (subst T (le_at (at false p) (at false q) false (units_at p) false (units_at q) (2 ^ 1074) (pow_pos 1074) (at_value false p l) (at_value false q (lt_of_lt_of_le g P)) ∙ le_is false (units_at p) false (units_at q)) h))

pub order_back_neg : (p q : ℕ) → p ≤ infinite → q ≤ infinite → T (le (at true p) (at true q)) → q ≤ p
order_back_neg p q P Q h =
    order_back q p Q P
    (subst (λ (z : Float). T (le z (at false p))) (ap neg (at_neg q) ∙ neg_neg (at false q))
    (subst (λ (z : Float). T (le (neg (at true q)) z)) (ap neg (at_neg p) ∙ neg_neg (at false p)) (le_neg (at true p) (at true q) h)))

-- ---- signs
value_signed : (x : Float) (s : Bool) (a c : ℕ) → HasValue x s a c → Signed x s
value_signed nan s a c v = v
value_signed (inf t) s a c v = absurd v
value_signed (fin t m e) s a c v = v.0

at_signed : (s : Bool) (p : ℕ) → p ≤ infinite → Signed (at s p) s
at_signed s p h = go (eq-or-lt_of_le h)
  where
    go : (p ≡ infinite) ⊎ (p < infinite) → Signed (at s p) s
    go (inl e) = subst (λ (z : Float). Signed z s) (sym (ap (at s) e ∙ at_infinite s)) refl
    go (inr l) = value_signed (at s p) s (units_at p) (2 ^ 1074) (at_value s p l)

-- a value with no sign that is at most one with a sign is a zero
plus_le_minus : (x y : Float) → Signed x false → Signed y true → T (le x y) → T (le x (fin false 0 (pos 0)))
unfolding le
plus_le_minus nan y p q h = absurd p
plus_le_minus (inf true) y p q h = absurd (true≢false p)
plus_le_minus (inf false) nan p q h = absurd q
plus_le_minus (inf false) (inf true) p q h = absurd h
plus_le_minus (inf false) (inf false) p q h = absurd (false≢true q)
plus_le_minus (inf false) (fin t n d) p q h = absurd h
plus_le_minus (fin true m e) y p q h = absurd (true≢false p)
plus_le_minus (fin false m e) nan p q h = absurd q
plus_le_minus (fin false m e) (inf true) p q h = absurd h
plus_le_minus (fin false m e) (inf false) p q h = absurd (false≢true q)
plus_le_minus (fin false m e) (fin false n d) p q h = absurd (false≢true q)
plus_le_minus (fin false m e) (fin true n d) p q h =
    let A = m * up e * down d in
    let B = n * up d * down e in
    let z : m * up e ≡ 0 = first_zero (m * up e) (down d) (down_pos d) (eqb→eq A 0 (and_r (eqb A B) (eqb A 0) h)) in
    subst T (sym (le_is false (m * up e * 1) false (0 * 1 * down e))) (le→leb (m * up e * 1) (0 * 1 * down e) (le_of_eq (ap (λ (k : ℕ). k * 1) z ∙ sym (zero-mul (down e)))))

-- ---- the highest bit that differs
pub high_bit : (a b : ℕ) → a < 2 ^ 64 → b < 2 ^ 64 → (shared_bits a b ≡ 64 → ⊥) → 2 ^ (63 - shared_bits a b) ≤ bit_xor a b
high_bit a b A B n = ⊎_elim (λ (z : bit_xor a b ≡ 0). absurd (n (ap (count_leading_zeros 64) z ∙ leading_of_zero 64))) some (eq-zero-or-pos (bit_xor a b))
  where
    same : (l j : ℕ) → l + suc j ≡ 64 → j ≡ 63 - l
    same l j h = omega arith

    some : 0 < bit_xor a b → 2 ^ (63 - shared_bits a b) ≤ bit_xor a b
    some h = let t = leading_top 64 (bit_xor a b) h (xor_lt 64 a b A B) in subst (λ (k : ℕ). 2 ^ k ≤ bit_xor a b) (same (shared_bits a b) t.0 t.1) t.2

-- ---- a pattern and its sign
signed_rest : (w : ℕ) → 2 ^ 63 ≤ w → w < 2 ^ 64 → w % 2 ^ 63 + 2 ^ 63 ≡ w
signed_rest w h k = omega arith

plain_rest : (w : ℕ) → w < 2 ^ 63 → w % 2 ^ 63 ≡ w
plain_rest w h = omega arith

less_low : (p q m : ℕ) → q + m ≤ p + m → q ≤ p
less_low p q m h = omega arith

sign_case : (w : ℕ) → (leb (2 ^ 63) w ≡ true) ⊎ (leb (2 ^ 63) w ≡ false)
sign_case w = go (leb (2 ^ 63) w)
  where
    go : (b : Bool) → (b ≡ true) ⊎ (b ≡ false)
    go true = inl refl
    go false = inr refl

ge_of : (w : ℕ) → leb (2 ^ 63) w ≡ true → 2 ^ 63 ≤ w
ge_of w e = leb→le (2 ^ 63) w (subst T (sym e) tt)

lt_of : (w : ℕ) → leb (2 ^ 63) w ≡ false → w < 2 ^ 63
lt_of w e = nleb→lt (2 ^ 63) w (subst (λ (b : Bool). T (not b)) (sym e) tt)

-- with the same sign, the larger pattern's rest, cut, is no less than the smaller's rest
cut_signed : (a b n : ℕ) → a < 2 ^ 64 → b < 2 ^ 64 → n ≤ 63 → leb (2 ^ 63) a ≡ true → leb (2 ^ 63) b ≡ true → b % 2 ^ 63 ≤ a % 2 ^ 63 → 2 ^ (63 - n) ≤ bit_xor a b
    → b % 2 ^ 63 ≤ a % 2 ^ 63 / 2 ^ (63 - n) * 2 ^ (63 - n)
cut_signed a b n A B N sa sb h d =
    let ba : b ≤ a = subst (λ (z : ℕ). z ≤ a) (signed_rest b (ge_of b sb) B) (subst (λ (z : ℕ). b % 2 ^ 63 + 2 ^ 63 ≤ z) (signed_rest a (ge_of a sa) A) (add_le (2 ^ 63) (b % 2 ^ 63) (a % 2 ^ 63) h)) in
    let c : b ≤ top_bits n a = cut_above a b (63 - n) ba d in
    let r : top_bits n a % 2 ^ 63 + 2 ^ 63 ≡ top_bits n a = signed_rest (top_bits n a) (ge_of (top_bits n a) (cut_same_sign n a N ∙ sa)) (lt_of_le_of_lt (cut_le n a) A) in
    subst (λ (z : ℕ). b % 2 ^ 63 ≤ z) (cut_rest n a N) (less_low (top_bits n a % 2 ^ 63) (b % 2 ^ 63) (2 ^ 63) (subst (λ (z : ℕ). b % 2 ^ 63 + 2 ^ 63 ≤ z) (sym r) (subst (λ (z : ℕ). z ≤ top_bits n a) (sym (signed_rest b (ge_of b sb) B)) c)))
  where
    add_le : (m q p : ℕ) → q ≤ p → q + m ≤ p + m
    add_le m q p h = omega arith

cut_plain : (a b n : ℕ) → n ≤ 63 → leb (2 ^ 63) a ≡ false → leb (2 ^ 63) b ≡ false → b % 2 ^ 63 ≤ a % 2 ^ 63 → 2 ^ (63 - n) ≤ bit_xor a b → b % 2 ^ 63 ≤ a % 2 ^ 63 / 2 ^ (63 - n) * 2 ^ (63 - n)
cut_plain a b n N sa sb h d =
    let ea = plain_rest a (lt_of a sa) in
    let eb = plain_rest b (lt_of b sb) in
    subst (λ (z : ℕ). z ≤ a % 2 ^ 63 / 2 ^ (63 - n) * 2 ^ (63 - n)) (sym eb) (subst (λ (z : ℕ). b ≤ z / 2 ^ (63 - n) * 2 ^ (63 - n)) (sym ea) (cut_above a b (63 - n) (subst (λ (z : ℕ). b ≤ z) ea (subst (λ (z : ℕ). z ≤ a % 2 ^ 63) eb h)) d))

le_self : (x y : Float) → T (le x y) → T (le x x)
unfolding le
le_self nan y h = absurd h
le_self (inf true) y h = tt
le_self (inf false) y h = tt
le_self (fin true m e) y h = subst T (sym (le_is true (m * up e * down e) true (m * up e * down e))) (refl_le_z (m * up e * down e))
  where
    refl_le_z : (n : ℕ) → T (le_z (neg_ℤ (pos n)) (neg_ℤ (pos n)))
    refl_le_z zero = tt
    refl_le_z (suc n) = le→leb n n (le_refl n)
le_self (fin false m e) y h = subst T (sym (le_is false (m * up e * down e) false (m * up e * down e))) (le→leb (m * up e * down e) (m * up e * down e) (le_refl (m * up e * down e)))

abbrev Inside : Float → Float → Float → Type 0
Inside x y r = T (le x r) × T (le r y)

zero_at : at false 0 ≡ fin false 0 (pos 0)
unfolding of_fields odd
zero_at = refl

zero_cut : (k : ℕ) → 0 / 2 ^ k * 2 ^ k ≡ 0
zero_cut k = at_most_zero (0 / 2 ^ k * 2 ^ k) (div-mul-le_self 0 (2 ^ k))

-- all by patterns: x and y are `at` their signs and rests
by_patterns : (a b n : ℕ) → a < 2 ^ 64 → b < 2 ^ 64 → a % 2 ^ 63 ≤ infinite → b % 2 ^ 63 ≤ infinite → n ≤ 63 → 2 ^ (63 - n) ≤ bit_xor a b
    → T (le (at (leb (2 ^ 63) a) (a % 2 ^ 63)) (at (leb (2 ^ 63) b) (b % 2 ^ 63)))
    → (t : Bool) → le (at (leb (2 ^ 63) a) (a % 2 ^ 63)) (fin false 0 (pos 0)) ≡ t
    → Inside (at (leb (2 ^ 63) a) (a % 2 ^ 63)) (at (leb (2 ^ 63) b) (b % 2 ^ 63)) (of_bits binary64 (top_bits n (cond t a b)))
by_patterns a b n A B PA PB N d l t e = go (sign_case a) (sign_case b) t e
  where
    P : ℕ
    P = a % 2 ^ 63

    Q : ℕ
    Q = b % 2 ^ 63

    k : ℕ
    k = 63 - n

    ca : P / 2 ^ k * 2 ^ k ≤ infinite
    ca = le_trans (div-mul-le_self P (2 ^ k)) PA

    cb : Q / 2 ^ k * 2 ^ k ≤ infinite
    cb = le_trans (div-mul-le_self Q (2 ^ k)) PB

    put : (s u : Bool) → leb (2 ^ 63) a ≡ s → leb (2 ^ 63) b ≡ u → (w : ℕ) (v : Bool) (r : ℕ) → of_bits binary64 (top_bits n w) ≡ at v r → Inside (at s P) (at u Q) (at v r) → Inside (at (leb (2 ^ 63) a) P) (at (leb (2 ^ 63) b) Q) (of_bits binary64 (top_bits n w))
    put s u sa sb w v r q i =
        subst (λ (z : Bool). Inside (at z P) (at (leb (2 ^ 63) b) Q) (of_bits binary64 (top_bits n w))) (sym sa)
        (subst (λ (z : Bool). Inside (at s P) (at z Q) (of_bits binary64 (top_bits n w))) (sym sb)
        (subst (λ (z : Float). Inside (at s P) (at u Q) z) (sym q) i))

    l' : (s u : Bool) → leb (2 ^ 63) a ≡ s → leb (2 ^ 63) b ≡ u → T (le (at s P) (at u Q))
    l' s u sa sb = subst (λ (z : Bool). T (le (at z P) (at u Q))) sa (subst (λ (z : Bool). T (le (at (leb (2 ^ 63) a) P) (at z Q))) sb l)

    e' : (s : Bool) → leb (2 ^ 63) a ≡ s → (t : Bool) → le (at (leb (2 ^ 63) a) P) (fin false 0 (pos 0)) ≡ t → le (at s P) (fin false 0 (pos 0)) ≡ t
    e' s sa t e = subst (λ (z : Bool). le (at z P) (fin false 0 (pos 0)) ≡ t) sa e

    keep_a : (s : Bool) → leb (2 ^ 63) a ≡ s → of_bits binary64 (top_bits n a) ≡ at s (P / 2 ^ k * 2 ^ k)
    keep_a s sa = cut_at n a N ∙ ap (λ (z : Bool). at z (P / 2 ^ k * 2 ^ k)) sa

    keep_b : (u : Bool) → leb (2 ^ 63) b ≡ u → of_bits binary64 (top_bits n b) ≡ at u (Q / 2 ^ k * 2 ^ k)
    keep_b u sb = cut_at n b N ∙ ap (λ (z : Bool). at z (Q / 2 ^ k * 2 ^ k)) sb

    go : (leb (2 ^ 63) a ≡ true) ⊎ (leb (2 ^ 63) a ≡ false) → (leb (2 ^ 63) b ≡ true) ⊎ (leb (2 ^ 63) b ≡ false) → (t : Bool) → le (at (leb (2 ^ 63) a) P) (fin false 0 (pos 0)) ≡ t
        → Inside (at (leb (2 ^ 63) a) P) (at (leb (2 ^ 63) b) Q) (of_bits binary64 (top_bits n (cond t a b)))
    go (inl sa) (inl sb) true e =
        put true true sa sb a true (P / 2 ^ k * 2 ^ k) (keep_a true sa)
        (at_mono_neg (P / 2 ^ k * 2 ^ k) P (div-mul-le_self P (2 ^ k)) PA, at_mono_neg Q (P / 2 ^ k * 2 ^ k) (cut_signed a b n A B N sa sb (order_back_neg P Q PA PB (l' true true sa sb)) d) ca)
    go (inl sa) (inr sb) true e =
        put true false sa sb a true (P / 2 ^ k * 2 ^ k) (keep_a true sa)
        (at_mono_neg (P / 2 ^ k * 2 ^ k) P (div-mul-le_self P (2 ^ k)) PA, minus_le_plus (at true (P / 2 ^ k * 2 ^ k)) (at false Q) (at_signed true (P / 2 ^ k * 2 ^ k) ca) (at_signed false Q PB))
    go (inl sa) sb false e = absurd (true≢false (sym (is_true (le (at true P) (fin false 0 (pos 0))) (minus_le_plus (at true P) (fin false 0 (pos 0)) (at_signed true P PA) refl)) ∙ e' true sa false e))
    go (inr sa) (inl sb) true e = zero_keep true sb
      where
        zero_keep : (u : Bool) → leb (2 ^ 63) b ≡ u → Inside (at (leb (2 ^ 63) a) P) (at (leb (2 ^ 63) b) Q) (of_bits binary64 (top_bits n a))
        zero_keep u sb =
            let z : P ≡ 0 = at_most_zero P (order_back P 0 PA zero-le (subst T (sym (ap (le (at false P)) zero_at ∙ e' false sa true e)) tt)) in
            let c : P / 2 ^ k * 2 ^ k ≡ P = ap (λ (y : ℕ). y / 2 ^ k * 2 ^ k) z ∙ zero_cut k ∙ sym z in
            put false u sa sb a false P (keep_a false sa ∙ ap (at false) c) (le_self (at false P) (at u Q) (l' false u sa sb), l' false u sa sb)
    go (inr sa) (inr sb) true e = zero_keep false sb
      where
        zero_keep : (u : Bool) → leb (2 ^ 63) b ≡ u → Inside (at (leb (2 ^ 63) a) P) (at (leb (2 ^ 63) b) Q) (of_bits binary64 (top_bits n a))
        zero_keep u sb =
            let z : P ≡ 0 = at_most_zero P (order_back P 0 PA zero-le (subst T (sym (ap (le (at false P)) zero_at ∙ e' false sa true e)) tt)) in
            let c : P / 2 ^ k * 2 ^ k ≡ P = ap (λ (y : ℕ). y / 2 ^ k * 2 ^ k) z ∙ zero_cut k ∙ sym z in
            put false u sa sb a false P (keep_a false sa ∙ ap (at false) c) (le_self (at false P) (at u Q) (l' false u sa sb), l' false u sa sb)
    go (inr sa) (inl sb) false e = absurd (true≢false (sym (is_true (le (at false P) (fin false 0 (pos 0))) (plus_le_minus (at false P) (at true Q) (at_signed false P PA) (at_signed true Q PB) (l' false true sa sb))) ∙ e' false sa false e))
    go (inr sa) (inr sb) false e =
        put false false sa sb b false (Q / 2 ^ k * 2 ^ k) (keep_b false sb)
        (at_mono P (Q / 2 ^ k * 2 ^ k) (cut_plain b a n N sb sa (order_back P Q PA PB (l' false false sa sb)) (le_trans d (le_of_eq (xor_comm a b)))) cb, at_mono (Q / 2 ^ k * 2 ^ k) Q (div-mul-le_self Q (2 ^ k)) PB)

number_case : (n : ℕ) → (n ≡ 64) ⊎ (n ≡ 64 → ⊥)
number_case n = go (eqb n 64) (eqb→eq n 64) (λ (e : n ≡ 64). eq→eqb e)
  where
    go : (b : Bool) → (T b → n ≡ 64) → (n ≡ 64 → T b) → (n ≡ 64) ⊎ (n ≡ 64 → ⊥)
    go true f g = inl (f tt)
    go false f g = inr g

-- the simple fraction of a legal_bounds interval lies between its bounds
pub inside : (x y : Float) → T (fits binary64 x) → T (fits binary64 y) → T (legal_bounds x y) → Inside x y (simple_fraction x y)
inside x y f g h = ⊎_elim same other (number_case (shared_bits (to_bits binary64 x) (to_bits binary64 y)))
  where
    a : ℕ
    a = to_bits binary64 x

    b : ℕ
    b = to_bits binary64 y

    l : T (le x y)
    l = and_l (le x y) (lt x (inf false)) (and_l (le x y && lt x (inf false)) (lt (inf true) y) h)

    same : shared_bits a b ≡ 64 → Inside x y (simple_fraction x y)
    same e = subst (λ (z : Float). Inside x y z) (frac_same x y e) (le_self x y l, l)

    other : (shared_bits a b ≡ 64 → ⊥) → Inside x y (simple_fraction x y)
    other n =
        let p = pattern x f (lower_number x y h) in
        let q = pattern y g (upper_number x y h) in
        let i = by_patterns a b (shared_bits a b) p.fits_in q.fits_in p.no_nan q.no_nan (not_all (bit_xor a b) n) (high_bit a b p.fits_in q.fits_in n) (subst (λ (z : Float). T (le z (at (leb (2 ^ 63) b) (b % 2 ^ 63)))) p.is (subst (λ (z : Float). T (le x z)) q.is l)) (le (at (leb (2 ^ 63) a) (a % 2 ^ 63)) (fin false 0 (pos 0))) refl in
        subst (λ (z : Float). Inside x y z) (ap (λ (z : Float). of_bits binary64 (top_bits (shared_bits a b) (cond (le z (fin false 0 (pos 0))) a b))) (sym p.is) ∙ frac_other x y n (cond (le x (fin false 0 (pos 0))) a b) refl)
        (subst (λ (z : Float). Inside z y (of_bits binary64 (top_bits (shared_bits a b) (cond (le (at (leb (2 ^ 63) a) (a % 2 ^ 63)) (fin false 0 (pos 0))) a b)))) (sym p.is) (subst (λ (z : Float). Inside (at (leb (2 ^ 63) a) (a % 2 ^ 63)) z (of_bits binary64 (top_bits (shared_bits a b) (cond (le (at (leb (2 ^ 63) a) (a % 2 ^ 63)) (fin false 0 (pos 0))) a b)))) (sym q.is) i))

-- the same of an interval
pub fraction_inside : (x : Interval) (integer : Bool) → InFormat x → legal_interval x integer ≡ true → (le x.lower (simple_fraction x.lower x.upper) ≡ true) × (le (simple_fraction x.lower x.upper) x.upper ≡ true)
fraction_inside x integer f h =
    let s = simple_fraction x.lower x.upper in
    let i = inside x.lower x.upper f.0 f.1 (≡→T (legal_bounds_lem x integer h)) in
    (is_true (le x.lower s) i.0, is_true (le s x.upper) i.1)
