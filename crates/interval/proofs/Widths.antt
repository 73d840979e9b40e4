-- `b - a == 1.0` and `b - a == 2.0` test the exact width of an integer parameter's interval, infinite ends too (`width_one`,
-- `width_two`). Assumes nothing.
use Rattle.std.proofs.Common.{◌≡◌, ℕ, zero, suc, ◌+◌, ◌-◌, ◌*◌, ◌/◌, ◌%◌, ◌^◌, ◌<◌, ◌≤◌, Bool, true, false, ◌&&◌, ◌||◌, T, eqb, ℤ, pos, ◌+ℤ◌, ◌-ℤ◌, neg_ℤ, nat_abs, sym, refl, ap, ◌∙◌, subst, add-zero, lt_irrefl, zero-lt-suc, mul_comm, add-mul, mul-pos, div-add-mod', zero-mul, mul-one, lit≤, eqb→eq, leb→le, pow_pos}
use native.Mathlib.Nat.{eq_of_mul-eq-mul_right, mul-sub}
use mathlib.Core.Bool.{beq, false≢true}
use lib.IntN.{+ℤ_comm, neg_ℤ-neg_ℤ}
use lib.Signed.{le_z}
use lib.Dec.{not_T}
use lib.Ieee.{Float, nan, inf, fin, binary64, up, down, round, sub, eq, level, of_bits, le, lt, fits}
use lib.Ieee.Fits.{eq→eqb, and_l, down_pos, up_pos}
use lib.Ieee.Bits.{is_false}
use lib.Ieee.Scale.{round_same}
use lib.Ieee.Scale.{finite}
use Rattle.base.proofs.Test.{≡→T, and_left, same_tests}
use Rattle.interval.proofs.Naturals.{at_most_zero}
use Rattle.interval.proofs.Wholeness.{abs_signed}
use Rattle.interval.specs.declared.Interval.{Interval}
use Rattle.interval.specs.Bounds.{signed, in_units, plus_zero, zero_as, whole_bound, legal_bounds, legal_interval, InFormat}
use Rattle.interval.specs.Middle.{rounded}
use Rattle.interval.specs.Cuts.{width_is}
use Rattle.interval.proofs.Value.{placed}
use Rattle.interval.proofs.HalfSum.{units_of, plus_neg}
use Rattle.interval.proofs.Legality.{legal_bounds_lem, whole_ends}
use Rattle.interval.proofs.UnitsOrder.{sub_ge, le_units, neg_order}
use Rattle.interval.proofs.Difference.{num, sub_is, whole_test}

-- ---- a whole number's units
pub record Multiple (x : Float) : Type 0 where
  pub sign : Bool
  pub times : ℕ
  pub is : in_units x ≡ signed sign (times * 2 ^ 1074)

pub multiple : (x : Float) → T (fits binary64 x) → T (finite x) → T (whole_bound x) → Multiple x
unfolding whole_bound
multiple nan f g w = absurd g
multiple (inf s) f g w = absurd g
multiple (fin s m e) f g w =
    let p = placed binary64 s m e f in
    let X = p.m * 2 ^ p.j in
    let u = units_of s m e X p.value in
    let z : X % 2 ^ 1074 ≡ 0 = ap (λ (k : ℕ). k % 2 ^ 1074) (sym (ap nat_abs u ∙ abs_signed s X)) ∙ eqb→eq (nat_abs (in_units (fin s m e)) % 2 ^ 1074) 0 w in
    record { sign = s; times = X / 2 ^ 1074; is = u ∙ ap (signed s) (sym (div-add-mod' X (2 ^ 1074)) ∙ ap (λ (k : ℕ). X / 2 ^ 1074 * 2 ^ 1074 + k) z ∙ add-zero (X / 2 ^ 1074 * 2 ^ 1074)) }

-- ---- the difference of two multiples
pub both_zero : (a b : ℕ) → T (le_z (pos a) (neg_ℤ (pos b))) → (a ≡ 0) × (b ≡ 0)
both_zero a zero h = (at_most_zero a (leb→le a 0 h), refl)
both_zero a (suc b) h = absurd h

sub_mult : (p q U : ℕ) → q * U - p * U ≡ (q - p) * U
sub_mult p q U = sym (mul_comm (q - p) U ∙ mul-sub U q p ∙ ap (λ (z : ℕ). z - U * p) (mul_comm U q) ∙ ap (λ (z : ℕ). q * U - z) (mul_comm U p))

diff : (s : Bool) (p : ℕ) (t : Bool) (q U : ℕ) → T (le_z (signed s (p * U)) (signed t (q * U))) → (d : ℕ) × (signed t (q * U) -ℤ signed s (p * U) ≡ pos (d * U))
diff false p false q U h = (q - p, plus_neg (q * U) (p * U) ∙ sub_ge (q * U) (p * U) (leb→le (p * U) (q * U) h) ∙ ap pos (sub_mult p q U))
diff true p false q U h = (q + p, ap (λ (z : ℤ). pos (q * U) +ℤ z) (neg_ℤ-neg_ℤ (pos (p * U))) ∙ ap pos (sym (add-mul q p U)))
diff false p true q U h =
    let z = both_zero (p * U) (q * U) h in
    (0, ap (λ (k : ℕ). neg_ℤ (pos k) +ℤ neg_ℤ (pos (p * U))) z.1 ∙ ap (λ (k : ℕ). neg_ℤ (pos 0) +ℤ neg_ℤ (pos k)) z.0 ∙ ap pos (sym (zero-mul U)))
diff true p true q U h = (p - q, ap (λ (z : ℤ). neg_ℤ (pos (q * U)) +ℤ z) (neg_ℤ-neg_ℤ (pos (p * U))) ∙ +ℤ_comm (neg_ℤ (pos (q * U))) (pos (p * U)) ∙ plus_neg (p * U) (q * U) ∙ sub_ge (p * U) (q * U) (neg_order (p * U) (q * U) h) ∙ ap pos (sub_mult q p U))

-- ---- the two tests
plus_test : (y : Float) (n : ℕ) (d : ℤ) → eq (plus_zero y) (fin false (suc n) d) ≡ eq y (fin false (suc n) d)
unfolding eq zero_as
plus_test nan n d = refl
plus_test (inf s) n d = refl
plus_test (fin s (suc m) e) n d = refl
plus_test (fin s zero e) n d = zero_no false (0 * 1 * down d) (suc n * up d * 1) (zero-mul (down d)) (mul-pos (mul-pos (zero-lt-suc n) (up_pos d)) (zero-lt-suc 0)) ∙ sym (zero_no s (0 * up e * down d) (suc n * up d * down e) (ap (λ (z : ℕ). z * down d) (zero-mul (up e)) ∙ zero-mul (down d)) (mul-pos (mul-pos (zero-lt-suc n) (up_pos d)) (down_pos e)))
  where
    zero_no : (s : Bool) (a b : ℕ) → a ≡ 0 → 0 < b → level s a false b ≡ false
    zero_no s a b z h = is_false (level s a false b) (not_T (level s a false b) (λ (t : T (level s a false b)). lt_irrefl 0 (subst (λ (k : ℕ). 0 < k) (sym (eqb→eq a b (and_l (eqb a b) (beq s false || eqb a 0) t)) ∙ z) h)))

units_eq : (d k U : ℕ) → 0 < U → eqb (d * U) (k * U) ≡ eqb d k
units_eq d k U h =
    same_tests (eqb (d * U) (k * U)) (eqb d k)
    (λ (t : T (eqb (d * U) (k * U))). eq→eqb (eq_of_mul-eq-mul_right U h d k (eqb→eq (d * U) (k * U) t)))
    (λ (t : T (eqb d k)). eq→eqb (ap (λ (z : ℕ). z * U) (eqb→eq d k t)))

-- of two finite whole bounds, for a literal that is the whole number k
finite_width : (a b : Float) (k n : ℕ) (g : ℤ) → num k ≡ fin false (suc n) g → suc k ≤ 2 ^ 53 → T (fits binary64 a) → T (fits binary64 b) → T (finite a) → T (finite b) → T (whole_bound a) → T (whole_bound b) → T (le a b)
    → eq (sub binary64 b a) (fin false (suc n) g) ≡ eqb (nat_abs (in_units b -ℤ in_units a)) (k * 2 ^ 1074)
finite_width a b k n g lit few fa fb ga gb wa wb l =
    let p = multiple a fa ga wa in
    let q = multiple b fb gb wb in
    let U = 2 ^ 1074 in
    let lu : T (le_z (signed p.sign (p.times * U)) (signed q.sign (q.times * U))) = subst (λ (z : ℤ). T (le_z z (signed q.sign (q.times * U)))) p.is (subst (λ (z : ℤ). T (le_z (in_units a) z)) q.is (subst T (le_units a b fa fb ga gb) l)) in
    let d = diff p.sign p.times q.sign q.times U lu in
    let e : in_units b -ℤ in_units a ≡ pos (d.0 * U) = ap (λ (z : ℤ). z -ℤ in_units a) q.is ∙ ap (λ (z : ℤ). signed q.sign (q.times * U) -ℤ z) p.is ∙ d.1 in
    sym (plus_test (sub binary64 b a) n g)
    ∙ ap (λ (z : Float). eq z (fin false (suc n) g)) (sub_is b a fb fa gb ga ∙ ap (λ (z : ℤ). plus_zero (rounded z U)) e ∙ whole_rounded d.0)
    ∙ plus_test (num d.0) n g
    ∙ ap (λ (z : Float). eq (num d.0) z) (sym lit)
    ∙ whole_test d.0 k few
    ∙ sym (ap (λ (z : ℤ). eqb (nat_abs z) (k * U)) e ∙ units_eq d.0 k U (pow_pos 1074))
  where
    rounded_pos : (n : ℕ) → rounded (pos n) (2 ^ 1074) ≡ round binary64 false n (2 ^ 1074)
    rounded_pos n = unfold rounded in refl

    whole_rounded : (d : ℕ) → plus_zero (rounded (pos (d * 2 ^ 1074)) (2 ^ 1074)) ≡ plus_zero (num d)
    whole_rounded d = ap plus_zero (rounded_pos (d * 2 ^ 1074) ∙ round_same binary64 false (d * 2 ^ 1074) (2 ^ 1074) d 1 (pow_pos 1074) (zero-lt-suc 0) (mul-one (d * 2 ^ 1074)))

-- with infinite ends too: the difference is +inf
legal_width : (a b : Float) (k n : ℕ) (g : ℤ) → num k ≡ fin false (suc n) g → suc k ≤ 2 ^ 53 → T (fits binary64 a) → T (fits binary64 b) → legal_bounds a b ≡ true → T (whole_bound a) → T (whole_bound b)
    → eq (sub binary64 b a) (fin false (suc n) g) ≡ finite a && finite b && eqb (nat_abs (in_units b -ℤ in_units a)) (k * 2 ^ 1074)
unfolding le lt eq sub
legal_width nan b k n g lit few fa fb h wa wb = absurd (false≢true h)
legal_width (inf false) nan k n g lit few fa fb h wa wb = absurd (false≢true h)
legal_width (inf false) (inf true) k n g lit few fa fb h wa wb = absurd (false≢true h)
legal_width (inf false) (inf false) k n g lit few fa fb h wa wb = absurd (false≢true h)
legal_width (inf false) (fin t m e) k n g lit few fa fb h wa wb = absurd (false≢true h)
legal_width (inf true) nan k n g lit few fa fb h wa wb = absurd (false≢true h)
legal_width (inf true) (inf true) k n g lit few fa fb h wa wb = absurd (false≢true h)
legal_width (inf true) (inf false) k n g lit few fa fb h wa wb = refl
legal_width (inf true) (fin t m e) k n g lit few fa fb h wa wb = refl
legal_width (fin s i d) nan k n g lit few fa fb h wa wb = absurd (false≢true h)
legal_width (fin s i d) (inf true) k n g lit few fa fb h wa wb = absurd (false≢true h)
legal_width (fin s i d) (inf false) k n g lit few fa fb h wa wb = refl
legal_width (fin s i d) (fin t m e) k n g lit few fa fb h wa wb =
    finite_width (fin s i d) (fin t m e) k n g lit few fa fb tt tt wa wb (≡→T (and_left (le (fin s i d) (fin t m e)) true (and_left (le (fin s i d) (fin t m e) && true) true h)))

one_is : num 1 ≡ fin false 1 (pos 0)
unfolding round
one_is = refl

two_is : num 2 ≡ fin false 1 (pos 1)
unfolding round
two_is = refl

-- ---- widths 1 and 2 of an integer parameter's interval
pub width_one : (x : Interval) → InFormat x → legal_interval x true ≡ true → eq (sub binary64 x.upper x.lower) (of_bits binary64 0x3ff0_0000_0000_0000) ≡ width_is 1 x
unfolding of_bits width_is
width_one x f h = let w = whole_ends x true h refl in legal_width x.lower x.upper 1 0 (pos 0) one_is (lit≤ tt) f.0 f.1 (legal_bounds_lem x true h) (≡→T w.0) (≡→T w.1)

pub width_two : (x : Interval) → InFormat x → legal_interval x true ≡ true → eq (sub binary64 x.upper x.lower) (of_bits binary64 0x4000_0000_0000_0000) ≡ width_is 2 x
unfolding of_bits width_is
width_two x f h = let w = whole_ends x true h refl in legal_width x.lower x.upper 2 0 (pos 1) two_is (lit≤ tt) f.0 f.1 (legal_bounds_lem x true h) (≡→T w.0) (≡→T w.1)
