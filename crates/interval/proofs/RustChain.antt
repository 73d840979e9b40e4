-- The Rust's `subdivision_point` is one chain of ifs over both bounds (`rust_point`); the cut point by kinds is the same (`chain_is`).
-- Its `mid` and `round` are the document's midpoint and rounding to whole, which give a zero as +0. Assumes nothing.
use Rattle.std.proofs.Common.{◌≡◌, ℕ, zero, suc, ◌+◌, ◌*◌, ◌^◌, Bool, true, false, cond, ◌&&◌, T, eqb, ltb, pos, neg_ℤ, sym, refl, ap, ◌∙◌, subst, mul_comm, add_comm, one-mul, mul-one, arith, pow_pos, le-ltb, lt-ltb}
use mathlib.Core.Bool.{false≢true}
use lib.Dec.{eqb-suc-zero}
use lib.Ieee.{Float, nan, inf, fin, binary64, unlike, up, down, round, below, level, mul, neg, lt, le, eq, of_bits, fits}
use lib.Ieee.Fits.{neg-fits, mul-fits}
use lib.Ieee.Scale.{finite}
use Rattle.base.proofs.Test.{cases}
use Rattle.interval.specs.declared.Interval.{Interval}
use Rattle.interval.specs.Bounds.{in_units, plus_zero, zero_as, legal_bounds, legal_interval, InFormat}
use Rattle.interval.specs.Middle.{largest_finite, whole_if}
use Rattle.interval.specs.Kinds.{kind_of, middle_at, midpoint_of, cut_up_to, cut_point_at, cut_point_of}
use Rattle.interval.proofs.Value.{placed, zero_exp}
use Rattle.interval.proofs.Zeros.{as_lt_right, as_eq_right}
use Rattle.interval.proofs.Compare.{lt_at, eq_at}
use Rattle.interval.proofs.WholeRounding.{negated_round}
use Rattle.interval.proofs.HalfBetween.{Signed, round_signed}
use Rattle.interval.proofs.Patterns.{neg_neg}
use Rattle.interval.proofs.CutUpTo.{units_neg, neg_finite, cut_clipped, cut_doubled, cut_positive, cut_zero}
use Rattle.interval.proofs.Legality.{legal_bounds_lem}

abbrev nought : Float
nought = fin false 0 (pos 0)

abbrev one : Float
one = fin false 1 (pos 0)

abbrev two : Float
two = fin false 1 (pos 1)

-- `f64::max` and `f64::min` of numbers
abbrev pub max_of : Float → Float → Float
max_of u v = cond (lt u v) v u

abbrev pub min_of : Float → Float → Float
min_of u v = cond (lt v u) v u

-- where a is -inf, and where b is +inf
abbrev pub rust_up : Float → Float
rust_up b = cond (lt b nought) (max_of (mul binary64 two b) (largest_finite true)) (cond (eq b nought) (neg one) nought)

abbrev pub rust_from : Float → Float
rust_from a = cond (lt a nought) nought (cond (eq a nought) one (min_of (mul binary64 two a) (largest_finite false)))

abbrev pub rust_point : Interval → Bool → Float
rust_point x integer = cond (eq x.lower (inf true)) (rust_up x.upper) (cond (eq x.upper (inf false)) (rust_from x.lower) (whole_if integer (midpoint_of x)))

-- ---- a number is below zero, zero, or above zero
data Side (u v w : Bool) : Type 0 where
  under : u ≡ true → v ≡ false → w ≡ false → Side u v w
  at : u ≡ false → v ≡ true → w ≡ false → Side u v w
  over : u ≡ false → v ≡ false → w ≡ true → Side u v w

not_nought : (X : ℕ) → eqb (suc X) 0 ≡ false
not_nought X = eqb-suc-zero X

units_side : (s : Bool) (X : ℕ) → Side (below s X false 0) (level s X false 0) (below false 0 s X)
units_side false zero = at refl refl refl
units_side true zero = at refl refl refl
units_side false (suc X) = over (le-ltb (suc X) 0 (omega arith)) (ap (λ (z : Bool). z && true) (not_nought X)) (lt-ltb 0 (suc X) (omega arith))
units_side true (suc X) = under (lt-ltb 0 (suc X + 0) (omega arith)) (ap (λ (z : Bool). z && z) (not_nought X)) refl

side : (b : Float) → T (fits binary64 b) → T (finite b) → Side (lt b nought) (eq b nought) (lt nought b)
side nan f g = absurd g
side (inf s) f g = absurd g
side (fin s m e) f g =
    let p = placed binary64 s m e f in
    let X = p.m * 2 ^ p.j in
    let U = 2 ^ 1074 in
    subst (λ (z : Bool). Side z (eq (fin s m e) nought) (lt nought (fin s m e))) (sym (lt_at (fin s m e) nought s X false 0 U (pow_pos 1074) p.value (refl, refl)))
    (subst (λ (z : Bool). Side (below s X false 0) z (lt nought (fin s m e))) (sym (eq_at (fin s m e) nought s X false 0 U (pow_pos 1074) p.value (refl, refl)))
    (subst (λ (z : Bool). Side (below s X false 0) (level s X false 0) z) (sym (lt_at nought (fin s m e) false 0 s X U (pow_pos 1074) (refl, refl) p.value))
    (units_side s X)))

-- ---- twice a number, either way round
unlike_swap : (s : Bool) → unlike false s ≡ unlike s false
unlike_swap true = refl
unlike_swap false = refl

two_first : (b : Float) → mul binary64 two b ≡ mul binary64 b two
unfolding mul
two_first nan = refl
two_first (inf s) = ap inf (unlike_swap s)
two_first (fin s m e) =
    ap (λ (z : Bool). round binary64 z (1 * 2 * (m * up e)) (1 * down e)) (unlike_swap s)
    ∙ ap (λ (z : ℕ). round binary64 (unlike s false) z (1 * down e)) (mul_comm 2 (m * up e))
    ∙ ap (λ (z : ℕ). round binary64 (unlike s false) (m * up e * 2) z) (one-mul (down e) ∙ sym (mul-one (down e)))

-- ---- [-inf, b]
up_is : (b : Float) → T (fits binary64 b) → T (finite b) → rust_up b ≡ cut_up_to (in_units b)
unfolding of_bits neg
up_is b f g = go (side b f g)
  where
    low : Float
    low = max_of (mul binary64 two b) (largest_finite true)

    rest : Float
    rest = cond (eq b nought) (neg one) nought

    go : Side (lt b nought) (eq b nought) (lt nought b) → rust_up b ≡ cut_up_to (in_units b)
    go (under h k l) =
        ap (λ (z : Bool). cond z low rest) h
        ∙ ap (λ (z : Float). max_of z (largest_finite true)) (two_first b)
        ∙ cases (lt (mul binary64 b two) (largest_finite true))
        (λ t. ap (λ (z : Bool). cond z (largest_finite true) (mul binary64 b two)) t ∙ cut_clipped b f g h t)
        (λ t. ap (λ (z : Bool). cond z (largest_finite true) (mul binary64 b two)) t ∙ cut_doubled b f g h t)
    go (at h k l) = ap (λ (z : Bool). cond z low rest) h ∙ ap (λ (z : Bool). cond z (neg one) nought) k ∙ cut_zero b f g h l
    go (over h k l) = ap (λ (z : Bool). cond z low rest) h ∙ ap (λ (z : Bool). cond z (neg one) nought) k ∙ cut_positive b f g h l

-- ---- [a, +inf] mirrors it
neg_lt : (x y : Float) → lt (neg x) (neg y) ≡ lt y x
unfolding lt neg
neg_lt nan nan = refl
neg_lt nan (inf true) = refl
neg_lt nan (inf false) = refl
neg_lt nan (fin t n d) = refl
neg_lt (inf true) nan = refl
neg_lt (inf true) (inf true) = refl
neg_lt (inf true) (inf false) = refl
neg_lt (inf true) (fin t n d) = refl
neg_lt (inf false) nan = refl
neg_lt (inf false) (inf true) = refl
neg_lt (inf false) (inf false) = refl
neg_lt (inf false) (fin t n d) = refl
neg_lt (fin s m e) nan = refl
neg_lt (fin s m e) (inf true) = refl
neg_lt (fin s m e) (inf false) = refl
neg_lt (fin true m e) (fin true n d) = refl
neg_lt (fin true m e) (fin false n d) = refl
neg_lt (fin false m e) (fin true n d) = ap (λ (z : ℕ). ltb 0 z) (add_comm (m * up e * down d) (n * up d * down e))
neg_lt (fin false m e) (fin false n d) = refl

pub neg_eq : (x y : Float) → eq (neg x) (neg y) ≡ eq x y
unfolding eq neg
neg_eq nan y = refl
neg_eq (inf s) nan = refl
neg_eq (inf true) (inf true) = refl
neg_eq (inf true) (inf false) = refl
neg_eq (inf false) (inf true) = refl
neg_eq (inf false) (inf false) = refl
neg_eq (inf s) (fin t n d) = refl
neg_eq (fin s m e) nan = refl
neg_eq (fin s m e) (inf t) = refl
neg_eq (fin true m e) (fin true n d) = refl
neg_eq (fin true m e) (fin false n d) = refl
neg_eq (fin false m e) (fin true n d) = refl
neg_eq (fin false m e) (fin false n d) = refl

neg_twice : (a : Float) → mul binary64 two (neg a) ≡ neg (mul binary64 two a)
unfolding mul neg
neg_twice nan = refl
neg_twice (inf true) = refl
neg_twice (inf false) = refl
neg_twice (fin true m e) = sym (negated_round binary64 true (1 * 2 * (m * up e)) (1 * down e))
neg_twice (fin false m e) = sym (negated_round binary64 false (1 * 2 * (m * up e)) (1 * down e))

plus_fixed : (x : Float) → T (fits binary64 x) → Signed x false → plus_zero x ≡ x
unfolding zero_as
plus_fixed nan f s = refl
plus_fixed (inf t) f s = refl
plus_fixed (fin t zero e) f s = λ i. fin (sym s i) 0 (sym (zero_exp binary64 t e f) i)
plus_fixed (fin t (suc m) e) f s = refl

twice_signed : (a : Float) → T (fits binary64 a) → T (finite a) → lt nought a ≡ true → Signed (mul binary64 two a) false
unfolding mul lt
twice_signed nan f g h = absurd g
twice_signed (inf s) f g h = absurd g
twice_signed (fin true m e) f g h = absurd (false≢true h)
twice_signed (fin false m e) f g h = round_signed binary64 false (1 * 2 * (m * up e)) (1 * down e)

minus_nought : neg nought ≡ zero_as true nought
unfolding neg zero_as
minus_nought = refl

-- the tests of -a are those of a, turned round
flip_lt : (a : Float) → lt (neg a) nought ≡ lt nought a
flip_lt a = sym (ap (lt (neg a)) minus_nought ∙ as_lt_right true (neg a) nought) ∙ neg_lt a nought

flip_eq : (a : Float) → eq (neg a) nought ≡ eq a nought
flip_eq a = sym (ap (eq (neg a)) minus_nought ∙ as_eq_right true (neg a) nought) ∙ neg_eq a nought

flip_max : (u : Float) → T (fits binary64 u) → Signed u false → plus_zero (neg (max_of (neg u) (largest_finite true))) ≡ min_of u (largest_finite false)
unfolding neg
flip_max u f s = ap (λ (z : Bool). plus_zero (neg (cond z (largest_finite true) (neg u)))) (neg_lt u (largest_finite false)) ∙ go (lt (largest_finite false) u)
  where
    go : (t : Bool) → plus_zero (neg (cond t (largest_finite true) (neg u))) ≡ cond t (largest_finite false) u
    go true = unfold neg zero_as in refl
    go false = ap plus_zero (neg_neg u) ∙ plus_fixed u f s

from_up : (a : Float) → T (fits binary64 a) → T (finite a) → Side (lt a nought) (eq a nought) (lt nought a) → rust_from a ≡ plus_zero (neg (rust_up (neg a)))
unfolding neg zero_as
from_up a f g (under h k l) =
    ap (λ (z : Bool). cond z nought (cond (eq a nought) one (min_of (mul binary64 two a) (largest_finite false)))) h
    ∙ sym (ap (λ (z : Bool). plus_zero (neg (cond z (max_of (mul binary64 two (neg a)) (largest_finite true)) (cond (eq (neg a) nought) (neg one) nought)))) (flip_lt a ∙ l)
    ∙ ap (λ (z : Bool). plus_zero (neg (cond z (neg one) nought))) (flip_eq a ∙ k))
from_up a f g (at h k l) =
    ap (λ (z : Bool). cond z nought (cond (eq a nought) one (min_of (mul binary64 two a) (largest_finite false)))) h
    ∙ ap (λ (z : Bool). cond z one (min_of (mul binary64 two a) (largest_finite false))) k
    ∙ sym (ap (λ (z : Bool). plus_zero (neg (cond z (max_of (mul binary64 two (neg a)) (largest_finite true)) (cond (eq (neg a) nought) (neg one) nought)))) (flip_lt a ∙ l)
    ∙ ap (λ (z : Bool). plus_zero (neg (cond z (neg one) nought))) (flip_eq a ∙ k))
from_up a f g (over h k l) =
    ap (λ (z : Bool). cond z nought (cond (eq a nought) one (min_of (mul binary64 two a) (largest_finite false)))) h
    ∙ ap (λ (z : Bool). cond z one (min_of (mul binary64 two a) (largest_finite false))) k
    ∙ sym (ap (λ (z : Bool). plus_zero (neg (cond z (max_of (mul binary64 two (neg a)) (largest_finite true)) (cond (eq (neg a) nought) (neg one) nought)))) (flip_lt a ∙ l)
    ∙ ap (λ (z : Float). plus_zero (neg (max_of z (largest_finite true)))) (neg_twice a)
    ∙ flip_max (mul binary64 two a) (mul-fits binary64 two a) (twice_signed a f g l))

from_is : (a : Float) → T (fits binary64 a) → T (finite a) → rust_from a ≡ plus_zero (neg (cut_up_to (neg_ℤ (in_units a))))
from_is a f g = from_up a f g (side a f g) ∙ ap (λ (z : Float). plus_zero (neg z)) (up_is (neg a) (neg-fits binary64 a f) (neg_finite a g) ∙ ap cut_up_to (units_neg a))

-- ---- every legal interval
ends_chain : (a b : Float) (integer : Bool) → T (fits binary64 a) → T (fits binary64 b) → legal_bounds a b ≡ true
    → cond (eq a (inf true)) (rust_up b) (cond (eq b (inf false)) (rust_from a) (whole_if integer (middle_at (kind_of a b)))) ≡ cut_point_at (kind_of a b) integer
unfolding le lt eq kind_of cut_point_at middle_at
ends_chain nan b integer f g h = absurd (false≢true h)
ends_chain (inf false) nan integer f g h = absurd (false≢true h)
ends_chain (inf false) (inf true) integer f g h = absurd (false≢true h)
ends_chain (inf false) (inf false) integer f g h = absurd (false≢true h)
ends_chain (inf false) (fin t n d) integer f g h = absurd (false≢true h)
ends_chain (inf true) nan integer f g h = absurd (false≢true h)
ends_chain (inf true) (inf true) integer f g h = absurd (false≢true h)
ends_chain (inf true) (inf false) integer f g h = refl
ends_chain (inf true) (fin t n d) integer f g h = up_is (fin t n d) g tt
ends_chain (fin s m e) nan integer f g h = absurd (false≢true h)
ends_chain (fin s m e) (inf true) integer f g h = absurd (false≢true h)
ends_chain (fin s m e) (inf false) integer f g h = from_is (fin s m e) f tt
ends_chain (fin s m e) (fin t n d) integer f g h = refl

pub chain_is : (x : Interval) (integer : Bool) → InFormat x → legal_interval x integer ≡ true → rust_point x integer ≡ cut_point_of x integer
chain_is x integer f h = ends_chain x.lower x.upper integer f.0 f.1 (legal_bounds_lem x integer h)
