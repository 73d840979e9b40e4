-- Legal intervals by their parts (`legal_bounds_lem`, `whole_ends`, `legal_from`), and that putting the zeros twice is putting them once
-- and keeps an interval legal (`put_again`, `put_legal`). Assumes nothing.
use Rattle.std.proofs.Common.{◌≡◌, Bool, true, false, not, ◌&&◌, ◌||◌, refl, ap, ◌∙◌}
use mathlib.Core.Bool.{false≢true}
use lib.Ieee.{Float, inf, neg, lt, le}
use Rattle.base.proofs.Test.{≡→T, and_left, and_right, and_both}
use Rattle.interval.specs.declared.Interval.{Interval}
use Rattle.interval.specs.Bounds.{minus_zero, plus_zero, legal_bounds, whole_bound, legal_interval, put_interval}
use Rattle.interval.proofs.Zeros.{as_again, as_whole, as_lt_left, as_lt_right, as_le}

-- the test as it is made
pub legal_test : (x : Interval) (integer : Bool) (i j : Float) (u v : Bool) → i ≡ inf false → j ≡ inf false → u ≡ whole_bound x.lower → v ≡ whole_bound x.upper
    → le x.lower x.upper && lt x.lower i && lt (neg j) x.upper && (not integer || (u && v)) ≡ legal_interval x integer
unfolding legal_interval neg
legal_test x integer i j u v p q k l =
    ap (λ (z : Float). le x.lower x.upper && lt x.lower z && lt (neg j) x.upper && (not integer || (u && v))) p
    ∙ ap (λ (z : Float). le x.lower x.upper && lt x.lower (inf false) && lt (neg z) x.upper && (not integer || (u && v))) q
    ∙ ap (λ (z : Bool). legal_bounds x.lower x.upper && (not integer || (z && v))) k
    ∙ ap (λ (z : Bool). legal_bounds x.lower x.upper && (not integer || (whole_bound x.lower && z))) l

-- what a legal interval has
pub legal_bounds_lem : (x : Interval) (integer : Bool) → legal_interval x integer ≡ true → legal_bounds x.lower x.upper ≡ true
unfolding legal_interval
legal_bounds_lem x integer h = and_left (legal_bounds x.lower x.upper) (not integer || (whole_bound x.lower && whole_bound x.upper)) h

pub whole_ends : (x : Interval) (integer : Bool) → legal_interval x integer ≡ true → integer ≡ true → (whole_bound x.lower ≡ true) × (whole_bound x.upper ≡ true)
unfolding legal_interval
whole_ends x true h e =
    let a = whole_bound x.lower in
    let b = whole_bound x.upper in
    let w : a && b ≡ true = and_right (legal_bounds x.lower x.upper) (a && b) h in
    (and_left a b w, and_right a b w)
whole_ends x false h e = absurd (false≢true e)

pub legal_order : (x : Interval) (integer : Bool) → legal_interval x integer ≡ true → le x.lower x.upper ≡ true
legal_order x integer h = and_left (le x.lower x.upper) (lt x.lower (inf false)) (and_left (le x.lower x.upper && lt x.lower (inf false)) (lt (inf true) x.upper) (legal_bounds_lem x integer h))

-- and what makes one
pub legal_from : (x : Interval) (integer : Bool) → legal_bounds x.lower x.upper ≡ true → (integer ≡ true → (whole_bound x.lower ≡ true) × (whole_bound x.upper ≡ true)) → legal_interval x integer ≡ true
unfolding legal_interval
legal_from x true h w = and_both (legal_bounds x.lower x.upper) (whole_bound x.lower && whole_bound x.upper) h (and_both (whole_bound x.lower) (whole_bound x.upper) (w refl).0 (w refl).1)
legal_from x false h w = and_both (legal_bounds x.lower x.upper) true h refl

-- ---- put
pub put_again : (x : Interval) → put_interval (put_interval x) ≡ put_interval x
unfolding put_interval
put_again x = λ i. record { lower = as_again true true x.lower i; upper = as_again false false x.upper i }

put_bounds : (a b : Float) → legal_bounds (minus_zero a) (plus_zero b) ≡ legal_bounds a b
put_bounds a b =
    ap (λ (z : Bool). z && lt (minus_zero a) (inf false) && lt (inf true) (plus_zero b)) (as_le true false a b)
    ∙ ap (λ (z : Bool). le a b && z && lt (inf true) (plus_zero b)) (as_lt_left true a (inf false))
    ∙ ap (λ (z : Bool). le a b && lt a (inf false) && z) (as_lt_right false (inf true) b)

pub put_legal : (x : Interval) (integer : Bool) → legal_interval (put_interval x) integer ≡ legal_interval x integer
unfolding legal_interval put_interval
put_legal x integer =
    ap (λ (z : Bool). z && (not integer || (whole_bound (put_interval x).lower && whole_bound (put_interval x).upper))) (put_bounds x.lower x.upper)
    ∙ ap (λ (z : Bool). legal_bounds x.lower x.upper && (not integer || (z && whole_bound (put_interval x).upper))) (as_whole true x.lower)
    ∙ ap (λ (z : Bool). legal_bounds x.lower x.upper && (not integer || (whole_bound x.lower && z))) (as_whole false x.upper)

-- what `simple_fraction` cites, in one name
pub ruleset order_rules = (legal_bounds_lem, ≡→T)
