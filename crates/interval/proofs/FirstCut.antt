-- The first cut by kinds: which of the three pieces the definition keeps (`first_whole` to `first_real`), and that the code's tests
-- choose the same (`made_whole` to `made_three`). Assumes nothing.
use Rattle.std.proofs.Common.{◌≡◌, ℕ, ◌*◌, ◌^◌, ◌<◌, Bool, true, false, cond, not, ◌&&◌, ◌||◌, T, eqb, List, [], ◌∷◌, ℤ, ◌-ℤ◌, nat_abs, sym, refl, ap, ◌∙◌, subst, true≢false, lt_irrefl, lit<, eqb→eq}
use mathlib.Core.Bool.{false≢true, and-true, and_self}
use lib.IntN.{+ℤ_invr}
use lib.Ieee.{Float, nan, inf, fin, binary64, sub, of_bits, lt, le, eq, fits}
use lib.Ieee.Scale.{finite}
use Rattle.base.proofs.Test.{≡→T, T→≡, and_left, and_right, cases, or_right}
use Rattle.interval.specs.declared.Interval.{Interval}
use Rattle.interval.specs.declared.kind.Kind.{Kind}
use Rattle.interval.specs.declared.kind.Kind.TheVariants as K
use Rattle.interval.specs.Kinds.{kind_of}
use Rattle.interval.specs.KindsComputed.{finite_ends}
use Rattle.interval.specs.Bounds.{in_units, zero_as, legal_bounds, legal_interval, put_interval, same_interval, InFormat}
use Rattle.interval.specs.Cuts.{width_is, pair_of, span_of, keep_if, unlike_next, deduped, legal_three, first_cut}
use Rattle.interval.proofs.Zeros.{as_again, as_fits, as_finite, as_units, as_eq_left, as_eq_right}
use Rattle.interval.proofs.Legality.{legal_bounds_lem, legal_order, legal_from, put_legal}
use Rattle.interval.proofs.Sameness.{same_float, eq_self_low, eq_self_high, same_put}
use Rattle.interval.proofs.ProperPieces.{bounds_from, number_low, number_high}
use Rattle.interval.proofs.LaterCut.{point_one}
use Rattle.interval.proofs.Widths.{width_one}
use Rattle.interval.proofs.FiniteEnds.{kind_ends, kind_whole, kind_up_to, kind_from, kind_between}

-- ---- which are legal
pub le_itself : (c : Float) → T (finite c) → le c c ≡ true
le_itself nan g = absurd g
le_itself (inf s) g = absurd g
le_itself (fin s m e) g = after_taking (or_right (lt (fin s m e) (fin s m e)) (eq (fin s m e) (fin s m e)) (eq_self_low (fin s m e) (inf false) above))
  where
    after_taking : lt (fin s m e) (fin s m e) || eq (fin s m e) (fin s m e) ≡ true → le (fin s m e) (fin s m e) ≡ true
    after_taking = unfold le in λ h. h

    above : le (fin s m e) (inf false) ≡ true
    above = unfold le in refl

-- the point [c, c], exactly where c is a number
pub point_legal : (c : Float) → legal_interval (span_of c c) false ≡ finite c
point_legal c = put_legal (pair_of c c) false ∙ bounded (pair_of c c) ∙ go c
  where
    bounded : (x : Interval) → legal_interval x false ≡ legal_bounds x.lower x.upper
    bounded x = unfold legal_interval in and-true (legal_bounds x.lower x.upper)

    go : (c : Float) → legal_bounds c c ≡ finite c
    go nan = unfold le lt in refl
    go (inf true) = unfold le lt in refl
    go (inf false) = unfold le lt in refl
    go (fin s m e) = bounds_from (fin s m e) (fin s m e) (le_itself (fin s m e) tt) (number_low (fin s m e) tt) (number_high (fin s m e) tt)

whole_legal : (x : Interval) (integer : Bool) → legal_interval x integer ≡ true → legal_interval (span_of x.lower x.upper) false ≡ true
whole_legal x integer h = put_legal x false ∙ legal_from x false (legal_bounds_lem x integer h) (λ e. absurd (false≢true e))

keep_three : (f : Interval → Bool) (p q r : Interval) (s u : Bool) → f p ≡ s → f q ≡ true → f r ≡ u → keep_if f (p ∷ q ∷ r ∷ []) ≡ cond s (p ∷ q ∷ cond u (r ∷ []) []) (q ∷ cond u (r ∷ []) [])
unfolding keep_if
keep_three f p q r s u a b c = rw (a, b, c) refl

-- by which ends are finite
pub three_by : (x : Interval) (integer : Bool) (s u : Bool) → legal_interval x integer ≡ true → finite x.lower ≡ s → finite x.upper ≡ u
    → legal_three x ≡ cond s (span_of x.lower x.lower ∷ span_of x.lower x.upper ∷ cond u (span_of x.upper x.upper ∷ []) []) (span_of x.lower x.upper ∷ cond u (span_of x.upper x.upper ∷ []) [])
unfolding legal_three
three_by x integer s u h g k =
    keep_three (λ p. legal_interval p false) (span_of x.lower x.lower) (span_of x.lower x.upper) (span_of x.upper x.upper) s u (point_legal x.lower ∙ g) (whole_legal x integer h) (point_legal x.upper ∙ k)

-- ---- which are the same
-- the ends of a legal interval are one exactly where they compare equal
module _ (x : Interval) (integer : Bool) (h : legal_interval x integer ≡ true) where
  low_self : eq x.lower x.lower ≡ true
  low_self = eq_self_low x.lower x.upper (legal_order x integer h)

  high_self : eq x.upper x.upper ≡ true
  high_self = eq_self_high x.lower x.upper (legal_order x integer h)

  same_low : same_interval (span_of x.lower x.lower) (span_of x.lower x.upper) ≡ eq x.lower x.upper
  same_low = same_put (pair_of x.lower x.lower) (pair_of x.lower x.upper) ∙ after_taking
    where
      after_taking : same_interval (pair_of x.lower x.lower) (pair_of x.lower x.upper) ≡ eq x.lower x.upper
      after_taking = unfold same_interval in ap (λ (z : Bool). z && eq x.lower x.upper) low_self

  same_high : same_interval (span_of x.lower x.upper) (span_of x.upper x.upper) ≡ eq x.lower x.upper
  same_high = same_put (pair_of x.lower x.upper) (pair_of x.upper x.upper) ∙ after_taking
    where
      after_taking : same_interval (pair_of x.lower x.upper) (pair_of x.upper x.upper) ≡ eq x.lower x.upper
      after_taking = unfold same_interval in ap (λ (z : Bool). eq x.lower x.upper && z) high_self ∙ and-true (eq x.lower x.upper)

  same_ends : same_interval (span_of x.lower x.lower) (span_of x.upper x.upper) ≡ eq x.lower x.upper
  same_ends = same_put (pair_of x.lower x.lower) (pair_of x.upper x.upper) ∙ after_taking
    where
      after_taking : same_interval (pair_of x.lower x.lower) (pair_of x.upper x.upper) ≡ eq x.lower x.upper
      after_taking = unfold same_interval in and_self (eq x.lower x.upper)

-- equal bounds have no width
same_units : (a b : Float) → T (fits binary64 a) → T (fits binary64 b) → eq a b ≡ true → in_units a ≡ in_units b
same_units a b f g h =
    sym (as_units false a)
    ∙ ap in_units (same_float false (zero_as false a) (zero_as false b) (as_fits false a f) (as_fits false b g) (as_again false false a) (as_again false false b) (as_eq_left false a (zero_as false b) ∙ as_eq_right false a b ∙ h))
    ∙ as_units false b

not_both : (x : Interval) → InFormat x → width_is 1 x ≡ true → eq x.lower x.upper ≡ true → ⊥
unfolding width_is
not_both x f w e =
    let n = nat_abs (in_units x.upper -ℤ in_units x.lower) in
    let d : n ≡ 1 * 2 ^ 1074 = eqb→eq n (1 * 2 ^ 1074) (≡→T (and_right (finite x.lower && finite x.upper) (eqb n (1 * 2 ^ 1074)) w)) in
    lt_irrefl 0 (subst (λ (z : ℕ). 0 < z) (sym d ∙ ap (λ (z : ℤ). nat_abs (in_units x.upper -ℤ z)) (same_units x.lower x.upper f.0 f.1 e) ∙ ap nat_abs (+ℤ_invr (in_units x.upper))) (lit< tt))

-- a put interval is as wide
span_width : (k : ℕ) (x : Interval) → width_is k (span_of x.lower x.upper) ≡ width_is k x
unfolding width_is put_interval
span_width k x =
    ap (λ (z : Bool). z && finite (zero_as false x.upper) && eqb (nat_abs (in_units (zero_as false x.upper) -ℤ in_units (zero_as true x.lower))) (k * 2 ^ 1074)) (as_finite true x.lower)
    ∙ ap (λ (z : Bool). finite x.lower && z && eqb (nat_abs (in_units (zero_as false x.upper) -ℤ in_units (zero_as true x.lower))) (k * 2 ^ 1074)) (as_finite false x.upper)
    ∙ ap (λ (z : ℤ). finite x.lower && finite x.upper && eqb (nat_abs (z -ℤ in_units (zero_as true x.lower))) (k * 2 ^ 1074)) (as_units false x.upper)
    ∙ ap (λ (z : ℤ). finite x.lower && finite x.upper && eqb (nat_abs (in_units x.upper -ℤ z)) (k * 2 ^ 1074)) (as_units true x.lower)

no_width : (k : ℕ) (x : Interval) → (finite x.lower ≡ false) → width_is k x ≡ false
unfolding width_is
no_width k x h = ap (λ (z : Bool). z && finite x.upper && eqb (nat_abs (in_units x.upper -ℤ in_units x.lower)) (k * 2 ^ 1074)) h

no_width_up : (k : ℕ) (x : Interval) → (finite x.upper ≡ false) → width_is k x ≡ false
unfolding width_is
no_width_up k x h = ap (λ (z : Bool). finite x.lower && z && eqb (nat_abs (in_units x.upper -ℤ in_units x.lower)) (k * 2 ^ 1074)) h ∙ last (finite x.lower) (eqb (nat_abs (in_units x.upper -ℤ in_units x.lower)) (k * 2 ^ 1074))
  where
    last : (a b : Bool) → a && false && b ≡ false
    last true b = refl
    last false b = refl

-- an infinite end equals no number
unlike_up : (a b : Float) → finite a ≡ false → finite b ≡ true → eq a b ≡ false
unfolding eq
unlike_up nan b h k = refl
unlike_up (inf s) nan h k = refl
unlike_up (inf s) (inf t) h k = absurd (false≢true k)
unlike_up (inf s) (fin t n d) h k = refl
unlike_up (fin s m e) b h k = absurd (true≢false h)

unlike_from : (a b : Float) → finite a ≡ true → finite b ≡ false → eq a b ≡ false
unfolding eq
unlike_from nan b h k = refl
unlike_from (inf s) b h k = absurd (false≢true h)
unlike_from (fin s m e) nan h k = refl
unlike_from (fin s m e) (inf t) h k = refl
unlike_from (fin s m e) (fin t n d) h k = absurd (true≢false k)

-- ---- the cut, kind by kind
abbrev low : Interval → Interval
low x = span_of x.lower x.lower

abbrev all : Interval → Interval
all x = span_of x.lower x.upper

abbrev high : Interval → Interval
high x = span_of x.upper x.upper

one_of : (p : Interval) → width_is 1 p ≡ false → deduped (keep_if (λ q. not (width_is 1 q)) (p ∷ [])) ≡ p ∷ []
unfolding keep_if unlike_next
one_of p h = rw h refl

two_of : (p q : Interval) → width_is 1 p ≡ false → width_is 1 q ≡ false → same_interval p q ≡ false → deduped (keep_if (λ r. not (width_is 1 r)) (p ∷ q ∷ [])) ≡ p ∷ q ∷ []
unfolding keep_if unlike_next
two_of p q h k e = rw (h, k, e) refl

three_of : (p q r : Interval) → width_is 1 p ≡ false → width_is 1 q ≡ false → width_is 1 r ≡ false → same_interval p q ≡ false → same_interval q r ≡ false → deduped (keep_if (λ s. not (width_is 1 s)) (p ∷ q ∷ r ∷ [])) ≡ p ∷ q ∷ r ∷ []
unfolding keep_if unlike_next
three_of p q r h k l e d = rw (h, k, l, e, d) refl

ends_of : (p q r : Interval) → width_is 1 p ≡ false → width_is 1 q ≡ true → width_is 1 r ≡ false → same_interval p r ≡ false → deduped (keep_if (λ s. not (width_is 1 s)) (p ∷ q ∷ r ∷ [])) ≡ p ∷ r ∷ []
unfolding keep_if unlike_next
ends_of p q r h k l e = rw (h, k, l, e) refl

same_of : (p q r : Interval) → width_is 1 p ≡ false → width_is 1 q ≡ false → width_is 1 r ≡ false → same_interval p q ≡ true → same_interval p r ≡ true → deduped (keep_if (λ s. not (width_is 1 s)) (p ∷ q ∷ r ∷ [])) ≡ p ∷ []
unfolding keep_if unlike_next
same_of p q r h k l e d = rw (h, k, l, e, d) refl

thin_of : (x : Interval) (l : List Interval) → legal_three x ≡ l → first_cut x true ≡ deduped (keep_if (λ p. not (width_is 1 p)) l)
unfolding first_cut
thin_of x l e = ap (λ (z : List Interval). deduped (keep_if (λ p. not (width_is 1 p)) z)) e

all_of : (x : Interval) (l : List Interval) → legal_three x ≡ l → first_cut x false ≡ l
unfolding first_cut
all_of x l e = e

pub first_whole : (x : Interval) (integer : Bool) → legal_interval x integer ≡ true → finite x.lower ≡ false → finite x.upper ≡ false → first_cut x integer ≡ all x ∷ []
first_whole x true h g k = thin_of x (all x ∷ []) (three_by x true false false h g k) ∙ one_of (all x) (span_width 1 x ∙ no_width 1 x g)
first_whole x false h g k = all_of x (all x ∷ []) (three_by x false false false h g k)

pub first_up_to : (x : Interval) (integer : Bool) → legal_interval x integer ≡ true → finite x.lower ≡ false → finite x.upper ≡ true → first_cut x integer ≡ all x ∷ high x ∷ []
first_up_to x true h g k =
    thin_of x (all x ∷ high x ∷ []) (three_by x true false true h g k)
    ∙ two_of (all x) (high x) (span_width 1 x ∙ no_width 1 x g) (point_one x.upper) (same_high x true h ∙ unlike_up x.lower x.upper g k)
first_up_to x false h g k = all_of x (all x ∷ high x ∷ []) (three_by x false false true h g k)

pub first_from : (x : Interval) (integer : Bool) → legal_interval x integer ≡ true → finite x.lower ≡ true → finite x.upper ≡ false → first_cut x integer ≡ low x ∷ all x ∷ []
first_from x true h g k =
    thin_of x (low x ∷ all x ∷ []) (three_by x true true false h g k)
    ∙ two_of (low x) (all x) (point_one x.lower) (span_width 1 x ∙ no_width_up 1 x k) (same_low x true h ∙ unlike_from x.lower x.upper g k)
first_from x false h g k = all_of x (low x ∷ all x ∷ []) (three_by x false true false h g k)

-- of a finite interval: one piece, its two ends, or all three
pub first_one : (x : Interval) → InFormat x → legal_interval x true ≡ true → finite x.lower ≡ true → finite x.upper ≡ true → eq x.lower x.upper ≡ true → first_cut x true ≡ low x ∷ []
first_one x f h g k e =
    let narrow : width_is 1 x ≡ false = cases (width_is 1 x) (λ w. absurd (not_both x f w e)) (λ w. w) in
    thin_of x (low x ∷ all x ∷ high x ∷ []) (three_by x true true true h g k)
    ∙ same_of (low x) (all x) (high x) (point_one x.lower) (span_width 1 x ∙ narrow) (point_one x.upper) (same_low x true h ∙ e) (same_ends x true h ∙ e)

pub first_two : (x : Interval) → InFormat x → legal_interval x true ≡ true → finite x.lower ≡ true → finite x.upper ≡ true → width_is 1 x ≡ true → first_cut x true ≡ low x ∷ high x ∷ []
first_two x f h g k w =
    let apart : eq x.lower x.upper ≡ false = cases (eq x.lower x.upper) (λ e. absurd (not_both x f w e)) (λ e. e) in
    thin_of x (low x ∷ all x ∷ high x ∷ []) (three_by x true true true h g k)
    ∙ ends_of (low x) (all x) (high x) (point_one x.lower) (span_width 1 x ∙ w) (point_one x.upper) (same_ends x true h ∙ apart)

pub first_three : (x : Interval) → legal_interval x true ≡ true → finite x.lower ≡ true → finite x.upper ≡ true → eq x.lower x.upper ≡ false → width_is 1 x ≡ false → first_cut x true ≡ low x ∷ all x ∷ high x ∷ []
first_three x h g k e w =
    thin_of x (low x ∷ all x ∷ high x ∷ []) (three_by x true true true h g k)
    ∙ three_of (low x) (all x) (high x) (point_one x.lower) (span_width 1 x ∙ w) (point_one x.upper) (same_low x true h ∙ e) (same_high x true h ∙ e)

pub first_real : (x : Interval) → legal_interval x false ≡ true → finite x.lower ≡ true → finite x.upper ≡ true → first_cut x false ≡ low x ∷ all x ∷ high x ∷ []
first_real x h g k = all_of x (low x ∷ all x ∷ high x ∷ []) (three_by x false true true h g k)

-- ---- as it is made
module _ (x : Interval) (integer : Bool) (h : legal_interval x integer ≡ true) (p : put_interval x ≡ x) where
  pub made_whole : kind_of x.lower x.upper ≡ K.Whole → x ∷ [] ≡ first_cut x integer
  made_whole k = let e = kind_whole x.lower x.upper k in sym ((first_whole x integer h e.0 e.1) ∙ ap (λ (z : Interval). z ∷ []) p)

  pub made_up_to : (b : Float) (q : Interval) → kind_of x.lower x.upper ≡ K.UpTo b → q ≡ span_of b b → x ∷ q ∷ [] ≡ first_cut x integer
  made_up_to b q k d =
      let e = kind_up_to x.lower x.upper b k in
      ap (λ (z : Interval). x ∷ z ∷ []) (d ∙ ap (λ (z : Float). span_of z z) (sym e.2)) ∙ sym ((first_up_to x integer h e.0 e.1) ∙ ap (λ (z : Interval). z ∷ high x ∷ []) p)

  pub made_from : (a : Float) (q : Interval) → kind_of x.lower x.upper ≡ K.From a → q ≡ span_of a a → q ∷ x ∷ [] ≡ first_cut x integer
  made_from a q k d =
      let e = kind_from x.lower x.upper a k in
      ap (λ (z : Interval). z ∷ x ∷ []) (d ∙ ap (λ (z : Float). span_of z z) (sym e.2)) ∙ sym ((first_from x integer h e.0 e.1) ∙ ap (λ (z : Interval). low x ∷ z ∷ []) p)

  pub made_between : (a b : Float) → kind_of x.lower x.upper ≡ K.Between a b → pair_of a b ≡ x
  made_between a b k = let e = kind_between x.lower x.upper a b k in λ i. record { lower = sym e.2 i; upper = sym e.3 i }

  pub between_legal : (a b : Float) → kind_of x.lower x.upper ≡ K.Between a b → (legal_interval (pair_of a b) integer ≡ true) × T (finite a && finite b)
  between_legal a b k = (
    ap (λ (z : Interval). legal_interval z integer) (made_between a b k) ∙ h,
    subst (λ (z : Kind). T (finite_ends z)) k (kind_ends x.lower x.upper),
  )

-- of a finite interval, by the tests as they are made
module _ (a b : Float) (integer : Bool) (f : InFormat (pair_of a b)) (h : legal_interval (pair_of a b) integer ≡ true) (g : T (finite a && finite b)) where
  low_number : finite a ≡ true
  low_number = and_left (finite a) (finite b) (T→≡ (finite a && finite b) g)

  high_number : finite b ≡ true
  high_number = and_right (finite a) (finite b) (T→≡ (finite a && finite b) g)

  as_integer : integer ≡ true → legal_interval (pair_of a b) true ≡ true
  as_integer i = ap (legal_interval (pair_of a b)) (sym i) ∙ h

  pub made_one : (p : Interval) → p ≡ span_of a a → integer && eq a b ≡ true → p ∷ [] ≡ first_cut (pair_of a b) integer
  made_one p e t =
      let i = and_left integer (eq a b) t in
      ap (λ (z : Interval). z ∷ []) e ∙ sym (ap (λ (z : Bool). first_cut (pair_of a b) z) i ∙ (first_one (pair_of a b) f (as_integer i) low_number high_number (and_right integer (eq a b) t)))

  pub made_two : (p r : Interval) → p ≡ span_of a a → r ≡ span_of b b → integer && eq (sub binary64 b a) (of_bits binary64 0x3ff0_0000_0000_0000) ≡ true → p ∷ r ∷ [] ≡ first_cut (pair_of a b) integer
  made_two p r e d t =
      let w = eq (sub binary64 b a) (of_bits binary64 0x3ff0_0000_0000_0000) in
      let i = and_left integer w t in
      ap (λ (z : Interval). z ∷ r ∷ []) e ∙ ap (λ (z : Interval). span_of a a ∷ z ∷ []) d
      ∙ sym (ap (λ (z : Bool). first_cut (pair_of a b) z) i ∙ (first_two (pair_of a b) f (as_integer i) low_number high_number (sym (width_one (pair_of a b) f (as_integer i)) ∙ and_right integer w t)))

  pub made_three : (p q r : Interval) → p ≡ span_of a a → q ≡ span_of a b → r ≡ span_of b b → integer && eq a b ≡ false → integer && eq (sub binary64 b a) (of_bits binary64 0x3ff0_0000_0000_0000) ≡ false → p ∷ q ∷ r ∷ [] ≡ first_cut (pair_of a b) integer
  made_three p q r e k d s t = ap (λ (z : Interval). z ∷ q ∷ r ∷ []) e ∙ ap (λ (z : Interval). span_of a a ∷ z ∷ r ∷ []) k ∙ ap (λ (z : Interval). span_of a a ∷ span_of a b ∷ z ∷ []) d ∙ cases integer yes no
    where
      w : Bool
      w = eq (sub binary64 b a) (of_bits binary64 0x3ff0_0000_0000_0000)

      drop_yes : (u v : Bool) → u ≡ true → u && v ≡ false → v ≡ false
      drop_yes u v j k = ap (λ (z : Bool). z && v) (sym j) ∙ k

      yes : integer ≡ true → span_of a a ∷ span_of a b ∷ span_of b b ∷ [] ≡ first_cut (pair_of a b) integer
      yes i =
          sym (ap (λ (z : Bool). first_cut (pair_of a b) z) i
          ∙ (first_three (pair_of a b) (as_integer i) low_number high_number (drop_yes integer (eq a b) i s) (sym (width_one (pair_of a b) f (as_integer i)) ∙ drop_yes integer w i t)))

      no : integer ≡ false → span_of a a ∷ span_of a b ∷ span_of b b ∷ [] ≡ first_cut (pair_of a b) integer
      no i = sym (ap (λ (z : Bool). first_cut (pair_of a b) z) i ∙ (first_real (pair_of a b) (ap (legal_interval (pair_of a b)) (sym i) ∙ h) low_number high_number))
