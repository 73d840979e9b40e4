-- The later cut: its pieces are legal and put (`later_proper`), one to three (`later_few`), and the code's tests choose the same
-- (`later_yes`, `later_no`). A point has no width, so the middle piece always stays. Assumes nothing.
use Rattle.std.proofs.Common.{◌≡◌, ℕ, ◌*◌, ◌^◌, ◌<◌, Bool, true, false, cond, ◌&&◌, T, eqb, List, [], ◌∷◌, ◌++◌, ℤ, ◌-ℤ◌, nat_abs, sym, refl, ap, ◌∙◌, subst, append-nil, lt_irrefl, lit<, ne_eqb}
use mathlib.Core.Bool.{and-false}
use lib.IntN.{+ℤ_invr}
use lib.Ieee.{Float, binary64, fits, le}
use lib.Ieee.Scale.{finite}
use Rattle.base.proofs.Test.{≡→T, and_left, by_test, cond_yes, cond_no}
use Rattle.base.specs.Lists.{Every}
use Rattle.base.proofs.ListLaws.{every_append}
use Rattle.interval.specs.declared.Interval.{Interval}
use Rattle.interval.specs.Bounds.{in_units, legal_interval, put_interval, InFormat, zero_as}
use Rattle.interval.specs.Kinds.{midpoint_of, cut_point_of}
use Rattle.interval.specs.Cuts.{width_is, subdivisible, span_of, narrowed, thinned, three_at, later_cut}
use Rattle.interval.proofs.Zeros.{as_units}
use Rattle.interval.proofs.Legality.{legal_bounds_lem, whole_ends}
use Rattle.interval.proofs.CutPoint.{Divides, cut_good, half_divides}
use Rattle.interval.proofs.Middles.{two_apart, middle_half, middle_whole}
use Rattle.interval.proofs.ProperPieces.{Proper, Few, span_proper, order_of, low_of, high_of, bounds_from, number_low, number_high, point_bounds}

-- ---- a point has no width
no_width : (k : ℕ) (c : Float) → (0 ≡ k * 2 ^ 1074 → ⊥) → width_is k (span_of c c) ≡ false
unfolding width_is put_interval
no_width k c h =
    ap (λ (z : Bool). finite (zero_as true c) && finite (zero_as false c) && z)
    (ap (λ (z : ℤ). eqb (nat_abs (z -ℤ in_units (zero_as true c))) (k * 2 ^ 1074)) (as_units false c ∙ sym (as_units true c))
    ∙ ap (λ (z : ℤ). eqb (nat_abs z) (k * 2 ^ 1074)) (+ℤ_invr (in_units (zero_as true c)))
    ∙ ne_eqb 0 (k * 2 ^ 1074) h)
    ∙ and-false (finite (zero_as true c) && finite (zero_as false c))

nonzero : (n : ℕ) → 0 < n → 0 ≡ n → ⊥
nonzero n h e = lt_irrefl 0 (subst (λ (z : ℕ). 0 < z) (sym e) h)

pub point_one : (c : Float) → width_is 1 (span_of c c) ≡ false
point_one c = no_width 1 c (nonzero (1 * 2 ^ 1074) (lit< tt))

pub point_two : (c : Float) → width_is 2 (span_of c c) ≡ false
point_two c = no_width 2 c (nonzero (2 * 2 ^ 1074) (lit< tt))

-- so it stays
pub point_thinned : (c : Float) → thinned (span_of c c) ≡ span_of c c ∷ []
unfolding thinned narrowed
point_thinned c =
    let p = span_of c c in
    ap (λ (z : Bool). cond z [] (cond (width_is 2 p && subdivisible p true) (span_of (midpoint_of p) (midpoint_of p)) p ∷ [])) (point_one c)
    ∙ ap (λ (z : Bool). cond (z && subdivisible p true) (span_of (midpoint_of p) (midpoint_of p)) p ∷ []) (point_two c)

-- ---- the three pieces
pub record Three (integer : Bool) (x : Interval) (c : Float) : Type 0 where
  pub left : Proper integer (span_of x.lower c)
  pub middle : Proper integer (span_of c c)
  pub right : Proper integer (span_of c x.upper)

pub three_proper : (x : Interval) (integer : Bool) → InFormat x → legal_interval x integer ≡ true → Three integer x (cut_point_of x integer)
three_proper x integer f h =
    let a = x.lower in
    let b = x.upper in
    let c = cut_point_of x integer in
    let d : Divides a b integer c = cut_good x integer f h in
    let l = legal_bounds_lem x integer h in
    record {
      left = span_proper a c integer f.0 d.format (bounds_from a c d.low (low_of a b l) (number_high c d.number)) (λ e. ((whole_ends x integer h e).0, d.whole e));
      middle = span_proper c c integer d.format d.format (point_bounds a c d.low d.number) (λ e. (d.whole e, d.whole e));
      right = span_proper c b integer d.format f.1 (bounds_from c b d.high (number_low c d.number) (high_of a b l)) (λ e. (d.whole e, (whole_ends x integer h e).1));
    }

-- ---- a piece of an integer parameter, thinned
-- nothing, or one proper piece
abbrev pub OneAtMost : List Interval → Type 0
OneAtMost [] = T true
OneAtMost (p ∷ []) = Proper true p
OneAtMost (p ∷ q ∷ l) = T false

middle_proper : (p : Interval) → Proper true p → width_is 2 p ≡ true → Proper true (span_of (midpoint_of p) (midpoint_of p))
middle_proper p h w =
    let t = two_apart p w in
    let a = p.lower in
    let b = p.upper in
    let e = middle_half p t.lower t.upper in
    let d = half_divides a b h.format.0 h.format.1 t.lower t.upper (≡→T (order_of a b (legal_bounds_lem p true h.legal))) in
    let g : T (finite (midpoint_of p)) = subst (λ (z : Float). T (finite z)) (sym e) d.number in
    let f : T (fits binary64 (midpoint_of p)) = subst (λ (z : Float). T (fits binary64 z)) (sym e) d.format in
    let whole = middle_whole p h.format h.legal w in
    span_proper (midpoint_of p) (midpoint_of p) true f f (point_bounds a (midpoint_of p) (ap (le a) e ∙ d.low) g) (λ k. (whole, whole))

narrowed_proper : (p : Interval) → Proper true p → Proper true (narrowed p)
unfolding narrowed
narrowed_proper p h = by_test (Proper true) (width_is 2 p && subdivisible p true) (span_of (midpoint_of p) (midpoint_of p)) p (λ e. middle_proper p h (and_left (width_is 2 p) (subdivisible p true) e)) (λ e. h)

pub thinned_proper : (p : Interval) → Proper true p → OneAtMost (thinned p)
unfolding thinned
thinned_proper p h = by_test OneAtMost (width_is 1 p) [] (narrowed p ∷ []) (λ e. tt) (λ e. narrowed_proper p h)

-- ---- all of them
thin_each : (l : List Interval) → OneAtMost l → Every (Proper true) l
thin_each [] h = tt
thin_each (p ∷ []) h = (h, tt)
thin_each (p ∷ q ∷ l) h = absurd h

-- what stays on either side of the point
pub later_integer : (x : Interval) → later_cut x true ≡ thinned (span_of x.lower (cut_point_of x true)) ++ (span_of (cut_point_of x true) (cut_point_of x true) ∷ thinned (span_of (cut_point_of x true) x.upper))
unfolding later_cut
later_integer x =
    let c = cut_point_of x true in
    ap (λ (z : List Interval). thinned (span_of x.lower c) ++ (z ++ (thinned (span_of c x.upper) ++ []))) (point_thinned c)
    ∙ ap (λ (z : List Interval). thinned (span_of x.lower c) ++ (span_of c c ∷ z)) (append-nil (thinned (span_of c x.upper)))

pub later_real : (x : Interval) → later_cut x false ≡ three_at x (cut_point_of x false)
unfolding later_cut
later_real x = refl

few_sides : (l : List Interval) (p : Interval) (r : List Interval) → OneAtMost l → OneAtMost r → Few (l ++ (p ∷ r))
few_sides [] p [] h k = tt
few_sides [] p (q ∷ []) h k = tt
few_sides [] p (q ∷ s ∷ r) h k = absurd k
few_sides (u ∷ []) p [] h k = tt
few_sides (u ∷ []) p (q ∷ []) h k = tt
few_sides (u ∷ []) p (q ∷ s ∷ r) h k = absurd k
few_sides (u ∷ v ∷ l) p r h k = absurd h

pub later_proper : (x : Interval) (integer : Bool) → InFormat x → legal_interval x integer ≡ true → Every (Proper integer) (later_cut x integer)
later_proper x true f h =
    let t = three_proper x true f h in
    let c = cut_point_of x true in
    let l = thinned (span_of x.lower c) in
    let r = thinned (span_of c x.upper) in
    subst (Every (Proper true)) (sym (later_integer x))
    (every_append (Proper true) l (span_of c c ∷ r) (thin_each l (thinned_proper (span_of x.lower c) t.left)) (t.middle, thin_each r (thinned_proper (span_of c x.upper) t.right)))
later_proper x false f h = let t = three_proper x false f h in subst (Every (Proper false)) (sym (later_real x)) (t.left, (t.middle, (t.right, tt)))

pub later_few : (x : Interval) (integer : Bool) → InFormat x → legal_interval x integer ≡ true → Few (later_cut x integer)
later_few x true f h =
    let t = three_proper x true f h in
    let c = cut_point_of x true in
    subst Few (sym (later_integer x)) (few_sides (thinned (span_of x.lower c)) (span_of c c) (thinned (span_of c x.upper)) (thinned_proper (span_of x.lower c) t.left) (thinned_proper (span_of c x.upper) t.right))
later_few x false f h = subst Few (sym (later_real x)) tt

-- ---- as it is made
pub narrow_yes : (p q : Interval) (m : Float) → width_is 2 p && subdivisible p true ≡ true → m ≡ midpoint_of p → q ≡ span_of m m → q ≡ narrowed p
unfolding narrowed
narrow_yes p q m h e d = d ∙ ap (λ (z : Float). span_of z z) e ∙ sym (cond_yes (width_is 2 p && subdivisible p true) (span_of (midpoint_of p) (midpoint_of p)) p h)

pub narrow_no : (p : Interval) → width_is 2 p && subdivisible p true ≡ false → p ≡ narrowed p
unfolding narrowed
narrow_no p h = sym (cond_no (width_is 2 p && subdivisible p true) (span_of (midpoint_of p) (midpoint_of p)) p h)

module _ (x : Interval) (integer : Bool) (c : Float) (l p r : Interval) (e : c ≡ cut_point_of x integer) (el : l ≡ span_of x.lower c) (ep : p ≡ span_of c c) (er : r ≡ span_of c x.upper) where
  pub later_yes : integer ≡ true → thinned l ++ (p ∷ thinned r) ≡ later_cut x integer
  later_yes h =
      let at : c ≡ cut_point_of x true = e ∙ ap (cut_point_of x) h in
      ap (λ (z : Interval). thinned z ++ (p ∷ thinned r)) (el ∙ ap (λ (z : Float). span_of x.lower z) at)
      ∙ ap (λ (z : Interval). thinned (span_of x.lower (cut_point_of x true)) ++ (z ∷ thinned r)) (ep ∙ ap (λ (z : Float). span_of z z) at)
      ∙ ap (λ (z : Interval). thinned (span_of x.lower (cut_point_of x true)) ++ (span_of (cut_point_of x true) (cut_point_of x true) ∷ thinned z)) (er ∙ ap (λ (z : Float). span_of z x.upper) at)
      ∙ sym (later_integer x)
      ∙ ap (λ (z : Bool). later_cut x z) (sym h)

  pub later_no : integer ≡ false → l ∷ p ∷ r ∷ [] ≡ later_cut x integer
  later_no h =
      let at : c ≡ cut_point_of x false = e ∙ ap (cut_point_of x) h in
      ap (λ (z : Interval). z ∷ p ∷ r ∷ []) (el ∙ ap (λ (z : Float). span_of x.lower z) at)
      ∙ ap (λ (z : Interval). span_of x.lower (cut_point_of x false) ∷ z ∷ r ∷ []) (ep ∙ ap (λ (z : Float). span_of z z) at)
      ∙ ap (λ (z : Interval). span_of x.lower (cut_point_of x false) ∷ span_of (cut_point_of x false) (cut_point_of x false) ∷ z ∷ []) (er ∙ ap (λ (z : Float). span_of z x.upper) at)
      ∙ sym (later_real x)
      ∙ ap (λ (z : Bool). later_cut x z) (sym h)

  -- the outer pieces of an integer parameter are legal
  pub later_sides : InFormat x → legal_interval x integer ≡ true → integer ≡ true → (legal_interval l true ≡ true) × (legal_interval r true ≡ true)
  later_sides f h i =
      let t = three_proper x integer f h in (
        ap (legal_interval l) (sym i) ∙ ap (λ (z : Interval). legal_interval z integer) (el ∙ ap (λ (z : Float). span_of x.lower z) e) ∙ t.left.legal,
        ap (legal_interval r) (sym i) ∙ ap (λ (z : Interval). legal_interval z integer) (er ∙ ap (λ (z : Float). span_of z x.upper) e) ∙ t.right.legal,
      )
