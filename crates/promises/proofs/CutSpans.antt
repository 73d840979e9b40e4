-- What intervals of f64s stand for: an interval put is the same one, a cut at c has the spans of a cut at the number that c is, and whole bounds are in
-- the order of their integers. Assumes nothing.
use mathlib.Core.Path.{◌≡◌, refl, ap, ap₂, ◌∙◌}
use mathlib.Core.Bool.{Bool, true, false}
use mathlib.Core.List.{map}
use Prim.Native.Nat.{zero, suc}
use lib.Dec.{T}
use lib.Ieee.{Float, nan, inf, fin}
use lib.Ieee.Scale.{finite}
use Rattle.theory.specs.Cuts.{End, span, later_pieces}
use Rattle.theory.specs.Cuts as Cut
use Rattle.interval.specs.declared.Interval.{Interval}
use Rattle.interval.specs.Bounds.{zero_as, put_interval}
use Rattle.interval.specs.Cuts.{pair_of, span_of, three_at}
use Rattle.promises.specs.Mixes.{end_by, span_by}

-- ---- spans

module _ {N : Type 0} (f : Float → N) where
  pub finite_end : (c : Float) → T (finite c) → end_by f c ≡ Cut.finite (f c)
  unfolding end_by
  finite_end nan g = absurd g
  finite_end (inf s) g = absurd g
  finite_end (fin s m e) g = refl

  module _ (same : (t : Bool) (x : Float) → f (zero_as t x) ≡ f x) where
    -- a zero's sign plays no part
    end_put : (t : Bool) (x : Float) → end_by f (zero_as t x) ≡ end_by f x
    unfolding end_by zero_as
    end_put t nan = refl
    end_put t (inf s) = refl
    end_put t (fin s zero e) = ap Cut.finite (same t (fin s zero e))
    end_put t (fin s (suc m) e) = refl

    pub span_put : (v : Interval) → span_by f (put_interval v) ≡ span_by f v
    unfolding put_interval
    span_put v = ap₂ (λ (a b : End N). span a b) (end_put true v.lower) (end_put false v.upper)

    -- the pieces of a cut at c
    pub three_spans : (v : Interval) (c : Float) → T (finite c) → map (span_by f) (three_at v c) ≡ later_pieces (f c) (span_by f v)
    unfolding later_pieces
    three_spans v c g =
        let e = finite_end c g in
        let l : span_by f (span_of v.lower c) ≡ span (end_by f v.lower) (Cut.finite (f c)) = span_put (pair_of v.lower c) ∙ ap (λ (z : End N). span (end_by f v.lower) z) e in
        let m : span_by f (span_of c c) ≡ span (Cut.finite (f c)) (Cut.finite (f c)) = span_put (pair_of c c) ∙ ap (λ (z : End N). span z z) e in
        let r : span_by f (span_of c v.upper) ≡ span (Cut.finite (f c)) (end_by f v.upper) = span_put (pair_of c v.upper) ∙ ap (λ (z : End N). span z (end_by f v.upper)) e in
        rw (l, m, r)
