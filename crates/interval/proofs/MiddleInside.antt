-- The midpoint of a legal interval lies between its bounds (`middle_inside`): a half line's is the largest number on its open side, and no number is
-- farther out; a finite interval's is the half sum. Assumes nothing.
use Rattle.std.proofs.Common.{◌≡◌, ℕ, ◌*◌, ◌^◌, ◌≤◌, Bool, true, false, ◌&&◌, T, sym, refl, ◌∙◌, subst, pow_pos}
use mathlib.Core.Bool.{false≢true}
use lib.Signed.{le_z}
use lib.Ieee.{Float, nan, inf, fin, binary64, fits, le, lt, neg}
use lib.Ieee.Scale.{finite}
use lib.Ieee.Fits.{neg-fits}
use Rattle.base.proofs.Test.{T→≡, ≡→T, and_left}
use Rattle.interval.specs.declared.Interval.{Interval}
use Rattle.interval.specs.Bounds.{signed, InFormat, legal_bounds, legal_interval}
use Rattle.interval.specs.Middle.{largest_finite}
use Rattle.interval.specs.Kinds.{kind_of, middle_at, midpoint_of, largest_units}
use Rattle.interval.proofs.Value.{Placed, placed}
use Rattle.interval.proofs.Compare.{le_at}
use Rattle.interval.proofs.UnitsOrder.{le_is}
use Rattle.interval.proofs.Halving.{at_most_max}
use Rattle.interval.proofs.Patterns.{le_neg, neg_neg}
use Rattle.interval.proofs.WholeOrder.{neg_le_z}
use Rattle.interval.proofs.CutUpTo.{neg_finite}
use Rattle.interval.proofs.CutPoint.{half_divides}
use Rattle.interval.proofs.Legality.{legal_bounds_lem}

-- no number is below the least of the format, or above the largest
under_all : (s : Bool) (y : ℕ) → y ≤ largest_units → T (le_z (signed true largest_units) (signed s y))
under_all true y h = neg_le_z largest_units y h
under_all false y h = tt

least_under : (b : Float) → T (fits binary64 b) → T (finite b) → T (le (largest_finite true) b)
least_under nan f g = absurd g
least_under (inf s) f g = absurd g
least_under (fin s m e) f g = go s (placed binary64 s m e f)
  where
    go : (t : Bool) (p : Placed binary64 t (fin t m e)) → T (le (largest_finite true) (fin t m e))
    go t p =
        let y = p.m * 2 ^ p.j in
        let e₁ = le_at (largest_finite true) (fin t m e) true largest_units t y (2 ^ 1074) (pow_pos 1074) (refl, refl) p.value in
        subst T (sym (e₁ ∙ le_is true largest_units t y)) (under_all t y (at_most_max 53 2045 p.m p.j p.digits p.under))

most_over : (a : Float) → T (fits binary64 a) → T (finite a) → T (le a (largest_finite false))
unfolding neg
most_over a f g =
    subst (λ (z : Float). T (le z (largest_finite false))) (neg_neg a)
    (le_neg (largest_finite true) (neg a) (least_under (neg a) (neg-fits binary64 a f) (neg_finite a g)))

-- every kind
ends_middle : (a b : Float) → T (fits binary64 a) → T (fits binary64 b) → legal_bounds a b ≡ true
    → (le a (middle_at (kind_of a b)) ≡ true) × (le (middle_at (kind_of a b)) b ≡ true)
unfolding le lt kind_of middle_at
ends_middle nan b f g h = absurd (false≢true h)
ends_middle (inf false) nan f g h = absurd (false≢true h)
ends_middle (inf false) (inf true) f g h = absurd (false≢true h)
ends_middle (inf false) (inf false) f g h = absurd (false≢true h)
ends_middle (inf false) (fin t n d) f g h = absurd (false≢true h)
ends_middle (inf true) nan f g h = absurd (false≢true h)
ends_middle (inf true) (inf true) f g h = absurd (false≢true h)
ends_middle (inf true) (inf false) f g h = (refl, refl)
ends_middle (inf true) (fin t n d) f g h = (refl, T→≡ (le (largest_finite true) (fin t n d)) (least_under (fin t n d) g tt))
ends_middle (fin s m e) nan f g h = absurd (false≢true h)
ends_middle (fin s m e) (inf true) f g h = absurd (false≢true h)
ends_middle (fin s m e) (inf false) f g h = (T→≡ (le (fin s m e) (largest_finite false)) (most_over (fin s m e) f tt), refl)
ends_middle (fin s m e) (fin t n d) f g h =
    let a = fin s m e in
    let b = fin t n d in
    let i = half_divides a b f g tt tt (≡→T (and_left (le a b) true (and_left (le a b && true) true h))) in
    (i.low, i.high)

pub middle_inside : (x : Interval) → InFormat x → legal_interval x false ≡ true → (le x.lower (midpoint_of x) ≡ true) × (le (midpoint_of x) x.upper ≡ true)
middle_inside x f h = ends_middle x.lower x.upper f.0 f.1 (legal_bounds_lem x false h)
