-- The cut point of [-inf, b]: a number at most b, never -0, and whole where b is (`up_to_good`).
-- Assumes nothing.
use Rattle.std.proofs.Common.{◌≡◌, ℕ, suc, ◌*◌, ◌/◌, ◌^◌, ◌<◌, ◌≤◌, Bool, true, false, cond, not, T, ltb, ℤ, pos, neg_ℤ, sym, refl, ap, ◌∙◌, subst, ⊎_elim, lt_of_le_of_lt, mul_assoc, eq-zero-or-pos, pow-suc, mul_right_comm, arith, lit<, le→leb, nltb→le, pow_pos, le-ltb, lt-ltb}
use lib.Signed.{le_z, lt_z}
use lib.Ieee.{Float, nan, inf, fin, binary64, round, le, fits}
use lib.Ieee.Fits.{round-fits}
use lib.Ieee.Exact.{HasValue, round_exact}
use lib.Ieee.Scale.{finite}
use Rattle.interval.proofs.Naturals.{twice_pos}
use Rattle.interval.proofs.Zeros.{signed_zero}
use Rattle.interval.specs.Bounds.{signed, in_units, plus_zero, zero_as, whole_bound}
use Rattle.interval.specs.Middle.{rounded, largest_finite}
use Rattle.interval.specs.Kinds.{largest_units, cut_up_to}
use Rattle.interval.proofs.Value.{Placed, placed}
use Rattle.interval.proofs.Halving.{at_most_max}
use Rattle.interval.proofs.HalfSum.{units_of}
use Rattle.interval.proofs.Compare.{le_at}
use Rattle.interval.proofs.UnitsOrder.{le_is}
use Rattle.interval.proofs.WholeRounding.{plus_nonzero}
use Rattle.interval.proofs.Wholeness.{times_whole, whole_times}
use Rattle.interval.proofs.WholeOrder.{neg_le_z, cross_le_z, value_finite}
use Rattle.interval.proofs.CutUpTo.{cut_units, nought_fits}

pub record Good (c b : Float) : Type 0 where
  pub number : T (finite c)
  pub format : T (fits binary64 c)
  pub under : T (le c b)
  pub put : plus_zero c ≡ c
  pub whole : whole_bound b ≡ true → whole_bound c ≡ true

module _ (b : Float) (t : Bool) (y : ℕ) (w : HasValue b t y (2 ^ 1074)) where
  -- by its units
  by_units : (c : Float) (s : Bool) (x : ℕ) → HasValue c s x (2 ^ 1074) → T (fits binary64 c) → T (le_z (signed s x) (signed t y)) → plus_zero c ≡ c → (whole_bound b ≡ true → whole_bound c ≡ true) → Good c b
  by_units c s x v f h p k =
      record {
        number = value_finite c s x (2 ^ 1074) v;
        format = f;
        under = subst T (sym (le_at c b s x t y (2 ^ 1074) (pow_pos 1074) v w ∙ le_is s x t y)) h;
        put = p;
        whole = k;
      }

-- ---- the numbers that are given
least_fits : T (fits binary64 (largest_finite true))
unfolding fits
least_fits = tt

least_put : plus_zero (largest_finite true) ≡ largest_finite true
unfolding zero_as
least_put = refl

least_whole : whole_bound (largest_finite true) ≡ true
unfolding whole_bound in_units
least_whole = refl

pub nought_put : plus_zero (fin false 0 (pos 0)) ≡ fin false 0 (pos 0)
unfolding zero_as
nought_put = refl

pub nought_whole : whole_bound (fin false 0 (pos 0)) ≡ true
unfolding whole_bound in_units
nought_whole = refl

one_fits : T (fits binary64 (fin true 1 (pos 0)))
unfolding fits
one_fits = tt

one_put : plus_zero (fin true 1 (pos 0)) ≡ fin true 1 (pos 0)
unfolding zero_as
one_put = refl

one_whole : whole_bound (fin true 1 (pos 0)) ≡ true
unfolding whole_bound in_units
one_whole = refl

-- ---- b below zero, at zero, above zero
-- twice b, where that does not pass the least finite number
pub double_value : (m : ℕ) (e : ℤ) (p : Placed binary64 true (fin true m e)) → p.m * 2 ^ p.j * 2 ≤ largest_units → HasValue (round binary64 true (p.m * 2 ^ p.j * 2) (2 ^ 1074)) true (p.m * 2 ^ p.j * 2) (2 ^ 1074)
double_value m e p k = round_exact binary64 true (p.m * 2 ^ p.j * 2) (2 ^ 1074) p.m (suc p.j) (pow_pos 1074) p.digits (subst (λ (z : ℕ). z < 2 ^ 2098) (sym twice) (lt_of_le_of_lt k (lit< tt))) (ap (λ (z : ℕ). z * 2 ^ 1074) (sym twice))
  where
    twice : p.m * 2 ^ suc p.j ≡ p.m * 2 ^ p.j * 2
    twice = ap (λ (z : ℕ). p.m * z) (pow-suc 2 p.j) ∙ sym (mul_assoc p.m (2 ^ p.j) 2)

below_zero : (m : ℕ) (e : ℤ) (p : Placed binary64 true (fin true m e)) → 0 < p.m * 2 ^ p.j → Good (cut_up_to (signed true (p.m * 2 ^ p.j))) (fin true m e)
below_zero m e p h = subst (λ (z : Float). Good z (fin true m e)) (sym (cut_units X h)) (go (ltb largest_units (X * 2)) (nltb→le largest_units (X * 2)))
  where
    U : ℕ
    U = 2 ^ 1074

    X : ℕ
    X = p.m * 2 ^ p.j

    more : (X : ℕ) → X ≤ X * 2
    more X = omega arith

    doubled : X * 2 ≤ largest_units → HasValue (round binary64 true (X * 2) U) true (X * 2) U
    doubled k = double_value m e p k

    go : (x : Bool) → (T (not x) → X * 2 ≤ largest_units) → Good (cond x (largest_finite true) (round binary64 true (X * 2) U)) (fin true m e)
    go true k =
        by_units (fin true m e) true X p.value (largest_finite true) true largest_units (refl, refl) least_fits
        (neg_le_z largest_units X (at_most_max 53 2045 p.m p.j p.digits p.under)) least_put (λ w. least_whole)
    go false k =
        by_units (fin true m e) true X p.value (round binary64 true (X * 2) U) true (X * 2) (doubled (k tt)) (round-fits binary64 true (X * 2) U) (neg_le_z (X * 2) X (more X))
        (plus_nonzero (round binary64 true (X * 2) U) true (X * 2) U (twice_pos X h) (doubled (k tt)))
        (λ (w : whole_bound (fin true m e) ≡ true). times_whole (round binary64 true (X * 2) U) true (X / U * 2)
        (subst (λ (z : ℕ). HasValue (round binary64 true (X * 2) U) true z U) (ap (λ (z : ℕ). z * 2) (whole_times true m e X p.value w) ∙ mul_right_comm (X / U) U 2) (doubled (k tt))))

at_nought : (b : Float) (t : Bool) → HasValue b t 0 (2 ^ 1074) → Good (cut_up_to (pos 0)) b
at_nought b true v = by_units b true 0 v (fin true 1 (pos 0)) true (2 ^ 1074) (refl, refl) one_fits (cross_le_z (2 ^ 1074) 0) one_put (λ w. one_whole)
at_nought b false v = by_units b false 0 v (fin true 1 (pos 0)) true (2 ^ 1074) (refl, refl) one_fits (cross_le_z (2 ^ 1074) 0) one_put (λ w. one_whole)

-- above zero it is 0
pub up_above : (X : ℕ) → 0 < X → cut_up_to (pos X) ≡ fin false 0 (pos 0)
up_above X h = ap (λ (z : Bool). cond z (cond (lt_z (pos (X * 2)) (neg_ℤ (pos largest_units))) (largest_finite true) (rounded (pos (X * 2)) (2 ^ 1074))) (cond (ltb 0 X) (fin false 0 (pos 0)) (fin true 1 (pos 0)))) (le-ltb X 0 (omega arith)) ∙ ap (λ (z : Bool). cond z (fin false 0 (pos 0)) (fin true 1 (pos 0))) (lt-ltb 0 X h)

above_zero : (b : Float) (X : ℕ) → 0 < X → HasValue b false X (2 ^ 1074) → Good (cut_up_to (pos X)) b
above_zero b X h v =
    subst (λ (z : Float). Good z b) (sym (up_above X h))
    (by_units b false X v (fin false 0 (pos 0)) false 0 (refl, refl) nought_fits (le→leb 0 X (omega arith)) nought_put (λ w. nought_whole))

pub up_to_good : (b : Float) → T (fits binary64 b) → T (finite b) → Good (cut_up_to (in_units b)) b
up_to_good nan f g = absurd g
up_to_good (inf s) f g = absurd g
up_to_good (fin s m e) f g = go s (placed binary64 s m e f)
  where
    none : (s : Bool) (p : Placed binary64 s (fin s m e)) → p.m * 2 ^ p.j ≡ 0 → Good (cut_up_to (signed s (p.m * 2 ^ p.j))) (fin s m e)
    none s p z = subst (λ (y : ℤ). Good (cut_up_to y) (fin s m e)) (sym (ap (signed s) z ∙ signed_zero s)) (at_nought (fin s m e) s (subst (λ (y : ℕ). HasValue (fin s m e) s y (2 ^ 1074)) z p.value))

    some : (s : Bool) (p : Placed binary64 s (fin s m e)) → 0 < p.m * 2 ^ p.j → Good (cut_up_to (signed s (p.m * 2 ^ p.j))) (fin s m e)
    some true p h = below_zero m e p h
    some false p h = above_zero (fin false m e) (p.m * 2 ^ p.j) h p.value

    go : (s : Bool) (p : Placed binary64 s (fin s m e)) → Good (cut_up_to (in_units (fin s m e))) (fin s m e)
    go s p = subst (λ (z : ℤ). Good (cut_up_to z) (fin s m e)) (sym (units_of s m e (p.m * 2 ^ p.j) p.value)) (⊎_elim (none s p) (some s p) (eq-zero-or-pos (p.m * 2 ^ p.j)))
