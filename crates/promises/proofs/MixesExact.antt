-- Measures there are: exact ones, with fractions of a pixel for positions and ratios for reals; and any edges, exact or rounded, that neighbours share,
-- as an evaluator has whose regions are clipped to the picture and whose inner edges are computed once for both sides. Assumes nothing.
use Prim.Native.Nat.{ℕ}
use lib.IntN.{pos, ◌*ℤ◌}
use Rattle.theory.specs.Positions.{LiesBetween, SharedEdges, Fraction, LiesExactly}
use Rattle.theory.proofs.Theorems.{shared_edges_rule, fractions_rule}
use Rattle.boxes.specs.Ratios.{Ratio, ◌⊑◌, of_units}
use Rattle.boxes.proofs.Integers.{le_z_total}
use Rattle.promises.specs.Mixes.{Measures}

-- exact positions and exact reals
abbrev pub exactly : Measures
exactly =
    record {
      X = Fraction;
      Y = Fraction;
      LiesX = LiesExactly 48;
      LiesY = LiesExactly 48;
      ruler_x = fractions_rule 48;
      ruler_y = fractions_rule 48;
      Real = Ratio;
      AtMost = ◌⊑◌;
      in_order = λ a b. le_z_total (a.num *ℤ pos b.den) (b.num *ℤ pos a.den);
      of_units = of_units;
    }

-- positions between shared edges, and the reals of any measures
abbrev pub between_edges : (M : Measures) {X Y : Type 0} (LeX : X → X → Type 0) (left right : ℕ → ℕ → X) → SharedEdges LeX left right 48
    → (LeY : Y → Y → Type 0) (bottom top : ℕ → ℕ → Y) → SharedEdges LeY bottom top 48 → Measures
between_edges M {X} {Y} LeX left right ex LeY bottom top ey =
    record {
      X = X;
      Y = Y;
      LiesX = LiesBetween LeX left right;
      LiesY = LiesBetween LeY bottom top;
      ruler_x = shared_edges_rule LeX left right 48 ex;
      ruler_y = shared_edges_rule LeY bottom top 48 ey;
      Real = M.Real;
      AtMost = M.AtMost;
      in_order = M.in_order;
      of_units = M.of_units;
    }
