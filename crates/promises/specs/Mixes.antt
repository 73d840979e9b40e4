-- The question that a picture answers. A mix is a point of the plane with a value for each parameter: integers for m, n and n_theta, a real for t.
-- Here stands where mixes are given, in which pixel one lies, and which block holds it; whether it solves the relation is anybody's. Pixels and
-- indices have their edges, so that a point may lie in two neighbours.
use Rattle.std.specs.Prelude.{◌≡◌, ◌⊎◌, true, false, ℕ, ◌*◌, ◌/◌, ℤ, pos, ◌≤ℤ◌, Float}
use Rattle.std.specs.Float.{nan, inf, fin}
use Rattle.std.specs.Float.Ieee.{up, down}
use Rattle.theory.specs.Positions.{Ruler}
use Rattle.theory.specs.Cuts.{End, minus_inf, finite, plus_inf, Span, span, InSpan, Owes}
use Rattle.theory.specs.Colours.{Question}
use Rattle.interval.specs.declared.Interval.{Interval}
use Rattle.interval.specs.Bounds.{signed, in_units}
use Rattle.queue.specs.declared.Block.{Block}
use Rattle.queue.specs.declared.directions.Direction.{Direction}
use Rattle.queue.specs.declared.directions.Direction.TheVariants as D
use Rattle.queue.specs.Directions.{in_use}
use Rattle.queue.specs.Block.{whole_line}
use Rattle.decide.specs.declared.Chosen.{Chosen}
use Rattle.implicit.specs.declared.state.Ranges.{Ranges}
use Rattle.promises.specs.Chart.{Pixel, place_of_block}

-- what positions and reals are: any that meet this
pub record Measures : Type 1 where
  -- positions along x and along y, and when one lies in index i of rank j (a pixel's rank is 48): below a pixel, what lies in an index lies in one
  -- of its halves, and from a pixel up what lies in a half lies in the whole; exact edges do, and rounded ones that neighbours share
  pub X : Type 0
  pub Y : Type 0
  pub LiesX : ℕ → ℕ → X → Type 0
  pub LiesY : ℕ → ℕ → Y → Type 0
  pub ruler_x : Ruler 48 LiesX
  pub ruler_y : Ruler 48 LiesY
  -- reals, any two of them in order, with the one that is so many units of 2 ^ -1074: every f64 is a whole number of these
  pub Real : Type 0
  pub AtMost : Real → Real → Type 0
  pub in_order : (a b : Real) → AtMost a b ⊎ AtMost b a
  pub of_units : ℤ → Real

pub record Mix (M : Measures) : Type 0 where
  pub x : M.X
  pub y : M.Y
  pub m : ℤ
  pub n : ℤ
  pub theta : ℤ
  pub t : M.Real

-- the integer that a whole f64 stands for
unfoldable pub whole_of : Float → ℤ
whole_of nan = pos 0
whole_of (inf s) = pos 0
whole_of (fin s m e) = signed s (m * up e / down e)

-- the end that a bound stands for, by the number that a finite one does; NaN is no legal bound
unfoldable pub end_by : {N : Type 0} → (Float → N) → Float → End N
end_by f nan = plus_inf
end_by f (inf true) = minus_inf
end_by f (inf false) = plus_inf
end_by f (fin s m e) = finite (f (fin s m e))

abbrev pub span_by : {N : Type 0} → (Float → N) → Interval → Span N
span_by f v = span (end_by f v.lower) (end_by f v.upper)

-- the interval of an integer parameter, and of a real one
abbrev pub integers : Interval → Span ℤ
integers = span_by whole_of

abbrev pub reals : (M : Measures) → Interval → Span M.Real
reals M = span_by (λ x. M.of_units (in_units x))

-- the ranges that setup was given, for each parameter
abbrev pub range_of : Ranges → Direction → Interval
range_of r D.XY = whole_line
range_of r D.M = r.m
range_of r D.N = r.n
range_of r D.Theta = r.theta
range_of r D.T = r.t

module _ (M : Measures) where
  -- a parameter's value lies in an interval, its ends included
  unfoldable pub LiesIn : Direction → Interval → Mix M → Type 0
  LiesIn D.XY v a = Unit {0}
  LiesIn D.M v a = InSpan (λ i j. i ≤ℤ j) (integers v) a.m
  LiesIn D.N v a = InSpan (λ i j. i ≤ℤ j) (integers v) a.n
  LiesIn D.Theta v a = InSpan (λ i j. i ≤ℤ j) (integers v) a.theta
  LiesIn D.T v a = InSpan M.AtMost (reals M v) a.t

  -- a block with this interval holds the value: a real in it; of an integer parameter [i,i] holds i, and any other interval the integers
  -- strictly between its ends, which have blocks of their own
  unfoldable pub HeldIn : Direction → Interval → Mix M → Type 0
  HeldIn D.XY v a = Unit {0}
  HeldIn D.M v a = Owes (integers v) a.m
  HeldIn D.N v a = Owes (integers v) a.n
  HeldIn D.Theta v a = Owes (integers v) a.theta
  HeldIn D.T v a = InSpan M.AtMost (reals M v) a.t

  -- of every parameter; one that is not used is the whole line in every block
  abbrev pub HeldBy : Block → Mix M → Type 0
  HeldBy b a = HeldIn D.M b.m a × HeldIn D.N b.n a × HeldIn D.Theta b.theta a × HeldIn D.T b.t a

  -- the question: a mix is given if each used parameter lies in its range; it is one of a pixel by its position; and a block holds it by its
  -- place and by its parameters
  abbrev pub question_of : (p : Chosen) → Ranges → (Mix M → Type 0) → Question Block (Pixel p)
  question_of p r Solves =
      record {
        Mix = Mix M;
        Given = λ a. (d : Direction) → in_use p.set d ≡ true → LiesIn d (range_of r d) a;
        At = λ a q. M.LiesX q.x 48 a.x × M.LiesY q.y 48 a.y;
        In = λ b a. (M.LiesX (place_of_block b).x (place_of_block b).level a.x × M.LiesY (place_of_block b).y (place_of_block b).level a.y) × HeldBy b a;
        Solves = Solves;
      }
