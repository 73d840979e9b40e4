-- How many bytes each part of a block's code takes, by the tests that the counting makes. Assumes nothing.
use mathlib.Core.Path.{◌≡◌, sym}
use mathlib.Core.Bool.{Bool, true, false}
use mathlib.Core.List.{List, [], ◌++◌}
use Prim.Native.Nat.{ℕ, ◌+◌}
use native.Mathlib.Omega.{arith}
use lib.ListN.{length, length-append}
use Rattle.interval.specs.declared.Interval.{Interval}
use Rattle.interval.specs.Bounds.{same_interval}
use Rattle.queue.specs.declared.Block.{Block}
use Rattle.queue.specs.declared.Last.{Last}
use Rattle.queue.specs.declared.directions.Direction.TheVariants as D
use Rattle.queue.specs.Directions.{in_use, parameters}
use Rattle.queue.specs.Code.{coordinate_code, parameter_code, parameters_code, place_code}
use Rattle.queue.proofs.WriteLaws.{bounds_length}

-- ---- a parameter

pub unused_length : (used : Bool) (last p : Interval) → used ≡ false → 0 ≡ length (parameter_code used last p)
unfolding parameter_code
unused_length used last p e = rw e

pub same_length : (used : Bool) (last p l q : Interval) → used ≡ true → l ≡ last → q ≡ p → same_interval q l ≡ true
    → 2 ≡ length (parameter_code used last p)
unfolding parameter_code
same_length used last p l q e f g h = rw (← f, ← g, e, h)

pub other_length : (used : Bool) (last p l q : Interval) → used ≡ true → l ≡ last → q ≡ p → same_interval q l ≡ false
    → 16 ≡ length (parameter_code used last p)
unfolding parameter_code
other_length used last p l q e f g h = rw (← f, ← g, e, h) (sym (bounds_length q))

-- ---- sums

pub parameters_length : (set : ℕ) (last : Last) (b : Block)
    → length (parameter_code (in_use set D.M) last.m b.m) + length (parameter_code (in_use set D.N) last.n b.n)
    + length (parameter_code (in_use set D.Theta) last.theta b.theta)
    + length (parameter_code (in_use set D.T) last.t b.t)
    ≡ length (parameters_code set last b parameters)
unfolding parameters_code
parameters_length set last b =
    let m : List ℕ = parameter_code (in_use set D.M) last.m b.m in
    let n : List ℕ = parameter_code (in_use set D.N) last.n b.n in
    let theta : List ℕ = parameter_code (in_use set D.Theta) last.theta b.theta in
    let t : List ℕ = parameter_code (in_use set D.T) last.t b.t in
    omega (
      arith,
      length-append m (n ++ (theta ++ (t ++ []))),
      length-append n (theta ++ (t ++ [])),
      length-append theta (t ++ []),
      length-append t [],
    )

pub place_length : (last : Last) (b : Block)
    → length (coordinate_code last.x b.x) + length (coordinate_code last.y b.y) ≡ length (place_code last b)
unfolding place_code
place_length last b = sym (length-append (coordinate_code last.x b.x) (coordinate_code last.y b.y))
