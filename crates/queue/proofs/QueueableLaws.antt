-- What it says of a block that it can be queued, and of remembered values that they are ones a block can have.
-- Assumes nothing.
use mathlib.Core.Path.{◌≡◌, ◌∙◌}
use mathlib.Core.Bool.{Bool, true, false, ◌&&◌}
use Prim.Native.Nat.{ℕ, ◌^◌, ◌≤◌, ◌<◌}
use native.Mathlib.Omega.{arith}
use lib.Dec.{ltb}
use lib.ListN.{length}
use borrow.Author.Tests.{ltb-true}
use Rattle.base.proofs.Test.{and_left, and_right, and_six}
use Rattle.coordinate.specs.Axis.{ordinary_floor}
use Rattle.coordinate.specs.Lone.{legal}
use Rattle.coordinate.proofs.PixelLaws.{Ranged, ranged}
use Rattle.interval.specs.declared.Interval.{Interval}
use Rattle.interval.specs.Bounds.{legal_interval}
use Rattle.queue.specs.declared.Block.{Block}
use Rattle.queue.specs.declared.Last.{Last}
use Rattle.queue.specs.declared.directions.Direction.{Direction}
use Rattle.queue.specs.declared.directions.Direction.TheVariants as D
use Rattle.queue.specs.Directions.{in_use, parameters}
use Rattle.queue.specs.Block.{is_integer}
use Rattle.queue.specs.Code.{encode, legal_if_used, parameters_legal, can_queue, indices_known}
use Rattle.queue.proofs.WriteLaws.{place_few, parameters_few, encode_length}

-- a parameter by whether it is used
pub legal_unused : (set : ℕ) (d : Direction) (p : Interval) → in_use set d ≡ false → true ≡ legal_if_used set d p
legal_unused set d p e = rw e

pub legal_used : (set : ℕ) (d : Direction) (p : Interval) (integer r : Bool) → in_use set d ≡ true → integer ≡ is_integer d
    → r ≡ legal_interval p integer → r ≡ legal_if_used set d p
legal_used set d p integer r e g h = h ∙ rw (g, e)

-- each of the four
pub each_legal : (set : ℕ) (m n theta t : Interval) → parameters_legal set m n theta t ≡ true
    → (legal_if_used set D.M m ≡ true) × (legal_if_used set D.N n ≡ true) × (legal_if_used set D.Theta theta ≡ true)
    × (legal_if_used set D.T t ≡ true)
each_legal set m n theta t e =
    let f = and_six true true (legal_if_used set D.M m) (legal_if_used set D.N n) (legal_if_used set D.Theta theta)
    (legal_if_used set D.T t) e in
    (f.2, f.3, f.4, f.5)

pub record Tested (set : ℕ) (b : Block) : Type 0 where
  pub x : Ranged 16 b.x.rank b.x.index
  pub y : Ranged 16 b.y.rank b.y.index
  pub m : legal_if_used set D.M b.m ≡ true
  pub n : legal_if_used set D.N b.n ≡ true
  pub theta : legal_if_used set D.Theta b.theta ≡ true
  pub t : legal_if_used set D.T b.t ≡ true

pub queueable : (set : ℕ) (b : Block) → can_queue set b ≡ true → Tested set b
unfolding can_queue
queueable set b e =
    let x : Bool = legal ordinary_floor b.x in
    let y : Bool = legal ordinary_floor b.y in
    let fine : Bool = parameters_legal set b.m b.n b.theta b.t in
    let place : x && y ≡ true = and_left (x && y) fine e in
    let (m, n, theta, t) = each_legal set b.m b.n b.theta b.t (and_right (x && y) fine e) in
    record {
      x = ranged 16 b.x.rank b.x.index (and_left x y place);
      y = ranged 16 b.y.rank b.y.index (and_right x y place);
      m = m;
      n = n;
      theta = theta;
      t = t;
    }

pub known_indices : (last : Last) → indices_known last ≡ true → (last.x < 2 ^ 47) × (last.y < 2 ^ 47)
unfolding indices_known
known_indices last e = (
  ltb-true last.x (2 ^ 47) (and_left (ltb last.x (2 ^ 47)) (ltb last.y (2 ^ 47)) e),
  ltb-true last.y (2 ^ 47) (and_right (ltb last.x (2 ^ 47)) (ltb last.y (2 ^ 47)) e),
)

-- the longest code
pub encode_few : (set : ℕ) (last : Last) (b : Block) → can_queue set b ≡ true → indices_known last ≡ true
    → length (encode set last b) ≤ 83
encode_few set last b e f =
    let q = queueable set b e in
    let k = known_indices last f in
    omega (
      arith,
      encode_length set last b,
      place_few last b k.0 k.1 q.x.bound q.y.bound,
      parameters_few set last b parameters,
    )
