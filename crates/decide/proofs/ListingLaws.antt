-- Laws of the list of children: the halves and the pieces that it is made of, and how many there are. Assumes nothing.
use Rattle.std.specs.Prelude.{Option, Some, None}
use mathlib.Core.Path.{◌≡◌, sym, ap, ◌∙◌}
use mathlib.Core.Bool.{Bool, true, false}
use mathlib.Core.List.{List, [], ◌∷◌}
use Prim.Native.Nat.{ℕ, suc, ◌-◌, ◌≤◌}
use native.Mathlib.Omega.{arith}
use lib.Dec.{ltb}
use lib.ListN.{length, length-append}
use lib.ListN as L
use borrow.Author.Tests.{ltb-true}
use Rattle.base.proofs.Test.{by_test}
use Rattle.coordinate.specs.declared.Coordinate.{Coordinate}
use Rattle.coordinate.specs.Axis.{ordinary_floor, above_floor, inside}
use Rattle.coordinate.specs.Lone.{legal, low_half, high_half}
use Rattle.coordinate.proofs.PixelLaws.{halves_in_range, low_inside, ranged}
use Rattle.interval.specs.declared.Interval.{Interval}
use Rattle.interval.specs.Bounds.{put_interval}
use Rattle.interval.specs.Cuts.{later_cut, thinned, narrowed, width_is, span_of}
use Rattle.interval.specs.Kinds.{cut_point_of}
use Rattle.interval.proofs.LaterCut.{later_integer, later_real}
use Rattle.queue.specs.declared.Block.{Block}
use Rattle.queue.specs.declared.directions.Direction.{Direction}
use Rattle.queue.specs.declared.directions.Direction.TheVariants as D
use Rattle.queue.specs.Block.{is_integer, parameter_of, with_parameter}
use Rattle.decide.specs.declared.Chosen.{Chosen}
use Rattle.decide.specs.Damage.{sound, direction_of, direction_right}
use Rattle.decide.specs.Children.{quarters_of, begins_inside, kept_inside, children_xy, children_cut, children_along, children_of}
use Rattle.decide.proofs.DamageLaws.{Placed, is_sound}

-- THE QUARTERS

-- the halves of a coordinate inside, above the floor, are in the ranges
pub half_legal : (side : ℕ) (c : Coordinate) → side ≤ 32768 → Placed side c → above_floor ordinary_floor c.rank ≡ true
    → (legal ordinary_floor (low_half c) ≡ true) × (legal ordinary_floor (high_half c) ≡ true)
half_legal side c h l up =
    let k = ltb-true ordinary_floor c.rank up in
    let r : suc (c.rank - 1) ≡ c.rank = omega arith in
    let m = (ranged ordinary_floor c.rank c.index l.in_ranges).high in
    halves_in_range side ordinary_floor (c.rank - 1) c.index h (omega arith) (rw r m) (rw r l.inside_side)

-- a low half begins where its whole begins
pub low_begins : (side : ℕ) (c : Coordinate) → Placed side c → above_floor ordinary_floor c.rank ≡ true
    → inside side (low_half c).rank (low_half c).index ≡ true
low_begins side c l up =
    let k = ltb-true ordinary_floor c.rank up in
    let e : suc (c.rank - 1) ≡ c.rank = omega arith in
    low_inside side (c.rank - 1) c.index ∙ rw e l.inside_side

-- THE PIECES

-- a later cut has one to three pieces, on every interval
thinned_one : (q : Interval) → length (thinned q) ≤ 1
unfolding thinned
thinned_one q = by_test (λ l. length l ≤ 1) (width_is 1 q) [] (narrowed q ∷ []) (λ e. omega arith) (λ e. omega arith)

pub later_cut_count : (x : Interval) (integer : Bool) → (1 ≤ length (later_cut x integer)) × (length (later_cut x integer) ≤ 3)
later_cut_count x true =
    let c = cut_point_of x true in
    let l = thinned (span_of x.lower c) in
    let r = thinned (span_of c x.upper) in
    rw (later_integer x, length-append l (span_of c c ∷ r))
    (omega (arith, thinned_one (span_of x.lower c), thinned_one (span_of c x.upper)))
later_cut_count x false = rw (later_real x) (omega arith)

-- ALONG A DIRECTION

pub cut_along : (p : Chosen) (b : Block) (d : Direction) → sound p b ≡ true → direction_of p b ≡ Some d → d ≡ D.XY
    → above_floor ordinary_floor b.x.rank ≡ true
cut_along p b d ok e f =
    let s = (is_sound p b ok).block.directed in
    let g : direction_of p b ≡ Some D.XY = e ∙ ap Some f in
    sym (ap (direction_right p b) g) ∙ s

-- HOW MANY THERE ARE

pub kept_few : (p : Chosen) (l : List Block) → length (kept_inside p l) ≤ length l
unfolding kept_inside
kept_few p [] = omega arith
kept_few p (c ∷ l) =
    by_test (λ m. length m ≤ suc (length l)) (begins_inside p c) (c ∷ kept_inside p l) (kept_inside p l)
    (λ e. omega (arith, kept_few p l)) (λ e. omega (arith, kept_few p l))

pub cut_count : (b : Block) (d : Direction) → (1 ≤ length (children_cut b d)) × (length (children_cut b d) ≤ 3)
unfolding children_cut
cut_count b d =
    let l = later_cut (put_interval (parameter_of b d)) (is_integer d) in
    rw (L.length-map l (with_parameter b d)) (later_cut_count (put_interval (parameter_of b d)) (is_integer d))

xy_few : (p : Chosen) (b : Block) → length (children_xy p b) ≤ 4
unfolding children_xy quarters_of
xy_few p b =
    by_test (λ l. length l ≤ 4) (ltb 48 b.x.rank) (kept_inside p (quarters_of b)) (quarters_of b)
    (λ e. omega (arith, kept_few p (quarters_of b))) (λ e. omega arith)

along_few : (p : Chosen) (b : Block) (a : Option Direction) → length (children_along p b a) ≤ 4
along_few p b (Some D.XY) = xy_few p b
along_few p b (Some D.M) = omega (arith, cut_count b D.M)
along_few p b (Some D.N) = omega (arith, cut_count b D.N)
along_few p b (Some D.Theta) = omega (arith, cut_count b D.Theta)
along_few p b (Some D.T) = omega (arith, cut_count b D.T)
along_few p b None = omega arith

-- four at most
pub children_few : (p : Chosen) (b : Block) → length (children_of p b) ≤ 4
unfolding children_of
children_few p b =
    by_test (λ l. length l ≤ 4) (sound p b) (children_along p b (direction_of p b)) []
    (λ e. along_few p b (direction_of p b)) (λ e. omega arith)

-- and none of a damaged block
pub unsound : (p : Chosen) (b : Block) → sound p b ≡ false → children_of p b ≡ []
unfolding children_of
unsound p b bad = rw bad
