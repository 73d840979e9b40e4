-- The places of a block's children along xy are the quarters of its place that `theory` counts. Assumes nothing.
use Rattle.std.specs.Prelude.{Some}
use mathlib.Core.Path.{◌≡◌, refl, sym, ap, ◌∙◌}
use mathlib.Core.Bool.{Bool, true, false, cond, ◌&&◌}
use mathlib.Core.List.{List, [], ◌∷◌, map}
use Prim.Native.Nat.{ℕ, suc, ◌+◌, ◌-◌, ◌*◌, ◌≤◌, ◌<◌}
use native.Mathlib.Omega.{arith}
use lib.Dec.{ltb}
use borrow.Author.Tests.{ltb-true, ltb-false, lt-ltb, le-ltb}
use Rattle.base.proofs.Test.{cases}
use Rattle.coordinate.specs.declared.Coordinate.{Coordinate}
use Rattle.coordinate.specs.Axis.{ordinary_floor, pixel, inside}
use Rattle.coordinate.specs.Lone.{low_half, high_half}
use Rattle.coordinate.proofs.PixelLaws.{inside_pixel}
use Rattle.queue.specs.declared.Block.{Block}
use Rattle.queue.specs.declared.directions.Direction.TheVariants as D
use Rattle.decide.specs.declared.Chosen.{Chosen}
use Rattle.decide.specs.Damage.{sound, direction_of}
use Rattle.decide.specs.Children.{moved_to, quarters_of, begins_inside, kept_inside, children_xy, children_of}
use Rattle.decide.proofs.DamageLaws.{is_sound}
use Rattle.decide.proofs.ListingLaws.{cut_along}
use Rattle.theory.specs.Levels.{BlockPlace, place_at}
use Rattle.theory.specs.Shapes.{begins_in, is_listed, place_if, quarters_at, quarters}
use Rattle.promises.specs.Chart.{place_of_block}

-- a list of blocks with some left out, and the same of their places
kept_quarter : (p : Chosen) (b : Block) (l : List Block) (m : List BlockPlace) → map place_of_block (kept_inside p l) ≡ m
    → map place_of_block (kept_inside p (b ∷ l)) ≡ place_if (begins_inside p b) (place_of_block b) m
unfolding kept_inside place_if
kept_quarter p b l m e = go (begins_inside p b)
  where
    go : (t : Bool) → map place_of_block (cond t (b ∷ kept_inside p l) (kept_inside p l)) ≡ cond t (place_of_block b ∷ m) m
    go true = ap (λ (k : List BlockPlace). place_of_block b ∷ k) e
    go false = e

listed_above : (side rank i : ℕ) → 48 ≤ rank → is_listed 48 side rank i ≡ inside side rank i
unfolding is_listed begins_in pixel
listed_above side rank i h = rw (le-ltb rank 48 h) (sym (inside_pixel side rank i))

listed_below : (side rank i : ℕ) → rank < 48 → is_listed 48 side rank i ≡ true
unfolding is_listed
listed_below side rank i h = rw (lt-ltb rank 48 h)

same_place : (x y k x' y' k' : ℕ) → x ≡ x' → y ≡ y' → k ≡ k' → place_at x y k ≡ place_at x' y' k'
same_place x y k x' y' k' e f g = rw (e, f, g)

same_listed : (t u : Bool) (c d : BlockPlace) (l m : List BlockPlace) → t ≡ u → c ≡ d → l ≡ m → place_if t c l ≡ place_if u d m
same_listed t u c d l m e f g = rw (e, f, g)

module _ (p : Chosen) (b : Block) (j : ℕ) (ex : b.x.rank ≡ suc j) (ey : b.y.rank ≡ suc j) where
  -- the quarter at these halves, and the quarter that is counted
  module _ (x y : Coordinate) (i k : ℕ) (xr : x.rank ≡ b.x.rank - 1) (yr : y.rank ≡ b.y.rank - 1) (xi : x.index ≡ i) (yi : y.index ≡ k) where
    lower_x : x.rank ≡ j
    lower_x = omega arith

    lower_y : y.rank ≡ j
    lower_y = omega arith

    quarter_place : place_of_block (moved_to b x y) ≡ place_at i k j
    quarter_place = same_place x.index y.index x.rank i k j xi yi lower_x

    quarter_kept : 48 ≤ j → begins_inside p (moved_to b x y) ≡ (is_listed 48 p.width j i && is_listed 48 p.height j k)
    quarter_kept h = rw (lower_x, lower_y, xi, yi, listed_above p.width j i h, listed_above p.height j k h)

    quarter_all : j < 48 → true ≡ (is_listed 48 p.width j i && is_listed 48 p.height j k)
    quarter_all h = rw (listed_below p.width j i h, listed_below p.height j k h)

  abbrev xl : Coordinate
  xl = low_half b.x

  abbrev xh : Coordinate
  xh = high_half b.x

  abbrev yl : Coordinate
  yl = low_half b.y

  abbrev yh : Coordinate
  yh = high_half b.y

  abbrev u : ℕ
  u = b.x.index

  abbrev v : ℕ
  v = b.y.index

  -- whichever of the four are listed, by tests that agree with those that are counted
  four : (s : Coordinate → Coordinate → Bool)
      → ((x y : Coordinate) (i k : ℕ) → x.rank ≡ b.x.rank - 1 → y.rank ≡ b.y.rank - 1 → x.index ≡ i → y.index ≡ k → s x y ≡ (is_listed 48 p.width j i && is_listed 48 p.height j k))
      → place_if (s xl yl) (place_of_block (moved_to b xl yl)) (place_if (s xh yl) (place_of_block (moved_to b xh yl)) (place_if (s xl yh) (place_of_block (moved_to b xl yh)) (place_if (s xh yh) (place_of_block (moved_to b xh yh)) [])))
      ≡ quarters 48 p.width p.height (place_of_block b)
  unfolding quarters quarters_at
  four s f =
      let a : 2 * u ≡ u + u = omega arith in
      let c : 2 * u + 1 ≡ suc (u + u) = omega arith in
      let d : 2 * v ≡ v + v = omega arith in
      let g : 2 * v + 1 ≡ suc (v + v) = omega arith in
      same_listed (s xl yl) _ _ _ _ _ (f xl yl (u + u) (v + v) refl refl a d) (quarter_place xl yl (u + u) (v + v) refl refl a d)
      (same_listed (s xh yl) _ _ _ _ _ (f xh yl (suc (u + u)) (v + v) refl refl c d) (quarter_place xh yl (suc (u + u)) (v + v) refl refl c d)
      (same_listed (s xl yh) _ _ _ _ _ (f xl yh (u + u) (suc (v + v)) refl refl a g) (quarter_place xl yh (u + u) (suc (v + v)) refl refl a g)
      (same_listed (s xh yh) _ _ _ _ _ (f xh yh (suc (u + u)) (suc (v + v)) refl refl c g) (quarter_place xh yh (suc (u + u)) (suc (v + v)) refl refl c g) refl)))
      ∙ sym (ap (quarters_at 48 p.width p.height u v) ex)

  xy_places : map place_of_block (children_xy p b) ≡ quarters 48 p.width p.height (place_of_block b)
  unfolding children_xy quarters_of place_if
  xy_places =
      cases (ltb 48 b.x.rank)
      (λ e. (let h = ltb-true 48 b.x.rank e in
      rw e
      (kept_quarter p (moved_to b xl yl) (moved_to b xh yl ∷ moved_to b xl yh ∷ moved_to b xh yh ∷ []) _
      (kept_quarter p (moved_to b xh yl) (moved_to b xl yh ∷ moved_to b xh yh ∷ []) _
      (kept_quarter p (moved_to b xl yh) (moved_to b xh yh ∷ []) _
      (kept_quarter p (moved_to b xh yh) [] [] (unfold kept_inside in refl))))
      ∙ four (λ x y. begins_inside p (moved_to b x y)) (λ x y i k xr yr xi yi. quarter_kept x y i k xr yr xi yi (omega arith)))))
      (λ e. (let h = ltb-false 48 b.x.rank e in
      rw e (four (λ x y. true) (λ x y i k xr yr xi yi. quarter_all x y i k xr yr xi yi (omega arith)))))

-- the children of a sound block along xy lie at the quarters of its place
pub children_places : (p : Chosen) (b : Block) → sound p b ≡ true → direction_of p b ≡ Some D.XY
    → map place_of_block (children_of p b) ≡ quarters 48 p.width p.height (place_of_block b)
unfolding children_of
children_places p b ok e =
    let up = ltb-true ordinary_floor b.x.rank (cut_along p b D.XY ok e refl) in
    let r = (is_sound p b ok).block.ranks in
    rw (ok, e) (xy_places p b (b.x.rank - 1) (omega arith) (omega arith))
