-- What the definitions of a box are in each case of their tests, for the functions' proofs. Assumes nothing.
use mathlib.Core.Path.{◌≡◌, refl, sym, ap, ◌∙◌, subst}
use Prim.Native.Nat.{ℕ, suc, ◌+◌, ◌-◌, ◌*◌, ◌%◌, ◌^◌, ◌≤◌, ◌<◌}
use native.Mathlib.Nat.{one-mul, mod-eq_of_lt, mul-le-mul_right, le_trans, le_of_eq, le_of_lt}
use native.Mathlib.Omega.{arith}
use mathlib.Core.Bool.{Bool, true, false, ◌&&◌, cond}
use lib.Dec.{leb, ltb, eqb, leb→le, ltb→lt}
use lib.Pow.{pow_pos, pow-lt, pow-add}
use Rattle.base.proofs.Test.{≡→T, cond_yes, cond_no, and_left, and_right, by_test}
use Rattle.std.specs.Prelude.{Result, Err}
use Rattle.refusal.specs.declared.Refusal.{Refusal}
use Rattle.refusal.specs.declared.Refusal.TheVariants as R
use Rattle.coordinate.specs.declared.Coordinate.{Coordinate}
use Rattle.coordinate.specs.Axis.{ordinary_floor, legal_side, inside}
use Rattle.coordinate.specs.Lone.{legal, place_right}
use Rattle.coordinate.proofs.PixelLaws.{inside_bound, ranged}
use Rattle.boxes.specs.declared.Plot.{Plot}
use Rattle.boxes.specs.declared.BlockBox.{BlockBox}
use Rattle.boxes.specs.declared.axis.PlotAxis.{PlotAxis}
use Rattle.boxes.specs.declared.transformation.MapKind.{MapKind}
use Rattle.boxes.specs.PixelsComputed.{Placed}
use Rattle.boxes.specs.Pixels.{parts_of, ends_at, clipped_end}
use Rattle.boxes.specs.Boxes.{on_pixel_edge, box_along, x_axis, y_axis, has_room, has_legal_edges, box_from, box_of}

-- ---- on a pixel's edge
width : (rank : ℕ) → 16 ≤ rank → 1 * 2 ^ (48 - rank) % 2 ^ 64 ≡ 2 ^ (48 - rank)
width rank h = ap (λ (z : ℕ). z % 2 ^ 64) (one-mul (2 ^ (48 - rank))) ∙ mod-eq_of_lt (pow-lt (few rank h))
  where
    few : (rank : ℕ) → 16 ≤ rank → suc (48 - rank) ≤ 64
    few rank h = omega arith

pub width_some : (rank : ℕ) → 16 ≤ rank → 0 < 1 * 2 ^ (48 - rank) % 2 ^ 64
width_some rank h = subst (λ (z : ℕ). 0 < z) (sym (width rank h)) (pow_pos (48 - rank))

pub on_below : (rank i : ℕ) → 16 ≤ rank → eqb (i % (1 * 2 ^ (48 - rank) % 2 ^ 64)) 0 ≡ on_pixel_edge rank i
on_below rank i h = ap (λ (z : ℕ). eqb (i % z) 0) (width rank h)

pub on_above : (rank i : ℕ) → 48 ≤ rank → true ≡ on_pixel_edge rank i
on_above rank i h = sym (ap (λ (z : ℕ). eqb (i % 2 ^ z) 0) (none rank h) ∙ ap (λ (z : ℕ). eqb z 0) (over_one i))
  where
    none : (rank : ℕ) → 48 ≤ rank → 48 - rank ≡ 0
    none rank h = omega arith

    over_one : (i : ℕ) → i % 1 ≡ 0
    over_one i = omega arith

-- what a test of an edge cites, in one name
pub ruleset pixel_edges = (width_some, on_below, on_above)

-- ---- clipped to the side
pub clip_le : (side : ℕ) (c : Coordinate) → clipped_end side c ≤ ends_at c
clip_le side c =
    by_test (λ (z : ℕ). z ≤ ends_at c) (leb 48 c.rank && ltb (parts_of side) (ends_at c)) (parts_of side) (ends_at c)
    (λ t. le_of_lt (ltb→lt (parts_of side) (ends_at c) (≡→T (and_right (leb 48 c.rank) (ltb (parts_of side) (ends_at c)) t))))
    (λ t. le_of_eq refl)

pub clip_room : (side : ℕ) (c : Coordinate) (n : ℕ) → n ≡ clipped_end side c → ends_at c ≤ 2 ^ 47 → n ≤ 2 ^ 53
clip_room side c n e h = few n (subst (λ (z : ℕ). z ≤ 2 ^ 47) (sym e) (le_trans (clip_le side c) h))
  where
    few : (n : ℕ) → n ≤ 2 ^ 47 → n ≤ 2 ^ 53
    few n h = omega arith

-- ---- what the functions of an axis ask for
ends_bound : (i rank : ℕ) → 16 ≤ rank → rank < 64 → i < 2 ^ (63 - rank) → (i + 1) * 2 ^ (rank - 16) ≤ 2 ^ 47
ends_bound i rank h k j =
    le_trans (mul-le-mul_right (2 ^ (rank - 16)) (next i (2 ^ (63 - rank)) j))
    (le_of_eq (sym (pow-add 2 (63 - rank) (rank - 16)) ∙ ap (λ (z : ℕ). 2 ^ z) (all rank h k)))
  where
    next : (i n : ℕ) → i < n → i + 1 ≤ n
    next i n h = omega arith

    all : (rank : ℕ) → 16 ≤ rank → rank < 64 → 63 - rank + (rank - 16) ≡ 47
    all rank h k = omega arith

pub side_small : (side : ℕ) → legal_side side ≡ true → side ≤ 32768
side_small side h = leb→le side 32768 (≡→T (and_right (leb 1 side) (leb side 32768) h))

pub placed : (side : ℕ) (c : Coordinate) → legal_side side ≡ true → place_right side c ≡ true → Placed c
placed side c s t =
    let l = and_left (legal ordinary_floor c) (inside side c.rank c.index) t in
    let r = ranged ordinary_floor c.rank c.index l in
    let i = inside_bound side c.rank c.index (side_small side s) r.high (and_right (legal ordinary_floor c) (inside side c.rank c.index) t) in
    record { low = r.low; high = r.high; index = r.bound; ends = ends_bound c.index c.rank r.low r.high i }

pub room_of : (a : PlotAxis) → has_room a ≡ true → a.before + a.after < a.side
room_of a h = ltb→lt (a.before + a.after) a.side (≡→T h)

-- ---- the entry, refusal by refusal
module _ (p : Plot) (kind : MapKind) (i j : Coordinate) where
  abbrev pub sides : Bool
  sides = legal_side p.width && legal_side p.height

  abbrev pub room : Bool
  room = has_room (x_axis p) && has_room (y_axis p)

  abbrev pub edges : Bool
  edges = has_legal_edges (x_axis p) && has_legal_edges (y_axis p)

  abbrev pub places : Bool
  places = place_right p.width i && place_right p.height j && eqb i.rank j.rank

  abbrev pub found : Result BlockBox Refusal
  found = box_from (box_along kind (x_axis p) i) (box_along kind (y_axis p) j)

  abbrev pub from_places : Result BlockBox Refusal
  from_places = cond places found (Err R.Damaged)

  abbrev pub from_edges : Result BlockBox Refusal
  from_edges = cond edges from_places (Err R.Parameter)

  abbrev pub from_room : Result BlockBox Refusal
  from_room = cond room from_edges (Err R.Padding)

  pub box_1 : sides ≡ false → Err R.Side ≡ box_of p kind i j
  unfolding box_of
  box_1 h = sym (cond_no sides from_room (Err R.Side) h)

  pub box_16 : sides ≡ true → room ≡ false → Err R.Padding ≡ box_of p kind i j
  unfolding box_of
  box_16 s h = sym (cond_yes sides from_room (Err R.Side) s ∙ cond_no room from_edges (Err R.Padding) h)

  pub box_3 : sides ≡ true → room ≡ true → edges ≡ false → Err R.Parameter ≡ box_of p kind i j
  unfolding box_of
  box_3 s r h =
      sym (cond_yes sides from_room (Err R.Side) s ∙ cond_yes room from_edges (Err R.Padding) r ∙ cond_no edges from_places (Err R.Parameter) h)

  pub box_8 : sides ≡ true → room ≡ true → edges ≡ true → places ≡ false → Err R.Damaged ≡ box_of p kind i j
  unfolding box_of
  box_8 s r e h =
      sym
      (cond_yes sides from_room (Err R.Side) s ∙ cond_yes room from_edges (Err R.Padding) r ∙ cond_yes edges from_places (Err R.Parameter) e
      ∙ cond_no places found (Err R.Damaged) h)

  pub box_found : sides ≡ true → room ≡ true → edges ≡ true → places ≡ true → found ≡ box_of p kind i j
  unfolding box_of
  box_found s r e h =
      sym
      (cond_yes sides from_room (Err R.Side) s ∙ cond_yes room from_edges (Err R.Padding) r ∙ cond_yes edges from_places (Err R.Parameter) e
      ∙ cond_yes places found (Err R.Damaged) h)
