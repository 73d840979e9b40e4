-- A block that has a box has passed every test, and the box's edges are those along the axes. Assumes nothing.
use mathlib.Core.Path.{◌≡◌, ap, ◌∙◌}
use mathlib.Core.Bool.{Bool, true, false, ◌&&◌, cond, false≢true}
use lib.Dec.{eqb}
use Rattle.base.proofs.Test.{and_left, and_right, cases}
use Rattle.std.specs.Prelude.{Result, Ok, Err}
use Rattle.refusal.specs.declared.Refusal.{Refusal}
use Rattle.refusal.specs.declared.Refusal.TheVariants as R
use Rattle.coordinate.specs.declared.Coordinate.{Coordinate}
use Rattle.coordinate.specs.Axis.{legal_side}
use Rattle.coordinate.specs.Lone.{place_right}
use Rattle.boxes.specs.declared.Plot.{Plot}
use Rattle.boxes.specs.declared.Edges.{Edges}
use Rattle.boxes.specs.declared.BlockBox.{BlockBox}
use Rattle.boxes.specs.declared.axis.AxisBox.{AxisBox}
use Rattle.boxes.specs.declared.transformation.MapKind.{MapKind}
use Rattle.boxes.specs.Pixels.{low_edge, high_edge}
use Rattle.boxes.specs.Boxes.{x_axis, y_axis, has_room, box_along, is_sound, joined, box_of}
use Rattle.boxes.specs.PixelsComputed.{Placed}
use Rattle.boxes.proofs.BoxLaws.{placed, side_small, room_of, sides, room, edges, places, box_1, box_16, box_3, box_8, box_found}
use Rattle.boxes.proofs.AxisEnclosures.{Sound}

is_box : Result BlockBox Refusal → Bool
is_box (Ok b) = true
is_box (Err why) = false

edges_in : Edges → Result BlockBox Refusal → Edges
edges_in d (Ok b) = b.edges
edges_in d (Err why) = d

abbrev pub edges_along : Plot → MapKind → Coordinate → Coordinate → Edges
edges_along p kind i j =
    record { left = low_edge kind (x_axis p) i; right = high_edge kind (x_axis p) i; bottom = low_edge kind (y_axis p) j; top = high_edge kind (y_axis p) j }

pub record Answered (p : Plot) (kind : MapKind) (i j : Coordinate) (e : Edges) : Type 0 where
  pub across : Sound (x_axis p)
  pub up : Sound (y_axis p)
  pub first : Placed i
  pub second : Placed j
  pub these : edges_along p kind i j ≡ e

module _ (p : Plot) (kind : MapKind) (i j : Coordinate) (b : BlockBox) (h : box_of p kind i j ≡ Ok b) where
  not_refused : (why : Refusal) → Err why ≡ box_of p kind i j → ⊥
  unfolding is_box
  not_refused why r = false≢true (ap is_box (r ∙ h))

  passes_sides : sides p kind i j ≡ true
  passes_sides = cases (sides p kind i j) (λ t. t) (λ t. absurd (not_refused R.Side (box_1 p kind i j t)))

  passes_room : room p kind i j ≡ true
  passes_room = cases (room p kind i j) (λ t. t) (λ t. absurd (not_refused R.Padding (box_16 p kind i j passes_sides t)))

  passes_edges : edges p kind i j ≡ true
  passes_edges = cases (edges p kind i j) (λ t. t) (λ t. absurd (not_refused R.Parameter (box_3 p kind i j passes_sides passes_room t)))

  pub passes_places : places p kind i j ≡ true
  passes_places = cases (places p kind i j) (λ t. t) (λ t. absurd (not_refused R.Damaged (box_8 p kind i j passes_sides passes_room passes_edges t)))

  these_edges : edges_along p kind i j ≡ b.edges
  unfolding is_box edges_in box_along
  these_edges =
      go (is_sound X && is_sound Y) (box_found p kind i j passes_sides passes_room passes_edges passes_places ∙ h)
    where
      X : AxisBox
      X = box_along kind (x_axis p) i

      Y : AxisBox
      Y = box_along kind (y_axis p) j

      go : (t : Bool) → cond t (Ok (joined (box_along kind (x_axis p) i) (box_along kind (y_axis p) j))) (Err R.Bounds) ≡ Ok b → edges_along p kind i j ≡ b.edges
      go true k = ap (edges_in b.edges) k
      go false k = absurd (false≢true (ap is_box k))

  pub answered : Answered p kind i j b.edges
  answered =
      let w = legal_side p.width in
      let v = legal_side p.height in
      let sw = and_left w v passes_sides in
      let sv = and_right w v passes_sides in
      let u = and_left (place_right p.width i && place_right p.height j) (eqb i.rank j.rank) passes_places in
      record {
        across = record { small = side_small p.width sw; room = room_of (x_axis p) (and_left (has_room (x_axis p)) (has_room (y_axis p)) passes_room) };
        up = record { small = side_small p.height sv; room = room_of (y_axis p) (and_right (has_room (x_axis p)) (has_room (y_axis p)) passes_room) };
        first = placed p.width i sw (and_left (place_right p.width i) (place_right p.height j) u);
        second = placed p.height j sv (and_right (place_right p.width i) (place_right p.height j) u);
        these = these_edges;
      }
