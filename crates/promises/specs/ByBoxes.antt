-- Document 02, (ii): an evaluator that judges boxes. It says no to a block after a look at the block's box alone: nothing within the outermost ends of its edges
-- solves the relation. Here the relation speaks of coordinates, and a mix stands where its position in pixels is mapped to, exactly.
use Rattle.std.specs.Prelude.{◌≡◌, Ok, ℕ, suc, ◌*◌, ◌^◌, pos}
use Rattle.std.proofs.Common.{pow_pos}
use Rattle.theory.specs.Colours.{said_false, skipped, Judgement, judgement}
use Rattle.boxes.specs.declared.Plot.{Plot}
use Rattle.boxes.specs.declared.BlockBox.{BlockBox}
use Rattle.boxes.specs.declared.transformation.MapKind.{MapKind}
use Rattle.boxes.specs.Ratios.{Ratio, ◌⊑◌}
use Rattle.boxes.specs.Boxes.{x_axis, y_axis, box_of}
use Rattle.boxes.specs.Enclosure.{mapped_to, Stand, WithinEnds}
use Rattle.queue.specs.declared.Block.{Block}
use Rattle.decide.specs.declared.Chosen.{Chosen}
use Rattle.promises.specs.Mixes.{Measures, Mix, HeldBy}

-- the low edge of index i of a rank, in pixels: i times 2^k, with k the rank less 48
abbrev pub edge_in_pixels : ℕ → ℕ → Ratio
edge_in_pixels rank i = record { num = pos (i * 2 ^ rank); den = 2 ^ 48; den_pos = pow_pos 48 }

-- positions that are exact: each is a ratio of pixels, and what lies in an index lies between its edges, or on one
pub record ExactPositions (M : Measures) : Type 0 where
  pub across : M.X → Ratio
  pub up : M.Y → Ratio
  pub lies_across : (i rank : ℕ) (x : M.X) → M.LiesX i rank x → (edge_in_pixels rank i ⊑ across x) × (across x ⊑ edge_in_pixels rank (suc i))
  pub lies_up : (i rank : ℕ) (y : M.Y) → M.LiesY i rank y → (edge_in_pixels rank i ⊑ up y) × (up y ⊑ edge_in_pixels rank (suc i))

-- where the plot's edges stand: left, right, bottom and top, each in its interval, left not right of right, bottom not above top
pub record PlotStands (plot : Plot) : Type 0 where
  pub X0 : Ratio
  pub X1 : Ratio
  pub Y0 : Ratio
  pub Y1 : Ratio
  pub left_right : Stand (x_axis plot) X0 X1
  pub bottom_top : Stand (y_axis plot) Y0 Y1
  pub to_the_right : X0 ⊑ X1
  pub upward : Y0 ⊑ Y1

-- the plot is of the chart's picture
abbrev pub PlotOf : Plot → Chosen → Type 0
PlotOf plot p = (plot.width ≡ p.width) × (plot.height ≡ p.height)

module _ (M : Measures) (plot : Plot) (Relation : (u v : Ratio) → Mix M → Type 0) where
  -- a mix solves the relation where it stands; of the mix itself the relation reads the parameters
  abbrev pub SolvesWhereItStands : ExactPositions M → PlotStands plot → Mix M → Type 0
  SolvesWhereItStands E s a =
      Relation (mapped_to (x_axis plot) s.X0 s.X1 (E.across a.x)) (mapped_to (y_axis plot) s.Y0 s.Y1 (E.up a.y)) a

  -- the block has a box, by either kind of map, and no place within its outermost ends solves the relation with parameters that the block holds
  unfoldable pub NoneInBox : Block → Type 0
  NoneInBox b =
      (kind : MapKind) × (k : BlockBox) × (box_of plot kind b.x b.y ≡ Ok k)
      × ((u v : Ratio) (a : Mix M) → WithinEnds k.edges.left k.edges.right u → WithinEnds k.edges.bottom k.edges.top v → HeldBy M b a → ¬ Relation u v a)

  -- a false verdict that was looked at was said of such a block
  unfoldable pub JudgedByBox : Judgement Block → Type 0
  JudgedByBox (judgement c v f) = ¬ (f ≡ skipped) → v ≡ said_false → NoneInBox c
