-- The cells after a step's events: what stands in a pixel's cell follows `theory`'s rule. That their codes mean what was meant and that no pixel's becomes
-- damaged is `implicit`'s, CellsWhole. Assumes nothing.
use mathlib.Core.Path.{◌≡◌, refl, ap, ◌∙◌}
use mathlib.Core.Bool.{Bool, true, false, cond}
use mathlib.Core.List.{List, [], ◌∷◌}
use Prim.Native.Nat.{ℕ, suc, ◌*◌, ◌≤◌}
use lib.ListN.{length}
use Rattle.base.specs.Event.{Event, marks, queues, gives_up}
use Rattle.theory.specs.Runs.{cell_after}
use Rattle.image.specs.declared.Op.{Op}
use Rattle.image.specs.declared.Op.TheVariants as O
use Rattle.image.specs.Cell.{Cell, done_to}
use Rattle.image.specs.Painting.{pixel_cell}
use Rattle.image.proofs.BlockLaws.{painted_pixel}
use Rattle.queue.specs.declared.Block.{Block}
use Rattle.decide.specs.declared.Chosen.{Chosen}
use Rattle.plan.specs.Plan.{painted_under, cells_after}
use Rattle.plan.proofs.CoverLaws.{covers}
use Rattle.plan.proofs.EventLaws.{EachEvent}
pub use Rattle.implicit.proofs.CellsWhole.{Coded, meanings_coded, codes_back, coded_painted, coded_after, still_enough}
pub use Rattle.implicit.proofs.CellsWhole.{Whole, done_whole, PixelsWhole, whole_after}
use Rattle.promises.specs.Chart.{Pixel, covers_in}
use Rattle.promises.proofs.Snapshots.{standing, standing_at}
use Rattle.promises.proofs.Covering.{Level, covers_as}
use Rattle.promises.proofs.Standings.{mark_as, name_as, give_up_as}

-- A PIXEL'S CELL

module _ (p : Chosen) (c : Block) (even : Level c) (op : Op) (l : List Cell) (enough : p.width * p.height ≤ length l) (q : Pixel p) where
  -- what stands there once something is done to what a block covers
  standing_painted : standing_at p (painted_under p c op l) q
      ≡ cond (covers_in p c q) (standing (done_to op (pixel_cell p.width p.height q.x q.y l))) (standing_at p l q)
  unfolding standing_at
  standing_painted =
      ap standing (painted_pixel c.x c.y p.width p.height l enough op q.x q.y q.x_in q.y_in)
      ∙ through (covers c q.x q.y)
      ∙ rw (covers_as p c q even)
    where
      through : (t : Bool) → let v = pixel_cell p.width p.height q.x q.y l in
          standing (cond t (done_to op v) v) ≡ cond t (standing (done_to op v)) (standing v)
      through true = refl
      through false = refl

module _ (p : Chosen) (b : Block) (even : Level b) (number : ℕ) (q : Pixel p) where
  -- THE RULE OF THE EVENTS
  pub standing_after : (new : ℕ) (es : List (Event Block)) (l : List Cell) → p.width * p.height ≤ length l → EachEvent Level es
      → standing_at p (cells_after p b number new es l) q ≡ cell_after (covers_in p) false number b new es q (standing_at p l q)
  unfolding cells_after cell_after
  standing_after new [] l h e = refl
  standing_after new (marks c ∷ es) l h e =
      standing_after new es (painted_under p c O.Mark l) (still_enough p c O.Mark l h) e.1
      ∙ ap (cell_after (covers_in p) false number b new es q)
      (standing_painted p c e.0 O.Mark l h q ∙ rw (mark_as (pixel_cell p.width p.height q.x q.y l)))
  standing_after new (queues c ∷ es) l h e =
      standing_after (suc new) es (painted_under p c (O.Name number new) l) (still_enough p c (O.Name number new) l h) e.1
      ∙ ap (cell_after (covers_in p) false number b (suc new) es q)
      (standing_painted p c e.0 (O.Name number new) l h q ∙ unfold standing_at in rw (name_as number new (pixel_cell p.width p.height q.x q.y l)))
  standing_after new (gives_up ∷ es) l h e =
      standing_after new es (painted_under p b O.GiveUp l) (still_enough p b O.GiveUp l h) e
      ∙ ap (cell_after (covers_in p) false number b new es q)
      (standing_painted p b even O.GiveUp l h q ∙ unfold standing_at in rw (give_up_as (pixel_cell p.width p.height q.x q.y l)))
