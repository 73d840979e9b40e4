-- Where the queued blocks lie in a picture with x or y and no parameter: a block's children lie in the quarters of its place, in `theory`'s order.
-- Assumes nothing.
use Rattle.std.specs.Prelude.{Some, None}
use mathlib.Core.Path.{◌≡◌, refl}
use mathlib.Core.Bool.{true, false, ◌&&◌, false≢true}
use mathlib.Core.List.{List, [], ◌∷◌}
use Prim.Native.Nat.{ℕ, zero, suc, ◌<◌}
use lib.Dec.{eqb}
use lib.ListN.{length}
use borrow.Author.Tests.{ltb-true}
use Rattle.theory.specs.Levels.{QueuesChildren}
use Rattle.theory.specs.Shapes.{quarters}
use Rattle.coordinate.specs.Axis.{ordinary_floor}
use Rattle.queue.specs.declared.Block.{Block}
use Rattle.queue.specs.declared.directions.Direction.TheVariants as D
use Rattle.queue.specs.Directions.{used_of, directions, direction_at}
use Rattle.decide.specs.declared.Chosen.{Chosen}
use Rattle.decide.specs.Damage.{sound, direction_of, direction_right}
use Rattle.decide.specs.Children.{children_of}
use Rattle.plan.specs.Plan.{outcomes}
use Rattle.decide.proofs.DamageLaws.{is_sound}
use Rattle.decide.proofs.ListingLaws.{cut_along}
use Rattle.plan.proofs.EventLaws.{queued_sublist}
use Rattle.image.specs.Cell.{meanings}
use Rattle.implicit.specs.Step.{World}
use Rattle.promises.specs.Chart.{place_of_block, covers_in}
use Rattle.promises.specs.Steps.{PlaneOnly}
use Rattle.promises.proofs.Snapshots.{snapshot_of}
use Rattle.promises.proofs.Linked.{Linked, linked_events}
use Rattle.promises.proofs.JudgementPlaces.{children_places}

-- THE ONE DIRECTION

plane_directions : (p : Chosen) → PlaneOnly p → directions p.set ≡ D.XY ∷ []
unfolding directions used_of
plane_directions p o = rw (o.plane, o.no_parameter.0, o.no_parameter.1.0, o.no_parameter.1.1.0, o.no_parameter.1.1.1.0)

pub plane_along : (p : Chosen) (b : Block) → PlaneOnly p → sound p b ≡ true → direction_of p b ≡ Some D.XY
plane_along p b o ok = go b.dir refl (is_sound p b ok).block.directed
  where
    go : (n : ℕ) → b.dir ≡ n → direction_right p b (direction_of p b) ≡ true → direction_at (directions p.set) b.dir ≡ Some D.XY
    go zero e r = unfold direction_at in rw (plane_directions p o, e)
    go (suc n) e r =
        let d : direction_of p b ≡ None = unfold direction_at in rw (plane_directions p o, e) in
        let f : eqb (length (directions p.set)) 0 && eqb b.dir 0 ≡ true = rw d at r in
        let g : false ≡ true = rw (plane_directions p o) at f in
        absurd (false≢true g)

-- every undamaged block is above the floor
pub plane_above : (p : Chosen) (b : Block) → PlaneOnly p → sound p b ≡ true → ordinary_floor < b.x.rank
plane_above p b o ok = ltb-true ordinary_floor b.x.rank (cut_along p b D.XY ok (plane_along p b o ok) refl)

-- A STEP QUEUES NOTHING BUT QUARTERS
pub plane_queues : (p : Chosen) → PlaneOnly p → (w w' : World) (vs : List ℕ) (l : Linked p w vs w')
    → QueuesChildren (covers_in p) false place_of_block (quarters 48 p.width p.height) (snapshot_of p w) (snapshot_of p w') l.step
unfolding QueuesChildren
plane_queues p o w w' vs l =
    let b = l.step.front in
    rw (linked_events p w vs w' l, ← children_places p b l.front_sound (plane_along p b o l.front_sound))
    (queued_sublist place_of_block p b (λ c d. refl) (children_of p b) (outcomes p (meanings w.cells) (children_of p b) vs))
