-- A picture that uses neither x nor y: every block stays where the first ones are, covers the whole picture, and all cells are alike. Assumes nothing.
use Rattle.std.specs.Prelude.{Option, Some, None}
use mathlib.Core.Path.{◌≡◌, refl, sym, ◌∙◌, subst}
use mathlib.Core.Bool.{true, false, true≢false}
use mathlib.Core.List.{List, [], ◌∷◌}
use Prim.Native.Nat.{ℕ, ◌≤◌}
use lib.Dec.{T}
use Rattle.base.proofs.Test.{≡→T, and_both}
use Rattle.base.specs.Event.{Event, marks, queues, gives_up, queued_by}
use Rattle.base.specs.Lists.{Every}
use Rattle.base.proofs.ListLaws.{every_also, every_append}
use Rattle.theory.specs.Runs.{Snapshot, EveryStep}
use Rattle.theory.specs.Demand3.{AllWhole, GivesUpAlike, WholePicture}
use Rattle.theory.proofs.StandingLaws.{step_alike}
use Rattle.coordinate.proofs.Covering.{covers1}
use Rattle.coordinate.proofs.CoverLaws.{root_covers}
use Rattle.image.specs.Cell.{meanings}
use Rattle.queue.specs.declared.Block.{Block}
use Rattle.queue.specs.declared.directions.Direction.TheVariants as D
use Rattle.queue.specs.declared.directions.Direction.{Direction}
use Rattle.queue.specs.Directions.{in_use}
use Rattle.decide.specs.declared.Chosen.{Chosen}
use Rattle.decide.specs.Damage.{sound, direction_of}
use Rattle.decide.specs.Children.{children_cut, children_along, children_of}
use Rattle.plan.specs.Plan.{outcomes}
use Rattle.plan.proofs.PlaceLaws.{InPlace, cut_in_place}
use Rattle.plan.proofs.ChildLaws.{direction_in_use}
use Rattle.plan.proofs.EventLaws.{EachEvent}
use Rattle.implicit.specs.Setup.{start_level, first_blocks}
use Rattle.implicit.specs.Step.{World}
use Rattle.implicit.proofs.SetupLawsLevel.{level_width, level_height}
use Rattle.implicit.proofs.SetupLawsBlocks.{start_coordinate, FirstBlock, first_blocks_lem}
use Rattle.promises.specs.Chart.{Pixel, covers_in, queued_blocks}
use Rattle.promises.specs.Steps.{Asked, BegunAs, Steps, no_steps, then_step, then_move}
use Rattle.promises.proofs.Snapshots.{standing_at, snapshot_of}
use Rattle.promises.proofs.Covering.{covers_as}
use Rattle.promises.proofs.EventsEach.{queued_each, events_each}
use Rattle.promises.proofs.Linked.{Reached, Linked, linked_events, step_linked, move_same, steps_reached, in_theory, over_move, begun_passed}
use Rattle.promises.proofs.Linked.{begun_queue, begun_accepted}

-- where the first blocks are
pub record AtStart (p : Chosen) (b : Block) : Type 0 where
  pub x : b.x ≡ start_coordinate p
  pub y : b.y ≡ start_coordinate p

module _ (p : Chosen) (flat : in_use p.set D.XY ≡ false) where
  -- no child leaves its parent's place
  at_place : (b c : Block) → AtStart p b → InPlace b c → AtStart p c
  at_place b c h i = record { x = i.x ∙ h.x; y = i.y ∙ h.y }

  along_start : (b : Block) → AtStart p b → (a : Option Direction) → direction_of p b ≡ a → Every (AtStart p) (children_along p b a)
  along_start b h (Some D.XY) e = absurd (true≢false (sym (direction_in_use p b D.XY e) ∙ flat))
  along_start b h (Some D.M) e = every_also (InPlace b) (AtStart p) (λ c. at_place b c h) (children_cut b D.M) (cut_in_place b D.M)
  along_start b h (Some D.N) e = every_also (InPlace b) (AtStart p) (λ c. at_place b c h) (children_cut b D.N) (cut_in_place b D.N)
  along_start b h (Some D.Theta) e = every_also (InPlace b) (AtStart p) (λ c. at_place b c h) (children_cut b D.Theta) (cut_in_place b D.Theta)
  along_start b h (Some D.T) e = every_also (InPlace b) (AtStart p) (λ c. at_place b c h) (children_cut b D.T) (cut_in_place b D.T)
  along_start b h None e = (h, tt)

  children_start : (b : Block) → sound p b ≡ true → AtStart p b → Every (AtStart p) (children_of p b)
  unfolding children_of
  children_start b ok h = rw ok (along_start b h (direction_of p b) refl)

  module _ (narrow : p.width ≤ 32768) (low : p.height ≤ 32768) where
    -- a block there covers every pixel
    start_covers : (b : Block) → AtStart p b → (q : Pixel p) → T (covers_in p b q)
    start_covers b h q =
        ≡→T (covers_as p b q (rw (h.x, h.y))
        ∙ and_both (covers1 b.x.rank b.x.index q.x) (covers1 b.y.rank b.y.index q.y)
        (rw h.x (root_covers p.width (start_level p) q.x (level_width p narrow low) q.x_in))
        (rw h.y (root_covers p.height (start_level p) q.y (level_height p narrow low) q.y_in)))

    all_whole : (es : List (Event Block)) → EachEvent (AtStart p) es → AllWhole (covers_in p) es
    unfolding AllWhole
    all_whole [] h = tt
    all_whole (marks c ∷ es) h = (start_covers c h.0, all_whole es h.1)
    all_whole (queues c ∷ es) h = (start_covers c h.0, all_whole es h.1)
    all_whole (gives_up ∷ es) h = all_whole es h

    -- A WORLD IN WHICH ALL IS ALIKE
    pub record Even (w : World) : Type 0 where
      pub places : Every (AtStart p) (queued_blocks w)
      pub alike : (q q' : Pixel p) → standing_at p (meanings w.cells) q ≡ standing_at p (meanings w.cells) q'

    even_step : (w w' : World) (vs : List ℕ) → Linked p w vs w' → Even w → Even w'
    even_step w w' vs l h =
        let b = l.step.front in
        let all : Every (AtStart p) (b ∷ l.step.rest) = rw l.step.at_front at h.places in
        let es : EachEvent (AtStart p) l.step.events = rw (linked_events p w vs w' l)
        (events_each (AtStart p) (λ c d s. record { x = s.x; y = s.y }) p b (children_of p b) (outcomes p (meanings w.cells) (children_of p b) vs) (children_start b l.front_sound all.0)) in
        let whole : WholePicture (covers_in p) false (snapshot_of p w) (snapshot_of p w') l.step = unfold WholePicture in (start_covers b all.0, all_whole l.step.events es) in
        record {
          places = rw l.step.queue' (every_append (AtStart p) l.step.rest (queued_by l.step.events) all.1 (queued_each (AtStart p) l.step.events es));
          alike = λ q q'. step_alike (covers_in p) false l.step whole q q' (h.alike q q');
        }

    even_move : (w w' : World) → snapshot_of p w ≡ snapshot_of p w' → Even w → Even w'
    even_move w w' e h = record {
      places = subst (λ (s : Snapshot Block (Pixel p)). Every (AtStart p) s.queue) e h.places;
      alike = subst (λ (s : Snapshot Block (Pixel p)). (q q' : Pixel p) → s.cells q ≡ s.cells q') e h.alike;
    }

    module _ {w : World} (h : Reached p w) (s : Even w) where
      pub even_steps : {n : ℕ} {w' : World} → Steps n w w' → Even w'
      even_steps no_steps = s
      even_steps (then_step {w' = w'} {w'' = w''} r vs evals bytes e) = even_step w' w'' vs (step_linked p w' (steps_reached p h r) vs w'' evals bytes e) (even_steps r)
      even_steps (then_move {w' = w'} {w'' = w''} r m) = even_move w' w'' (move_same p w' (steps_reached p h r) w'' m) (even_steps r)

      pub even_alike : {n : ℕ} {w' : World} (r : Steps n w w') → EveryStep (covers_in p) false (GivesUpAlike (covers_in p) false) (in_theory p h r)
      unfolding EveryStep GivesUpAlike in_theory
      even_alike no_steps = tt
      even_alike (then_step {w' = w'} {w'' = w''} r vs evals bytes e) = (even_alike r, (λ g q q' c c'. (even_steps r).alike q q'))
      even_alike (then_move r m) = over_move p h r m (λ t x. EveryStep (covers_in p) false (GivesUpAlike (covers_in p) false) x) (even_alike r)

-- AT THE START
pub begun_even : (a : Asked) (w : World) (z : BegunAs a w) (flat : in_use a.chosen.set D.XY ≡ false)
    → Even a.chosen flat (begun_passed a w z).width_most (begun_passed a w z).height_most w
begun_even a w z flat =
    let p = a.chosen in
    record {
      places = rw (begun_queue a w z)
          (every_also (FirstBlock p) (AtStart p) (λ b f. record { x = f.x; y = f.y }) (first_blocks p a.ranges)
          (first_blocks_lem p a.ranges z.held (begun_passed a w z).ranges));
      alike = λ q q'. (begun_accepted a w z).name_last q ∙ sym ((begun_accepted a w z).name_last q');
    }
