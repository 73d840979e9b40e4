-- The bounds, for a picture with x or y and no parameter: its one first block, its levels, and how many steps they last. Assumes nothing.
use mathlib.Core.Path.{◌≡◌, refl, ◌∙◌}
use mathlib.Core.Bool.{true, false}
use mathlib.Core.List.{List, [], ◌∷◌, map}
use Prim.Native.Nat.{ℕ, suc, ◌+◌, ◌*◌, ◌≤◌, ◌<◌}
use native.Mathlib.Omega.{arith}
use lib.ListN.{length}
use Rattle.base.proofs.Test.{and_both}
use Rattle.base.specs.Lists.{Every}
use Rattle.theory.specs.Runs.{EveryStep}
use Rattle.theory.specs.Levels.{OneBlock, QueuesChildren, NeverRise, OnTwoLevels, sum_to, places_along, places_above, pixel_figure}
use Rattle.coordinate.specs.Axis.{places}
use Rattle.theory.specs.Shapes.{quarters}
use Rattle.theory.proofs.Theorems as Theory
use Rattle.queue.specs.declared.Block.{Block}
use Rattle.decide.specs.declared.Chosen.{Chosen}
use Rattle.decide.specs.Damage.{legal_chosen, undamaged}
use Rattle.implicit.specs.declared.state.Ranges.{Ranges}
use Rattle.implicit.specs.Setup.{start_level, root_block, first_blocks, cut_first_in}
use Rattle.implicit.specs.Step.{World}
use Rattle.implicit.proofs.RecordLaws.{sound_chosen}
use Rattle.implicit.proofs.SetupLawsLevel.{level_width, level_height}
use Rattle.promises.specs.Chart.{place_of_block, covers_in, queued_blocks}
use Rattle.promises.specs.Steps.{Asked, BegunAs, Steps, PlaneOnly}
use Rattle.promises.specs.Sentences.{PixelBound}
use Rattle.promises.proofs.Snapshots.{snapshot_of}
use Rattle.promises.proofs.Invariant.{Keeps, keeps_queue}
use Rattle.promises.proofs.Linked.{begun_reached, begun_passed, begun_queue, steps_reached, in_theory, each_linked}
use Rattle.promises.proofs.Places.{plane_above, plane_queues}

-- nothing is cut first
one_first : (p : Chosen) (r : Ranges) → PlaneOnly p → first_blocks p r ≡ root_block p r ∷ []
unfolding first_blocks cut_first_in
one_first p r o = rw (o.no_parameter.0, o.no_parameter.1.0, o.no_parameter.1.1.0, o.no_parameter.1.1.1.0)

-- of a list of which each is above a level and none is, nothing is left
none_left : (L : ℕ) (q : List Block) → Every (λ b. L < b.x.rank) q → Every (λ b. b.x.rank ≤ L) q → q ≡ []
none_left L [] h k = refl
none_left L (b ∷ q) h k = absurd (omega (arith, h.0, k.0))

above_all : (p : Chosen) → PlaneOnly p → legal_chosen p ≡ true → (q : List Block) → Every (λ b. undamaged p b ≡ true) q → Every (λ b. 16 < b.x.rank) q
above_all p o ok [] h = tt
above_all p o ok (b ∷ q) h = (plane_above p b o (and_both (legal_chosen p) (undamaged p b) ok h.0), above_all p o ok q h.1)

-- where all queued blocks lie above the floor, of those on it nothing is queued
floor_empty : (w : World) → PlaneOnly w.state.chosen → (q : List Block) → Keeps w q → Every (λ b. b.x.rank ≤ 16) q → q ≡ []
floor_empty w o q k h = none_left 16 q (above_all w.state.chosen o (sound_chosen (length w.ring) w.state k.record_is_sound) q k.undamaged_all) h

module _ (a : Asked) {w₀ : World} (z : BegunAs a w₀) (o : PlaneOnly a.chosen) where
  -- one block, as wide as the larger side at least
  pub one_block : OneBlock place_of_block 48 a.chosen.width a.chosen.height (start_level a.chosen) (snapshot_of a.chosen w₀)
  one_block =
      let g = begun_passed a w₀ z in
      record {
        some_width = g.width_some;
        some_height = g.height_some;
        wide = level_width a.chosen g.width_most g.height_most;
        high = level_height a.chosen g.width_most g.height_most;
        root = root_block a.chosen a.ranges;
        at_root = unfold root_block in refl;
        one_block = begun_queue a w₀ z ∙ one_first a.chosen a.ranges o;
      }

  pub queues_children : {n : ℕ} {w : World} (r : Steps n w₀ w)
      → EveryStep (covers_in a.chosen) false (QueuesChildren (covers_in a.chosen) false place_of_block (quarters 48 a.chosen.width a.chosen.height)) (in_theory a.chosen (begun_reached a w₀ z) r)
  queues_children r =
      each_linked a.chosen (begun_reached a w₀ z) (QueuesChildren (covers_in a.chosen) false place_of_block (quarters 48 a.chosen.width a.chosen.height))
      (λ v v' vs l. plane_queues a.chosen o v v' vs l) r

  pub levels_fall : {n : ℕ} {w : World} → Steps n w₀ w
      → NeverRise (map place_of_block (queued_blocks w)) × ((j : ℕ) × OnTwoLevels j (map place_of_block (queued_blocks w)))
  levels_fall r =
      Theory.levels_never_rise (covers_in a.chosen) false place_of_block (quarters 48 a.chosen.width a.chosen.height) (Theory.quarters_are_lower 48 a.chosen.width a.chosen.height)
      one_block.root one_block.one_block (in_theory a.chosen (begun_reached a w₀ z) r) (queues_children r)

  pub levels_bound : {n : ℕ} {w : World} → Steps n w₀ w → (L m : ℕ) → 48 + start_level a.chosen ≡ L + m
      → sum_to m (λ i. places a.chosen.width (L + suc i) * places a.chosen.height (L + suc i)) ≤ n → Every (λ b. b.x.rank ≤ L) (queued_blocks w)
  unfolding places places_along places_above
  levels_bound r =
      Theory.level_bound (covers_in a.chosen) false place_of_block 48 a.chosen.width a.chosen.height (start_level a.chosen) one_block
      (in_theory a.chosen (begun_reached a w₀ z) r) (queues_children r)

  pub empties : {n : ℕ} {w : World} → Steps n w₀ w
      → sum_to (32 + start_level a.chosen) (λ i. places a.chosen.width (16 + suc i) * places a.chosen.height (16 + suc i)) ≤ n → queued_blocks w ≡ []
  empties {w = w} r h =
      let f = steps_reached a.chosen (begun_reached a w₀ z) r in
      let is = keeps_queue w f.blocks f.keeps in
      is ∙ floor_empty w (rw f.chosen o) f.blocks f.keeps (rw is at (levels_bound r 16 (32 + start_level a.chosen) (omega arith) h))

pub pixels_bound : (a : Asked) {w₀ : World} → BegunAs a w₀ → PixelBound a w₀
unfolding pixel_figure
pixels_bound a {w₀} z o n w r h =
    Theory.pixel_bound a.chosen.width a.chosen.height 48 (start_level a.chosen) false place_of_block (one_block a z o) (in_theory a.chosen (begun_reached a w₀ z) r)
    (queues_children a z o r) h
