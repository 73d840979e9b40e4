-- On a chart from an accepted setup: a tile that the taken block does not touch counts as before, so a table that equals a recount does so after every finished
-- step that takes it. Assumes nothing.
use Rattle.queue.specs.Queue.{front_taken}
use Rattle.queue.specs.Answers.{taken_block}
use mathlib.Core.Path.{◌≡◌, refl, sym, ap, ◌∙◌}
use mathlib.Core.Bool.{Bool, true, false}
use mathlib.Core.List.{List, [], ◌∷◌}
use Prim.Native.Nat.{ℕ, ◌+◌, ◌-◌, ◌*◌, ◌/◌, ◌%◌, ◌<◌}
use native.Mathlib.Omega.{arith}
use lib.Dec.{T}
use lib.ListN.{length, get_or}
use lib.ListN as L
use Rattle.theory.specs.Cells.{Standing, marked_true, given_up, named}
use Rattle.theory.proofs.StandingLaws.{step_untouched}
use Rattle.image.specs.Cell.{Cell, Named, Marked, GivenUp, Other, meaning_of, meanings, reading, is_given_up, is_damaged}
use Rattle.image.specs.Range.{cell_index, holds_cell}
use Rattle.image.specs.Painting.{pixel_cell}
use Rattle.image.proofs.RangeLaws.{cell_pixel, rectangle_covers}
use Rattle.queue.specs.declared.Block.{Block}
use Rattle.queue.specs.declared.Last.{Last}
use Rattle.tiles.specs.Tiles.{tile_count, tile_at, touches, tile_tally, recounted_under}
use Rattle.tiles.proofs.HeldLaws.{held_tally}
use Rattle.tiles.proofs.PlaceLaws.{none_held, not_met, tile_pixel}
use Rattle.tiles.proofs.RecountLaws.{recounted_on}
use Rattle.decide.specs.declared.Chosen.{Chosen}
use Rattle.decide.proofs.DamageLaws.{is_sound}
use Rattle.implicit.specs.Listing.{front_of}
use Rattle.implicit.specs.Step.{World, finished, step_of}
use Rattle.implicit.specs.Tiled.{covered_by, tiled_step_of, table_after}
use Rattle.implicit.proofs.StepLawsWent.{went, step_stays}
use Rattle.promises.specs.Chart.{Pixel, covers_in, queued_blocks}
use Rattle.promises.specs.Steps.{Asked, BegunAs, MovesTo, Steps, reads_in}
use Rattle.promises.specs.Tables.{TiledSteps, no_tiled_steps, then_tiled_step, then_tiled_move, EqualsRecount}
use Rattle.promises.proofs.Snapshots.{standing, standing_at}
use Rattle.promises.proofs.Covering.{covers_as}
use Rattle.promises.proofs.CellsKept.{PixelsWhole}
use Rattle.promises.proofs.Invariant.{Keeps, keeps_queue, front_is, step_empty}
use Rattle.promises.proofs.MoveKeeps.{move_keeps}
use Rattle.promises.proofs.Linked.{Reached, begun_reached, steps_reached, step_reached, step_linked}
use Rattle.promises.proofs.Greys.{elsewhere_kept}
use Rattle.promises.proofs.RunSteps.{steps_follow}
use Rattle.promises.proofs.TableSteps.{table_taken, table_is, steps_plain}

-- WHAT STANDS IN A CELL tells whether it is given up, if it is not damaged
is_up : Standing → Bool
is_up marked_true = false
is_up given_up = true
is_up (named n) = false

up_as : (c : Cell) → is_damaged c ≡ false → is_given_up c ≡ is_up (standing c)
unfolding is_given_up is_damaged standing is_up
up_as (Named n) e = refl
up_as Marked e = refl
up_as GivenUp e = refl
up_as (Other n) e = let z : ◌≡◌ {A = ℕ} 0 1 = cc in absurd (omega arith)

-- THE FRONT BLOCK that a finished step took is the first one queued
front_queued : (w : World) (q : List Block) → Keeps w q → (vs : List ℕ) (left : World) (evals bytes : ℕ) → step_of w vs ≡ finished left evals bytes
    → (b : Block) (last : Last) (head used : ℕ) → front_of w.state w.ring ≡ front_taken b last head used → (rest : List Block) × (queued_blocks w ≡ b ∷ rest)
front_queued w [] k vs left evals bytes e b last head used f =
    let g = step_empty w k false vs in let z : ◌≡◌ {A = ℕ} 0 1 = cc in absurd (omega arith)
front_queued w (c ∷ rest) k vs left evals bytes e b last head used f =
    let g = front_is w c rest k in
    let same : c ≡ b = ap taken_block (sym g ∙ f) in
    (rest, keeps_queue w (c ∷ rest) k ∙ ap (λ (d : Block). d ∷ rest) same)

first_of : Block → List Block → Block
first_of d [] = d
first_of d (b ∷ l) = b

-- TILES THAT THE BLOCK DOES NOT TOUCH

module _ (a : Asked) {w₀ : World} (z : BegunAs a w₀) {n : ℕ} {w : World} (r : Steps n w₀ w) (vs : List ℕ) (left : World) (evals bytes : ℕ)
    (e : step_of w vs ≡ finished left evals bytes) (b : Block) (last : Last) (head used : ℕ)
    (front : front_of w.state w.ring ≡ front_taken b last head used) where
  abbrev p : Chosen
  p = a.chosen

  at_w : Reached a.chosen w
  at_w = steps_reached a.chosen (begun_reached a w₀ z) r

  at_left : Reached a.chosen left
  at_left = step_reached a.chosen w at_w vs left evals bytes e

  -- a pixel that the block does not cover reads as before, and is given up if it was before
  pixel_kept : (q : Pixel p) → ¬ T (covers_in p b q)
      → (reading left.state.taken (pixel_cell p.width p.height q.x q.y (meanings left.cells))
      ≡ reading w.state.taken (pixel_cell p.width p.height q.x q.y (meanings w.cells)))
      × (is_given_up (pixel_cell p.width p.height q.x q.y (meanings left.cells))
      ≡ is_given_up (pixel_cell p.width p.height q.x q.y (meanings w.cells)))
  unfolding reads_in standing_at first_of
  pixel_kept q away =
      let (rest, at) = front_queued w at_w.blocks at_w.keeps vs left evals bytes e b last head used front in
      let l = step_linked a.chosen w at_w vs left evals bytes e in
      let same : b ≡ l.step.front = ap (first_of b) (sym at ∙ l.step.at_front) in
      let old : PixelsWhole p (meanings w.cells) = rw (← at_w.chosen) at_w.keeps.whole in
      let new : PixelsWhole p (meanings left.cells) = rw (← at_left.chosen) at_left.keeps.whole in
      let stays = step_untouched (covers_in p) false l.step q (rw (← same) away) in (
        elsewhere_kept a z r vs left evals bytes e b rest at q away,
        up_as _ (new q.x q.y q.x_in q.y_in) ∙ ap is_up stays ∙ sym (up_as _ (old q.x q.y q.x_in q.y_in)),
      )

  -- one whose cell the block's rectangle does not hold is not covered
  not_covered : (q : Pixel p) → holds_cell p.width (covered_by p b) (cell_index p.width p.height q.x q.y) ≡ false → ¬ T (covers_in p b q)
  unfolding first_of
  not_covered q h t =
      let (rest, at) = front_queued w at_w.blocks at_w.keeps vs left evals bytes e b last head used front in
      let l = step_linked a.chosen w at_w vs left evals bytes e in
      let same : l.step.front ≡ b = sym (ap (first_of b) (sym at ∙ l.step.at_front)) in
      let level : b.x.rank ≡ b.y.rank = rw same at (is_sound p l.step.front l.front_sound).block.ranks in
      let f : covers_in p b q ≡ false =
      covers_as p b q level ∙ sym (rectangle_covers b.x b.y p.width p.height q.x q.y q.x_in q.y_in) ∙ h in
      rw f at t

  pub untouched_tally : (i : ℕ) → i < tile_count p.width p.height → touches p.width p.height (covered_by p b) i ≡ false
      → tile_tally p.width p.height left.state.taken (meanings left.cells) i
      ≡ tile_tally p.width p.height w.state.taken (meanings w.cells) i
  untouched_tally i within away =
      held_tally p.width (tile_at p.width p.height i) left.state.taken w.state.taken (meanings left.cells) (meanings w.cells) (Named 0)
      (L.length-map left.cells meaning_of ∙ (step_stays false w vs left evals bytes e).cells ∙ sym (L.length-map w.cells meaning_of))
      (λ j h t.
      let off = none_held p.width (covered_by p b) (tile_at p.width p.height i) j (not_met p.width p.height (covered_by p b) i within away) t in
      cell_kept j (tile_pixel p.width p.height i j t) off)
    where
      cell_kept : (j : ℕ) → j < p.width * p.height → holds_cell p.width (covered_by p b) j ≡ false
          → (reading left.state.taken (get_or (meanings left.cells) j (Named 0)) ≡ reading w.state.taken (get_or (meanings w.cells) j (Named 0)))
          × (is_given_up (get_or (meanings left.cells) j (Named 0)) ≡ is_given_up (get_or (meanings w.cells) j (Named 0)))
      cell_kept j below off =
          let (x_in, y_in, is) = cell_pixel p.width p.height j below in
          let q : Pixel p = record { x = j % p.width; y = p.height - 1 - j / p.width; x_in = x_in; y_in = y_in } in
          rw is at (pixel_kept q (not_covered q (ap (holds_cell p.width (covered_by p b)) is ∙ off)))

-- THE TABLE

-- a finished step keeps that it equals a recount
step_recounts : (a : Asked) {w₀ : World} → BegunAs a w₀ → {n : ℕ} {w : World} → Steps n w₀ w → (t vs : List ℕ) (left : World) (evals bytes : ℕ)
    → tiled_step_of (length t) w vs ≡ finished left evals bytes → EqualsRecount a.chosen w t
    → EqualsRecount a.chosen left (table_after w t (finished left evals bytes))
unfolding EqualsRecount
step_recounts a {w₀} z {w = w} r t vs left evals bytes e k =
    let p = a.chosen in
    let plain = (table_taken false (length t) w vs left evals bytes e).plain in
    let g = went false w vs left evals bytes plain in
    let chosen : w.state.chosen ≡ p = (steps_reached p (begun_reached a w₀ z) r).chosen in
    let is = table_is (length t) w t vs left evals bytes e g.block g.last g.head g.used g.front_read in
    let after = recounted_under p.width p.height (covered_by p g.block) left.state.taken (meanings left.cells) t in
    let same : table_after w t (finished left evals bytes) ≡ after =
    is ∙ ap (λ (c : Chosen). recounted_under c.width c.height (covered_by c g.block) left.state.taken (meanings left.cells) t) chosen in
    rw same
    (recounted_on p.width p.height (covered_by p g.block) w.state.taken left.state.taken (meanings w.cells) (meanings left.cells) t
    (λ i h away. untouched_tally a z r vs left evals bytes plain g.block g.last g.head g.used g.front_read i h away) k)

-- and so does a move, which changes neither cells nor the number of blocks taken
move_recounts : (p : Chosen) (w : World) → Reached p w → {w' : World} → MovesTo w w' → (t : List ℕ) → EqualsRecount p w t → EqualsRecount p w' t
unfolding EqualsRecount
move_recounts p w h m t k = let s = move_keeps m h.blocks h.keeps in rw (s.meanings, s.taken) k

module _ (a : Asked) {w₀ : World} (z : BegunAs a w₀) {n : ℕ} {w : World} (r : Steps n w₀ w) {t : List ℕ} (k : EqualsRecount a.chosen w t) where
  pub recounts_on : {m : ℕ} {w' : World} {t' : List ℕ} → TiledSteps m w t w' t' → EqualsRecount a.chosen w' t'
  recounts_on no_tiled_steps = k
  recounts_on (then_tiled_step {n = m} {w'' = w''} {t' = t'} s vs evals bytes e f) =
      let (all, v, c) = steps_follow (n + m) refl r (steps_plain s) in
      rw f (step_recounts a z all t' vs w'' evals bytes e (recounts_on s))
  recounts_on (then_tiled_move {n = m} {w' = w'} {t' = t'} s move) =
      let (all, v, c) = steps_follow (n + m) refl r (steps_plain s) in
      move_recounts a.chosen w' (steps_reached a.chosen (begun_reached a w₀ z) all) move t' (recounts_on s)
