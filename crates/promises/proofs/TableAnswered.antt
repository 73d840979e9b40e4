-- From the contracts of the calls with a table to the promises of the table: what they ensure gives `TiledBegunAs` and `TiledSteps`. And what the numbers of
-- a table are that equals a recount. Assumes nothing.
use mathlib.Core.Path.{◌≡◌, sym, ap, ◌∙◌}
use mathlib.Core.Bool.{true}
use mathlib.Core.List.{List}
use Prim.Native.Nat.{ℕ, suc, ◌+◌, ◌*◌, ◌≤◌, ◌<◌}
use native.Mathlib.Omega.{arith}
use lib.Dec.{ltb}
use lib.ListN.{length, get_or}
use borrow.Author.Tests.{leb-true, lt-ltb}
use Rattle.std.specs.Prelude.{Result, Ok, Err}
use Rattle.refusal.specs.declared.Refusal.{Refusal}
use Rattle.interval.specs.Bounds.{InFormat}
use Rattle.image.specs.Cell.{meanings}
use Rattle.image.specs.Painting.{held_cells}
use Rattle.tiles.specs.Tiles.{tile_at, tile_count, tile_tally, tile_number}
use Rattle.tiles.proofs.RecountLaws.{number_counted}
use Rattle.decide.specs.declared.Chosen.{Chosen}
use Rattle.implicit.specs.declared.state.Ranges.{Ranges}
use Rattle.implicit.specs.declared.state.State.{State}
use Rattle.implicit.specs.declared.state.Ending.{Ending}
use Rattle.implicit.specs.declared.state.Refused.{Refused}
use Rattle.implicit.specs.declared.state.Finished.{Finished}
use Rattle.implicit.specs.declared.state.Ended.{Ended}
use Rattle.implicit.specs.Setup.{cleared}
use Rattle.implicit.specs.Step.{World, world_of, StepEnd, refused, finished}
use Rattle.implicit.specs.Run.{has_run}
use Rattle.implicit.specs.Tiled.{room_for_tiles, tiled_setup_answer, tiled_ring_begun, tiled_cells_begun, table_begun, tiled_step_of, table_after, TiledEndsAs}
use Rattle.implicit.specs.Tiled.{tiled_run_of, table_run, TiledRunsAs}
use Rattle.implicit.specs.Answers.{setup_number, setup_state}
use Rattle.implicit.proofs.ViewLaws.{given_up_uncertain}
use Rattle.promises.specs.Calls.{asked_by, ran_to}
use Rattle.promises.specs.Tables.{TiledBegunAs, TiledSteps, then_tiled_step, EqualsRecount}
use Rattle.promises.proofs.Answered.{runs_ended}
use Rattle.implicit.proofs.StepAnswered.{answered_finished, answered_refused}
use Rattle.promises.proofs.TableSteps.{within_tiles}
use Rattle.promises.proofs.TableRuns.{run_tiled}

-- SETUP
pub tiled_setup_begins : (chosen : Chosen) (ranges : Ranges) (ring cells table ring' cells' table' : List ℕ) (r : Result State Refusal)
    → InFormat ranges.m × InFormat ranges.n × InFormat ranges.theta × InFormat ranges.t
    → r ≡ tiled_setup_answer (cleared chosen) ranges (length ring) (length cells) (length table)
    → ring' ≡ tiled_ring_begun (cleared chosen) ranges ring (length cells) (length table)
    → cells' ≡ tiled_cells_begun (cleared chosen) ranges (length ring) cells (length table)
    → table' ≡ table_begun (cleared chosen) ranges (length ring) cells table
    → (s : State) → r ≡ Ok s → TiledBegunAs (asked_by chosen ranges ring cells) table (world_of s ring' cells') table'
tiled_setup_begins chosen ranges ring cells table ring' cells' table' r held answer ring_left cells_left table_left s ready =
    let e : tiled_setup_answer (cleared chosen) ranges (length ring) (length cells) (length table) ≡ Ok s = sym answer ∙ ready in
    record { accepted = ap setup_number e; state = ap setup_state e; ring = ring_left; cells = cells_left; table_left = table_left; held = held }

-- STEP

-- by a refusal the table is as it was
refused_table : (w : World) (t : List ℕ) (e : StepEnd) (why : Refusal) (s : State) (ring cells left : List ℕ)
    → TiledEndsAs w t e (Err (record { why = why; state = s })) ring cells left → left ≡ t
unfolding table_after
refused_table w t (refused reason) why s ring cells left h = h.1
refused_table w t (finished next m n) why s ring cells left h = let f = h.0.0 in let z : ◌≡◌ {A = ℕ} 0 1 = cc in absurd (omega arith)

module _ (s : State) (ring cells table verdicts ring' cells' table' : List ℕ) (r : Result Finished Refused)
    (ensures : TiledEndsAs (world_of s ring cells) table (tiled_step_of (length table) (world_of s ring cells) verdicts) r ring' cells' table') where
  pub tiled_step_counts : (s' : State) (evals bytes : ℕ) → r ≡ Ok (record { state = s'; evaluations = evals; verdicts = bytes })
      → {n : ℕ} {w₀ : World} {t₀ : List ℕ} → TiledSteps n w₀ t₀ (world_of s ring cells) table → TiledSteps (suc n) w₀ t₀ (world_of s' ring' cells') table'
  tiled_step_counts s' evals bytes e c =
      let w = world_of s ring cells in
      let ends : tiled_step_of (length table) w verdicts ≡ finished (world_of s' ring' cells') evals bytes =
      answered_finished w (tiled_step_of (length table) w verdicts) s' evals bytes ring' cells' (rw e at ensures.0) in
      then_tiled_step c verdicts evals bytes ends (ensures.1 ∙ ap (table_after w table) ends)

  pub tiled_step_keeps : (why : Refusal) (s' : State) → r ≡ Err (record { why = why; state = s' }) → (world_of s' ring' cells' ≡ world_of s ring cells) × (table' ≡ table)
  tiled_step_keeps why s' e =
      let w = world_of s ring cells in
      let step = tiled_step_of (length table) w verdicts in
      ((answered_refused w step why s' ring' cells' (rw e at ensures.0)).1, refused_table w table step why s' ring' cells' table' (rw e at ensures))

-- RUN
pub tiled_run_ends : (s : State) (ring cells tape table ring' cells' table' : List ℕ) (budget : ℕ) (r : Result Ended Refused)
    → TiledRunsAs budget (world_of s ring cells) tape table (tiled_run_of budget (length table) (world_of s ring cells) tape) r ring' cells' table'
    → (s' : State) (steps evals bytes : ℕ) (ending : Ending) → r ≡ Ok (record { state = s'; steps = steps; evaluations = evals; tape = bytes; ending = ending })
    → TiledSteps steps (world_of s ring cells) table (world_of s' ring' cells') table'
tiled_run_ends s ring cells tape table ring' cells' table' budget r ensures s' steps evals bytes ending e =
    let w = world_of s ring cells in
    let run = tiled_run_of budget (length table) w tape in
    let end = ran_to s' ring' cells' steps evals bytes ending in
    let is : run ≡ has_run end = runs_ended w run s' steps evals bytes ending ring' cells' (rw e at ensures.0) in
    let left = ensures.1 ∙ ap (table_run budget w tape table) is in
    rw left (run_tiled budget w tape table end is)

-- THE NUMBERS OF A TABLE that equals a recount
pub recount_number : (p : Chosen) (w : World) (t : List ℕ) → EqualsRecount p w t → room_for_tiles p (length t) ≡ true → (i k : ℕ)
    → i < tile_count p.width p.height → k < 4
    → get_or t (4 * i + k) 0 ≡ tile_number (tile_tally p.width p.height w.state.taken (meanings w.cells) i) k
unfolding EqualsRecount
recount_number p w t e enough i k h l =
    ap (λ (m : List ℕ). get_or m (4 * i + k) 0) e
    ∙ number_counted (λ i. ltb i (tile_count p.width p.height)) p.width p.height w.state.taken (meanings w.cells) t i k l
    (within_tiles (tile_count p.width p.height) i k (length t) h l (leb-true (4 * tile_count p.width p.height) (length t) enough))
    (lt-ltb i (tile_count p.width p.height) h)

-- what is given up is among the Uncertain
pub recount_given_up : (p : Chosen) (w : World) (t : List ℕ) → EqualsRecount p w t → room_for_tiles p (length t) ≡ true → (i : ℕ)
    → i < tile_count p.width p.height → get_or t (4 * i + 3) 0 ≤ get_or t (4 * i + 2) 0
unfolding tile_number
recount_given_up p w t e enough i h =
    let up = recount_number p w t e enough i 3 h (omega arith) in
    let grey = recount_number p w t e enough i 2 h (omega arith) in
    rw (up, grey) (given_up_uncertain w.state.taken (held_cells p.width (tile_at p.width p.height i) (meanings w.cells)))
