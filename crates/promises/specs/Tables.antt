-- Document 02, (iv), the conditions and the words of the table of tile counts: "an accepted setup that took the table", "every step since took it as the call
-- before left it", and that "the table equals a recount". Over the definitions that the contracts of `implicit` cite, specs/Tiled there, and of `tiles`.
use Rattle.std.specs.Prelude.{◌≡◌, List, ℕ, zero, suc, length}
use Rattle.interval.specs.Bounds.{InFormat}
use Rattle.decide.specs.declared.Chosen.{Chosen}
use Rattle.implicit.specs.Step.{World, finished}
use Rattle.implicit.specs.Tiled.{table_of, tiled_setup_answer, tiled_ring_begun, tiled_cells_begun, table_begun, tiled_step_of, table_after}
use Rattle.implicit.specs.Answers.{setup_number, setup_state}
use Rattle.promises.specs.Steps.{Asked, MovesTo}

-- "an accepted setup that took the table": it was called with a and lent `table`; it has the number 0, answers a record and leaves the ring, the cells and
-- the table t. The bounds handed in are values of f64, as every f64 is
pub record TiledBegunAs (a : Asked) (table : List ℕ) (w : World) (t : List ℕ) : Type 0 where
  pub accepted : setup_number (tiled_setup_answer a.chosen a.ranges (length a.ring) (length a.cells) (length table)) ≡ 0
  pub state : setup_state (tiled_setup_answer a.chosen a.ranges (length a.ring) (length a.cells) (length table)) ≡ w.state
  pub ring : w.ring ≡ tiled_ring_begun a.chosen a.ranges a.ring (length a.cells) (length table)
  pub cells : w.cells ≡ tiled_cells_begun a.chosen a.ranges (length a.ring) a.cells (length table)
  pub table_left : t ≡ table_begun a.chosen a.ranges (length a.ring) a.cells table
  pub held : InFormat a.ranges.m × InFormat a.ranges.n × InFormat a.ranges.theta × InFormat a.ranges.t

-- "if every step since took it as the call before left it": n finished steps, each on the record, ring, cells and table that setup or the step before it
-- left. A move of the chart's memory between them takes no table, and leaves it as it is
pub data TiledSteps : ℕ → World → List ℕ → World → List ℕ → Type 0 where
  no_tiled_steps : {w : World} {t : List ℕ} → TiledSteps zero w t w t
  then_tiled_step : {n : ℕ} {w w' w'' : World} {t t' t'' : List ℕ} → TiledSteps n w t w' t' → (vs : List ℕ) (evals bytes : ℕ)
      → tiled_step_of (length t') w' vs ≡ finished w'' evals bytes → t'' ≡ table_after w' t' (finished w'' evals bytes) → TiledSteps (suc n) w t w'' t''
  then_tiled_move : {n : ℕ} {w w' w'' : World} {t t' : List ℕ} → TiledSteps n w t w' t' → MovesTo w' w'' → TiledSteps n w t w'' t'

-- "the table equals a recount": recounting every tile by the cells and the number of blocks taken changes no number of it
unfoldable pub EqualsRecount : Chosen → World → List ℕ → Type 0
EqualsRecount p w t = t ≡ table_of p w.state.taken w.cells t
