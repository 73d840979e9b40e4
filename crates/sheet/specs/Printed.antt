-- The program's text: what a sheet prints, whole. Document 01, "Program and values". Each stage goes on from the answer of the one before it.
-- A refusal prints its number, whichever stage it comes from; which can come is a theorem, `taken_prints` in `prints`, proofs/Prints.antt.
use Rattle.std.specs.Prelude.{cond, List, ℕ, length, replicate, drop, Result, Ok, Err}
use Rattle.refusal.specs.declared.Refusal.TheVariants as R
use Rattle.refusal.specs.declared.Refusal.{Refusal}
use Rattle.implicit.specs.declared.state.State.{State}
use Rattle.implicit.specs.declared.state.Ending.{Ending}
use Rattle.implicit.specs.declared.state.Tally.{Tally}
use Rattle.implicit.specs.Setup.{cleared, setup_answer, ring_begun, cells_begun}
use Rattle.implicit.specs.Step.{world_of}
use Rattle.implicit.specs.Run.{RunResult, not_run, has_run, run_of}
use Rattle.implicit.specs.View.{counts_answer}
use Rattle.sheet.specs.declared.head.Order.{Order}
use Rattle.sheet.specs.Layout.{order_in, taken_sheet}
use Rattle.sheet.specs.Text.{chart_text, refused_text}

-- "a ring of 16384 bytes", and 4096 cells for "at most 4096 pixels", as a fresh picture finds them
abbrev pub fresh_ring : List ℕ
fresh_ring = replicate 16384 0

abbrev pub fresh_cells : List ℕ
fresh_cells = replicate 4096 0

-- from the counts: the chart's text
abbrev pub view_text : State → List ℕ → ℕ → ℕ → Ending → Result Tally Refusal → List ℕ
view_text s cells steps evals ending (Ok n) = chart_text s cells steps evals ending n
view_text s cells steps evals ending (Err why) = refused_text why

-- from the run: the counts of what it leaves
abbrev pub ran_text : RunResult → List ℕ
ran_text (has_run e) =
    view_text e.world.state e.world.cells e.steps e.evaluations e.ending (counts_answer e.world.state e.world.cells)
ran_text (not_run why) = refused_text why

-- from the setup, with the ring and the cells that it leaves
abbrev pub started_text : Order → List ℕ → List ℕ → List ℕ → Result State Refusal → List ℕ
started_text o tape ring cells (Ok s) = ran_text (run_of o.budget (world_of s ring cells) tape)
started_text o tape ring cells (Err why) = refused_text why

-- of a sheet that is taken
unfoldable pub order_text : Order → List ℕ → List ℕ
order_text o tape =
    let p = cleared o.chosen in
    started_text o tape
    (ring_begun p o.ranges fresh_ring fresh_cells)
    (cells_begun p o.ranges fresh_ring fresh_cells)
    (setup_answer p o.ranges (length fresh_ring) (length fresh_cells))

-- THE TEXT OF A SHEET
unfoldable pub text_of : List ℕ → List ℕ
text_of s = cond (taken_sheet s) (order_text (order_in s) (drop (order_in s).tape s)) (refused_text R.Sheet)
