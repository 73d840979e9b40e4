-- How the engine's answers cross to other languages: as records that begin with the refusal, 0 or document 01's number. What was refused has blank
-- values beside its number; a refused step, run or move hands back the record that it was given.
use Rattle.std.specs.Prelude.{◌≡◌, cond, ◌&&◌, List, [], map, ℕ, ◌*◌, length, Result, Ok, Err}
use Rattle.refusal.specs.Number.{number}
use Rattle.refusal.specs.declared.Refusal.TheVariants as R
use Rattle.refusal.specs.declared.Refusal.{Refusal}
use Rattle.coordinate.specs.declared.Coordinate as Inner
use Rattle.coordinate.specs.Axis.{level}
use Rattle.queue.specs.declared.Block.{Block}
use Rattle.tiles.specs.Tiles.{tile_count}
use Rattle.decide.specs.declared.Chosen.{Chosen}
use Rattle.decide.specs.declared.children.Children.{Children}
use Rattle.decide.specs.Children.{listed}
use Rattle.decide.specs.Damage.{legal_side}
use Rattle.implicit.specs.declared.state.Ranges.{Ranges}
use Rattle.implicit.specs.declared.state.State.{State}
use Rattle.implicit.specs.declared.state.Ending.{Ending}
use Rattle.implicit.specs.declared.state.Ending.TheVariants as E
use Rattle.implicit.specs.declared.state.Refused.{Refused}
use Rattle.implicit.specs.declared.state.Finished.{Finished}
use Rattle.implicit.specs.declared.state.Ended.{Ended}
use Rattle.implicit.specs.declared.state.Tally.{Tally}
use Rattle.implicit.specs.Listing.{no_block}
use Rattle.implicit.specs.Step.{World, StepEnd, world_of, step_answer, world_after}
use Rattle.implicit.specs.Run.{RunResult, run_answer, world_run}
use Rattle.implicit.specs.View.{if_done}
use Rattle.implicit.specs.Tiled.{tiled_setup_answer, tiled_ring_begun, tiled_cells_begun, table_begun, tiled_step_of, table_after, tiled_run_of, table_run}
use Rattle.implicit.specs.Tiled.{fill_answer, table_filled}
use Rattle.implicit.specs.Move.{move_of, move_answer, other_after}
use Rattle.implicit.specs.Answers.{setup_number, setup_state, needed_number, needed_bytes, move_number, move_state, step_number, step_state, step_evaluations, step_verdicts, run_number, run_state, run_steps, run_evaluations, run_tape, run_stop, children_number, counts_number, counts_values}
use Rattle.capi.specs.declared.records.Coordinate.{Coordinate}
use Rattle.capi.specs.declared.records.Child.{Child}
use Rattle.capi.specs.declared.records.Started.{Started}
use Rattle.capi.specs.declared.records.Moved.{Moved}
use Rattle.capi.specs.declared.records.Listed.{Listed}
use Rattle.capi.specs.declared.records.Stepped.{Stepped}
use Rattle.capi.specs.declared.records.Ran.{Ran}
use Rattle.capi.specs.declared.records.Counted.{Counted}
use Rattle.capi.specs.declared.records.Number.{Number}

-- "a side is 0 or over 32768", else one cell a pixel
abbrev pub cells_record : ℕ → ℕ → Number
cells_record width height =
    cond (legal_side width && legal_side height) (record { refusal = 0; value = width * height }) (record { refusal = number R.Side; value = 0 })

-- the least ring, and one that is enough
abbrev pub needed_record : Result ℕ Refusal → Number
needed_record a = record { refusal = needed_number a; value = needed_bytes a }

-- setup
abbrev pub setup_record : Result State Refusal → Started
setup_record a = record { refusal = setup_number a; state = setup_state a }

-- move
abbrev pub move_record : Result State Refused → Moved
move_record a = record { refusal = move_number a; state = move_state a }

-- what crosses of a move, with the other ring afterwards, whatever the cells are: the call is not lent them
abbrev pub MovesAcross : State → List ℕ → List ℕ → Moved → List ℕ → Type 0
MovesAcross s ring other r after =
    (cells : List ℕ) → (r ≡ move_record (move_answer s (move_of (world_of s ring cells) other))) × (after ≡ other_after other (move_of (world_of s ring cells) other))

-- step
abbrev pub step_record : Result Finished Refused → Stepped
step_record a = record { refusal = step_number a; evaluations = step_evaluations a; tape = step_verdicts a; state = step_state a }

-- run: "done", "limit", "more", "stop" by their numbers, and 0 for none of them
abbrev pub ending_number : Ending → ℕ
ending_number E.Done = 1
ending_number E.Limit = 2
ending_number E.More = 3
ending_number (E.Stop why) = 4

abbrev pub run_ending : Result Ended Refused → ℕ
run_ending (Ok f) = ending_number f.ending
run_ending (Err f) = 0

abbrev pub run_record : Result Ended Refused → Ran
run_record a = record {
  refusal = run_number a;
  ending = run_ending a;
  stop = run_stop a;
  steps = run_steps a;
  evaluations = run_evaluations a;
  tape = run_tape a;
  state = run_state a;
}

-- counts
abbrev pub counts_record : Result Tally Refusal → Counted
counts_record a = record { refusal = counts_number a; counts = counts_values a }

-- a coordinate with document 01's level
abbrev pub coordinate_record : Inner.Coordinate → Coordinate
coordinate_record c = record { index = c.index; level = level c.rank }

-- a block as an evaluator is asked about it
abbrev pub child_record : Block → Child
child_record b = record { x = coordinate_record b.x; y = coordinate_record b.y; m = b.m; n = b.n; theta = b.theta; t = b.t }

-- children
abbrev pub list_record : ℕ → Children → Listed
list_record refusal k = record { refusal = refusal; count = k.count; at = map child_record k.at }

-- where none are listed
abbrev pub no_children : Children
no_children = listed no_block []

abbrev pub children_values : Result Children Refusal → Children
children_values (Ok k) = k
children_values (Err why) = no_children

abbrev pub children_record : Result Children Refusal → Listed
children_record a = list_record (children_number a) (children_values a)

-- WITH A TABLE: document 02, (iv). Each by the record, ring, cells and table that the call is lent, and then its verdicts or its tape

-- "a side is 0 or over 32768", else the tiles of the picture: a table has four numbers for each
abbrev pub tile_count_record : ℕ → ℕ → Number
tile_count_record width height =
    cond (legal_side width && legal_side height) (record { refusal = 0; value = tile_count width height }) (record { refusal = number R.Side; value = 0 })

-- setup: what it answers, and the ring, the cells and the table afterwards
abbrev pub setup_with_table : Chosen → Ranges → List ℕ → List ℕ → List ℕ → Started
setup_with_table p r ring cells table = setup_record (tiled_setup_answer p r (length ring) (length cells) (length table))

abbrev pub ring_set_up : Chosen → Ranges → List ℕ → List ℕ → List ℕ → List ℕ
ring_set_up p r ring cells table = tiled_ring_begun p r ring (length cells) (length table)

abbrev pub cells_set_up : Chosen → Ranges → List ℕ → List ℕ → List ℕ → List ℕ
cells_set_up p r ring cells table = tiled_cells_begun p r (length ring) cells (length table)

abbrev pub table_set_up : Chosen → Ranges → List ℕ → List ℕ → List ℕ → List ℕ
table_set_up p r ring cells table = table_begun p r (length ring) cells table

-- step: how it ends; so what it answers, the ring and the cells that it leaves, and the table
abbrev pub step_ending : State → List ℕ → List ℕ → List ℕ → List ℕ → StepEnd
step_ending s ring cells table vs = tiled_step_of (length table) (world_of s ring cells) vs

abbrev pub step_with_table : State → List ℕ → List ℕ → List ℕ → List ℕ → Stepped
step_with_table s ring cells table vs = step_record (step_answer s (step_ending s ring cells table vs))

abbrev pub world_stepped : State → List ℕ → List ℕ → List ℕ → List ℕ → World
world_stepped s ring cells table vs = world_after (world_of s ring cells) (step_ending s ring cells table vs)

abbrev pub table_stepped : State → List ℕ → List ℕ → List ℕ → List ℕ → List ℕ
table_stepped s ring cells table vs = table_after (world_of s ring cells) table (step_ending s ring cells table vs)

-- run, of so many steps at most, likewise
abbrev pub run_result : ℕ → State → List ℕ → List ℕ → List ℕ → List ℕ → RunResult
run_result budget s ring cells table tape = tiled_run_of budget (length table) (world_of s ring cells) tape

abbrev pub run_with_table : ℕ → State → List ℕ → List ℕ → List ℕ → List ℕ → Ran
run_with_table budget s ring cells table tape = run_record (run_answer s (run_result budget s ring cells table tape))

abbrev pub world_taken : ℕ → State → List ℕ → List ℕ → List ℕ → List ℕ → World
world_taken budget s ring cells table tape = world_run (world_of s ring cells) (run_result budget s ring cells table tape)

abbrev pub table_taken : ℕ → State → List ℕ → List ℕ → List ℕ → List ℕ → List ℕ
table_taken budget s ring cells table tape = table_run budget (world_of s ring cells) tape table (run_result budget s ring cells table tape)

-- filling: the table afterwards
abbrev pub table_left : State → List ℕ → List ℕ → List ℕ
table_left s cells table = if_done (fill_answer s cells (length table)) (table_filled s cells table) table
