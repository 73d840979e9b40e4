-- The answers of the entries that are enums: document 01's number of each case, 0 where the call was done and else that of its refusal, and its values.
-- A refused step, run or move hands back the record it was given. Any other value that a refused call does not have is blank: 0, counts of 0,
-- or the record of no picture.
use Rattle.std.specs.Prelude.{List, [], ◌∷◌, ℕ, Result, Ok, Err}
use Rattle.refusal.specs.Number.{number}
use Rattle.refusal.specs.declared.Refusal.{Refusal}
use Rattle.queue.specs.Block.{starting_last}
use Rattle.implicit.specs.declared.state.State.{State}
use Rattle.implicit.specs.declared.state.Tally.{Tally}
use Rattle.implicit.specs.declared.state.Ending.{Ending}
use Rattle.implicit.specs.declared.state.Ending.TheVariants as E
use Rattle.implicit.specs.declared.state.Refused.{Refused}
use Rattle.implicit.specs.declared.state.Finished.{Finished}
use Rattle.implicit.specs.declared.state.Ended.{Ended}
use Rattle.decide.specs.declared.children.Children.{Children}

-- SETUP: its number, and the record that it leaves. A refused setup leaves the blank one: its picture has sides of 0, so that every call on it is refused
abbrev pub blank_state : State
blank_state = record {
  chosen = record { width = 0; height = 0; set = 0; reserved1 = 0; reserved2 = 0; reserved3 = 0 };
  taken = 0;
  queued = 0;
  len = 0;
  head = 0;
  used = 0;
  front = starting_last;
  back = starting_last;
}

abbrev pub setup_number : Result State Refusal → ℕ
setup_number (Ok s) = 0
setup_number (Err why) = number why

abbrev pub setup_state : Result State Refusal → State
setup_state (Ok s) = s
setup_state (Err why) = blank_state

-- THE LEAST RING, AND ONE THAT IS ENOUGH: the number, and the bytes
abbrev pub needed_number : Result ℕ Refusal → ℕ
needed_number (Ok n) = 0
needed_number (Err why) = number why

abbrev pub needed_bytes : Result ℕ Refusal → ℕ
needed_bytes (Ok n) = n
needed_bytes (Err why) = 0

-- MOVE: its number, and the record
abbrev pub move_number : Result State Refused → ℕ
move_number (Ok s) = 0
move_number (Err f) = number f.why

abbrev pub move_state : Result State Refused → State
move_state (Ok s) = s
move_state (Err f) = f.state

-- STEP: its number, the record, the evaluations, and the verdict bytes that it took
abbrev pub step_number : Result Finished Refused → ℕ
step_number (Ok f) = 0
step_number (Err f) = number f.why

abbrev pub step_state : Result Finished Refused → State
step_state (Ok f) = f.state
step_state (Err f) = f.state

abbrev pub step_evaluations : Result Finished Refused → ℕ
step_evaluations (Ok f) = f.evaluations
step_evaluations (Err f) = 0

abbrev pub step_verdicts : Result Finished Refused → ℕ
step_verdicts (Ok f) = f.verdicts
step_verdicts (Err f) = 0

-- AN ENDING: its word's bytes, those of "done", "limit", "more" and "stop", and the number of the refusal that stopped the run, 0 where none did
abbrev pub ending_word : Ending → List ℕ
ending_word E.Done = 100 ∷ 111 ∷ 110 ∷ 101 ∷ []
ending_word E.Limit = 108 ∷ 105 ∷ 109 ∷ 105 ∷ 116 ∷ []
ending_word E.More = 109 ∷ 111 ∷ 114 ∷ 101 ∷ []
ending_word (E.Stop why) = 115 ∷ 116 ∷ 111 ∷ 112 ∷ []

abbrev pub stop_number : Ending → ℕ
stop_number E.Done = 0
stop_number E.Limit = 0
stop_number E.More = 0
stop_number (E.Stop why) = number why

-- RUN: its number, the record, the steps, evaluations and tape bytes, and the number of what stopped it
abbrev pub run_number : Result Ended Refused → ℕ
run_number (Ok f) = 0
run_number (Err f) = number f.why

abbrev pub run_state : Result Ended Refused → State
run_state (Ok f) = f.state
run_state (Err f) = f.state

abbrev pub run_steps : Result Ended Refused → ℕ
run_steps (Ok f) = f.steps
run_steps (Err f) = 0

abbrev pub run_evaluations : Result Ended Refused → ℕ
run_evaluations (Ok f) = f.evaluations
run_evaluations (Err f) = 0

abbrev pub run_tape : Result Ended Refused → ℕ
run_tape (Ok f) = f.tape
run_tape (Err f) = 0

abbrev pub run_word : Result Ended Refused → List ℕ
run_word (Ok f) = ending_word f.ending
run_word (Err f) = []

abbrev pub run_stop : Result Ended Refused → ℕ
run_stop (Ok f) = stop_number f.ending
run_stop (Err f) = 0

-- PICTURE: its number; and that of the children, which are listed beside it
abbrev pub call_number : Result (Unit {0}) Refusal → ℕ
call_number (Ok u) = 0
call_number (Err why) = number why

abbrev pub children_number : Result Children Refusal → ℕ
children_number (Ok l) = 0
children_number (Err why) = number why

-- COUNTS: their number, and what was counted
abbrev pub blank_counts : Tally
blank_counts = record { trues = 0; falses = 0; uncertain = 0; givenup = 0; queued = 0; share = 0 }

abbrev pub counts_number : Result Tally Refusal → ℕ
counts_number (Ok k) = 0
counts_number (Err why) = number why

abbrev pub counts_values : Result Tally Refusal → Tally
counts_values (Ok k) = k
counts_values (Err why) = blank_counts
