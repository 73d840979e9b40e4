-- `engine_records::blank_state` meets its contract. Assumes nothing.
use Rattle.capi.proofs.engine_records.blank_state.Goals as goal

pub returns : goal.returns
returns c = rw c.starting_last-last.ensures
