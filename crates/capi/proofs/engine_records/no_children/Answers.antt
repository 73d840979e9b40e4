-- `engine_records::no_children` meets its contract. Assumes nothing.
use Rattle.capi.proofs.engine_records.no_children.Goals as goal

pub returns : goal.returns
returns c = rw c.blank_block.ensures
