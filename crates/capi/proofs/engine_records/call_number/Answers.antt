-- `engine_records::call_number` meets its contract. Assumes nothing.
use Rattle.capi.proofs.engine_records.call_number.Goals as goal

pub returns-in-Err : goal.returns-in-Err
returns-in-Err c = rw (c.in-Err.is, c.refusal_number.ensures)
