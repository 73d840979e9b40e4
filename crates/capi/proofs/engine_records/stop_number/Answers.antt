-- `engine_records::stop_number` meets its contract. Assumes nothing.
use Rattle.capi.proofs.engine_records.stop_number.Goals as goal

pub returns-in-Stop : goal.returns-in-Stop
returns-in-Stop c = rw (c.in-Stop.is, c.refusal_number.ensures)
