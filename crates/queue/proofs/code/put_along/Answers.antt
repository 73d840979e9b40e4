-- `put_along` meets its contract. Assumes nothing.
use Rattle.queue.proofs.code.put_along.Goals as goal

pub returns : goal.returns
returns c =
    rw (← c.is_used.ensures, ← c.recall.ensures, ← c.parameter_of.ensures)
    c.put_parameter.ensures
