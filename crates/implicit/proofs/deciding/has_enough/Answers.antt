-- `deciding::has_enough` meets its contract. Assumes nothing.
use Rattle.implicit.proofs.deciding.has_enough.Goals as goal

pub returns-then-tape : goal.returns-then-tape
returns-then-tape c = rw c.if-tape.true

pub returns-else-tape : goal.returns-else-tape
returns-else-tape c = rw c.if-tape.false
