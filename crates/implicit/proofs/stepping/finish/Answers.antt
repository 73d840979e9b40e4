-- `stepping::finish` meets its contract. Assumes nothing.
use Rattle.implicit.proofs.stepping.finish.Goals as goal

pub returns : goal.returns
returns c = rw c.remember.ensures
