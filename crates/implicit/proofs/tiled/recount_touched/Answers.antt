-- `tiled::recount_touched` meets its contract. Assumes nothing.
use Rattle.implicit.proofs.tiled.recount_touched.Goals as goal

pub returns : goal.returns
returns c = c.recount.ensures.table_after
