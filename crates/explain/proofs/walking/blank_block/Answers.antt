-- `walking::blank_block` meets its contract. Assumes nothing.
use Rattle.explain.proofs.walking.blank_block.Goals as goal

pub returns : goal.returns
returns c = rw c.whole_line-all.ensures
