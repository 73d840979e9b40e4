-- `commit::commit` meets its contract. Assumes nothing.
use Rattle.implicit.specs.StepComputed.{carrying_of}
use Rattle.implicit.proofs.StepLawsChildren.{committed_by}
use Rattle.implicit.proofs.commit.commit.Goals as goal

pub returns : goal.returns
returns c =
    let r = c.carry_children in
    let m = c.mark_children in
    let a = c.args in
    committed_by a.p a.from a.queued a.back a.ring.now a.cells.now a.g m.new.cells
    (carrying_of r.result r.new.ring r.new.cells) m.ensures r.ensures
