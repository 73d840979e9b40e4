-- `store_stretches` meets its contract. Assumes nothing.
use Rattle.queue.proofs.CopyLaws.{store_both}
use Rattle.queue.proofs.ring.store_stretches.Goals as goal

pub returns : goal.returns
returns c =
    let a = c.args in
    store_both a.ring.now a.held.older.now a.held.newer.now _ _ c.store_straight.ensures c.store_straight-2.ensures
