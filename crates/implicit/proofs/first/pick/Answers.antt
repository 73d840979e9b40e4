-- `first::pick` meets its contract. Assumes nothing.
use Rattle.implicit.proofs.SetupLawsProduct.{picked_made}
use Rattle.implicit.proofs.first.pick.Goals as goal

pub nonzero_rem-k : goal.nonzero_rem-k
nonzero_rem-k c =
    rw c.piece_count-n.ensures.value c.requires

pub nonzero_div-result : goal.nonzero_div-result
nonzero_div-result c =
    rw c.piece_count-n.ensures.value c.requires

pub returns : goal.returns
returns c =
    let a = c.args in
    picked_made a.k a.d a.c _ _ _ c.piece_count-n.ensures.value c.piece_at-piece.ensures c.with_parameter-block.ensures
