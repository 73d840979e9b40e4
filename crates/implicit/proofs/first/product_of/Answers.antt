-- `first::product_of` meets its contract. Assumes nothing.
use Rattle.implicit.proofs.SetupLawsProduct.{product_made}
use Rattle.implicit.proofs.first.product_of.Goals as goal

pub returns : goal.returns
returns c =
    product_made _ _ _ _ _ _ _ c.root_block-root.ensures c.pieces_of-m.ensures c.pieces_of-n.ensures c.pieces_of-theta.ensures
    c.pieces_of-t.ensures
