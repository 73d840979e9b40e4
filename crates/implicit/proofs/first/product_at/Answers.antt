-- `first::product_at` meets its contract. Assumes nothing.
use Rattle.implicit.proofs.SetupLawsProduct.{some, at_made}
use Rattle.implicit.proofs.first.product_at.Goals as goal

pub pick-k-requires : goal.pick-k-requires
pick-k-requires c = (some _ c.requires).t

pub pick-k-requires-2 : goal.pick-k-requires-2
pick-k-requires-2 c = (some _ c.requires).theta

pub pick-k-requires-3 : goal.pick-k-requires-3
pick-k-requires-3 c = (some _ c.requires).n

pub pick-k-requires-4 : goal.pick-k-requires-4
pick-k-requires-4 c = (some _ c.requires).m

pub returns : goal.returns
returns c =
    at_made _ _ _ _ _ _ c.pick-k.ensures c.pick-k-2.ensures c.pick-k-3.ensures c.pick-k-4.ensures
