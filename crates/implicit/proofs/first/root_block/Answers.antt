-- `first::root_block` meets its contract. Assumes nothing.
use mathlib.Core.Path.{◌∙◌}
use Rattle.implicit.proofs.SetupLawsProduct.{root_made}
use Rattle.implicit.proofs.first.root_block.Goals as goal

pub returns : goal.returns
returns c =
    c.as_queued.ensures ∙ root_made c.args.p c.args.ranges c.start_level.result c.start_level.ensures.value
