-- `listing::list_block` meets its contract. Assumes nothing.
use Rattle.implicit.proofs.StepLawsCode.{listed_yes, listed_no}
use Rattle.implicit.proofs.listing.list_block.Goals as goal

pub returns-then-kids-gt0 : goal.returns-then-kids-gt0
returns-then-kids-gt0 c =
    listed_yes c.args.p c.args.b c.children_of-kids.result c.requires c.children_of-kids.ensures c.if-kids-gt0.true

pub returns-else-kids-gt0 : goal.returns-else-kids-gt0
returns-else-kids-gt0 c =
    listed_no c.args.p c.args.b c.children_of-kids.result c.requires c.children_of-kids.ensures c.if-kids-gt0.false
