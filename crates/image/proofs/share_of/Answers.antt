-- `image::share_of` meets its contract. Assumes nothing.
use borrow.Author.Rules.{rules}
use Rattle.image.specs.Cell.{share_of}
use Rattle.image.proofs.ShareLaws.{share_none}
use Rattle.image.proofs.share_of.Goals as goal

pub returns-then-pixels-eq0 : goal.returns-then-pixels-eq0
returns-then-pixels-eq0 c = let a = c.args in share_none a.settled a.pixels c.if-pixels-eq0.true

pub returns : goal.returns
unfolding share_of
returns c = search rules
