-- `past_pixel` meets its contract. Assumes nothing.
use Rattle.image.proofs.RangeLaws.{past_beyond}
use Rattle.image.proofs.past_pixel.Goals as goal

pub returns-then-rank-ge80 : goal.returns-then-rank-ge80
returns-then-rank-ge80 c = let a = c.args in past_beyond a.side a.rank a.first c.requires.0 c.if-rank-ge80.true
