-- `first_pixel` meets its contract. Assumes nothing.
use mathlib.Core.Path.{◌∙◌}
use native.Mathlib.Omega.{arith}
use Rattle.image.proofs.RangeLaws.{first_right, first_zero, first_beyond, first_left, rank_bound}
use Rattle.image.proofs.first_pixel.Goals as goal

pub returns-then-rank-lt-PIXEL_RANK : goal.returns-then-rank-lt-PIXEL_RANK
returns-then-rank-lt-PIXEL_RANK c = let a = c.args in c.min.ensures ∙ first_right a.side a.rank a.index c.if-rank-lt-PIXEL_RANK.true

pub returns-then-index-eq0 : goal.returns-then-index-eq0
returns-then-index-eq0 c = let a = c.args in first_zero a.side a.rank a.index c.if-rank-lt-PIXEL_RANK.false c.if-index-eq0.true

pub returns-then-index-rank : goal.returns-then-index-rank
returns-then-index-rank c =
    let a = c.args in
    first_beyond a.side a.rank a.index c.requires c.if-rank-lt-PIXEL_RANK.false c.if-index-eq0.false c.if-index-rank.true

pub overflow_shl-index : goal.overflow_shl-index
overflow_shl-index c = let a = c.args in omega (arith, rank_bound a.rank a.index c.if-index-rank.false)

pub returns : goal.returns
returns c =
    let a = c.args in
    c.min-2.ensures ∙ first_left a.side a.rank a.index c.if-rank-lt-PIXEL_RANK.false c.if-index-rank.false
