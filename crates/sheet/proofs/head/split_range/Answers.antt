-- `head::split_range` meets its contract. Assumes nothing.
use Rattle.std.proofs.Common.{sym, ◌∙◌, rules}
use Rattle.sheet.specs.Layout.{range_in}
use Rattle.sheet.proofs.head.split_range.Goals as goal

pub returns-then-is_used : goal.returns-then-is_used
unfolding range_in
returns-then-is_used c = rw (sym c.is_used.ensures ∙ c.if-is_used.true) c.split_bounds.ensures

pub returns-else-is_used : goal.returns-else-is_used
unfolding range_in
returns-else-is_used c = rw (sym c.is_used.ensures ∙ c.if-is_used.false) (search rules)
