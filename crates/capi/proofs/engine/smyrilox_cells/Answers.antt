-- `engine::smyrilox_cells` meets its contract. Assumes nothing.
use mathlib.Core.Path.{sym, ◌∙◌}
use borrow.Author.Rules.{rules}
use Rattle.image.proofs.RangeLaws.{product_fits}
use Rattle.capi.proofs.engine.smyrilox_cells.Goals as goal

pub overflow_mul-result : goal.overflow_mul-result
overflow_mul-result c = record { fits = product_fits _ _ (search rules) (search rules) }

pub returns-then-are_legal_sides : goal.returns-then-are_legal_sides
returns-then-are_legal_sides c = rw (sym c.are_legal_sides.ensures ∙ c.if-are_legal_sides.true)

pub returns : goal.returns
returns c = rw (sym c.are_legal_sides.ensures ∙ c.if-are_legal_sides.false)
