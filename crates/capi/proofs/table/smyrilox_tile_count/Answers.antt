-- `table::smyrilox_tile_count` meets its contract. Assumes nothing.
use mathlib.Core.Path.{sym, ◌∙◌}
use Rattle.capi.proofs.table.smyrilox_tile_count.Goals as goal

pub returns-then-are_legal_sides : goal.returns-then-are_legal_sides
returns-then-are_legal_sides c = rw (sym c.are_legal_sides.ensures ∙ c.if-are_legal_sides.true, c.tile_count.ensures)

pub returns : goal.returns
returns c = rw (sym c.are_legal_sides.ensures ∙ c.if-are_legal_sides.false)
