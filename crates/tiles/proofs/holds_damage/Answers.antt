-- `holds_damage` meets its contract. Assumes nothing.
use mathlib.Core.Path.{sym, ap, ◌∙◌}
use native.Mathlib.Omega.{arith}
use lib.ListN.{length}
use Rattle.image.specs.declared.CellKind.TheVariants as K
use Rattle.image.specs.declared.PixelRange.{PixelRange}
use Rattle.image.specs.Painting.{some_seen}
use Rattle.tiles.proofs.TileLaws.{ready_in, damage_outside, damage_seen}
use Rattle.tiles.proofs.holds_damage.Goals as goal

pub returns-then-not-is_ready : goal.returns-then-not-is_ready
returns-then-not-is_ready c =
    let a = c.args in
    sym (damage_outside a.width a.height a.r a.cells.now (sym c.is_ready.ensures ∙ c.if-not-is_ready.true))

pub rounded_out-rounded-requires : goal.rounded_out-rounded-requires
rounded_out-rounded-requires c =
    let a = c.args in
    let e = sym c.is_ready.ensures ∙ c.if-not-is_ready.false in
    (omega arith, omega arith, ready_in a.width a.height a.r (length a.cells.now) e)

pub returns : goal.returns
returns c =
    let a = c.args in
    c.tile_holds.ensures
    ∙ ap (λ (t : PixelRange). some_seen a.width a.height t K.Damaged a.cells.now) c.rounded_out-rounded.ensures
    ∙ sym (damage_seen a.width a.height a.r a.cells.now (sym c.is_ready.ensures ∙ c.if-not-is_ready.false))
