-- `Region::of` meets its contract. Assumes nothing.
use mathlib.Core.Path.{sym, ◌∙◌}
use lib.ListN.{length}
use Rattle.image.proofs.RangeLaws.{ready_rows}
use Rattle.image.proofs.region.Region.of.Goals as goal

pub invariant_of-result : goal.invariant_of-result
invariant_of-result c =
    let a = c.args in
    record { ready = ready_rows a.width a.height a.r (length a.cells.now) (sym c.is_ready.ensures ∙ c.if-not-is_ready.false) }
