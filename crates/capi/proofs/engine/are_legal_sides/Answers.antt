-- `engine::are_legal_sides` meets its contract. Assumes nothing.
use mathlib.Core.Path.{ap₂}
use mathlib.Core.Bool.{◌&&◌}
use Rattle.capi.proofs.engine.are_legal_sides.Goals as goal

pub returns : goal.returns
returns c = ap₂ ◌&&◌ c.is_legal_side.ensures c.is_legal_side-2.ensures
