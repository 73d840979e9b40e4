-- `cut::is_gone` meets its contract. Assumes nothing.
use lib.Ieee.{binary64, fits}
use denote.Floats.{passes}
use Rattle.interval.specs.Bounds.{InFormat}
use Rattle.interval.proofs.Widths.{width_one}
use Rattle.interval.proofs.cut.is_gone.Goals as goal

held : (c : goal.After-struct_known-1) → InFormat c.args.p
held c = (passes (fits binary64 c.args.p.lower) c.well_formed.0.1.1.0.1, passes (fits binary64 c.args.p.upper) c.well_formed.0.1.1.1.0.1)

pub returns : goal.returns
returns c = width_one c.args.p (held c) c.requires
