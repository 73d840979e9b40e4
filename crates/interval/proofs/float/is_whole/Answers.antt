-- `float::is_whole` meets its contract. Assumes nothing.
use Rattle.std.proofs.Common.{ap, ◌∙◌}
use lib.Ieee.{Float, binary64, fits, eq}
use denote.Floats.{passes}
use Rattle.interval.proofs.Wholeness.{whole_is}
use Rattle.interval.proofs.float.is_whole.Goals as goal

pub returns : goal.returns
returns c =
    let x = c.args.x in
    ap (λ (z : Float). eq z x) c.whole_near.ensures ∙ whole_is x (passes (fits binary64 x) c.well_formed.0.1)
