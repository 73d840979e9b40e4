-- `kind::cut_up_to` meets its contract. Assumes nothing.
use Rattle.std.proofs.Common.{T}
use lib.Ieee.{binary64, fits}
use denote.Floats.{passes}
use Rattle.interval.proofs.CutUpTo.{cut_clipped, cut_doubled, cut_positive, cut_zero}
use Rattle.interval.proofs.kind.cut_up_to.Lts
use Rattle.interval.proofs.kind.cut_up_to.Reads
use Rattle.interval.proofs.kind.cut_up_to.Goals as goal

held : (c : Lts.Start Reads.Pre Reads.Post) → T (fits binary64 c.args.b)
held c = passes (fits binary64 c.args.b) c.well_formed.0.1

pub returns-then-d : goal.returns-then-d
returns-then-d c = cut_clipped c.args.b (held c.before.before) c.requires c.if-b.true c.if-d.true

pub returns-else-d : goal.returns-else-d
returns-else-d c = cut_doubled c.args.b (held c.before.before) c.requires c.if-b.true c.if-d.false

pub returns-then-b-2 : goal.returns-then-b-2
returns-then-b-2 c = cut_positive c.args.b (held c.before.before) c.requires c.if-b.false c.if-b-2.true

pub returns-else-b-2 : goal.returns-else-b-2
returns-else-b-2 c = cut_zero c.args.b (held c.before.before) c.requires c.if-b.false c.if-b-2.false
