-- `cut::first_between` meets its contract. Assumes nothing.
use lib.Ieee.{binary64, fits}
use denote.Floats.{passes}
use Rattle.interval.specs.Bounds.{InFormat}
use Rattle.interval.specs.Cuts.{pair_of}
use Rattle.interval.proofs.FirstCut.{made_one, made_two, made_three}
use Rattle.interval.proofs.cut.first_between.Lts
use Rattle.interval.proofs.cut.first_between.Reads
use Rattle.interval.proofs.cut.first_between.Tie
use Rattle.interval.proofs.cut.first_between.Goals as goal

held : (c : Lts.Start Tie.the-claims Reads.Pre Reads.Post Tie.handed_clauses) → InFormat (pair_of c.args.a c.args.b)
held c = (passes (fits binary64 c.args.a) c.well_formed.0.1, passes (fits binary64 c.args.b) c.well_formed.1.0.1)

pub returns-then-integer-a : goal.returns-then-integer-a
returns-then-integer-a c =
    made_one c.args.a c.args.b c.args.integer (held c.before.before.before) c.requires.legal c.requires.finite c.span-low.result c.span-low.ensures c.if-integer-a.true

pub returns-then-integer-b : goal.returns-then-integer-b
returns-then-integer-b c =
    made_two c.args.a c.args.b c.args.integer (held c.before.before.before.before) c.requires.legal c.requires.finite c.span-low.result c.span-high.result c.span-low.ensures c.span-high.ensures c.if-integer-b.true

pub returns : goal.returns
returns c =
    made_three c.args.a c.args.b c.args.integer (held c.before.before.before.before.before) c.requires.legal c.requires.finite c.span-low.result c.span.result c.span-high.result
    c.span-low.ensures c.span.ensures c.span-high.ensures c.if-integer-a.false c.if-integer-b.false
