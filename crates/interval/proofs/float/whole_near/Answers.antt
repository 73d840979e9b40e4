-- `float::whole_near` meets its contract. Assumes nothing.
use Rattle.std.proofs.Common.{T, ap, ◌∙◌}
use lib.Ieee.{Float, binary64, fits, of_bits, neg}
use denote.Floats.{passes}
use Rattle.interval.specs.Bounds.{plus_zero}
use Rattle.interval.proofs.WholeRounding.{above_neg, near_neg, near_zero}
use Rattle.interval.proofs.float.whole_near.Lts
use Rattle.interval.proofs.float.whole_near.Reads
use Rattle.interval.proofs.float.whole_near.Tie
use Rattle.interval.proofs.float.whole_near.Goals as goal

held : (c : Lts.Start Tie.the-claims Reads.Pre Reads.Post) → T (fits binary64 c.args.x)
held c = passes (fits binary64 c.args.x) c.well_formed.0.1

pub near_whole-requires : goal.near_whole-requires
unfolding of_bits
near_whole-requires c = c.if-x.true

pub near_whole-requires-then-x-2 : goal.near_whole-requires-then-x-2
unfolding of_bits
near_whole-requires-then-x-2 c = above_neg c.args.x c.if-x-2.true

pub returns-then-x : goal.returns-then-x
returns-then-x c = c.near_whole.ensures

pub returns-then-x-2 : goal.returns-then-x-2
returns-then-x-2 c =
    c.plus_zero.ensures ∙ ap (λ (z : Float). plus_zero (neg z)) c.near_whole-then-x-2.ensures ∙ near_neg c.args.x (held c.before.before.before.before)

pub returns-else-x-2 : goal.returns-else-x-2
unfolding of_bits
returns-else-x-2 c =
    c.plus_zero-else-x-2.ensures ∙ near_zero c.args.x (held c.before.before.before) c.if-x.false c.if-x-2.false
