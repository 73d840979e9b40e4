-- `read_bounds` meets its contract. Assumes nothing.
use Rattle.std.proofs.Common.{arith, ap, ◌∙◌}
use Rattle.queue.specs.Decode.{bounds_of}
use Rattle.queue.proofs.ReadLaws.{ok_some, bounds_none}
use Rattle.queue.proofs.BlockReading.{bounds_short, bounds_some}
use Rattle.queue.proofs.read.read_bounds.Goals as goal

pub returns-then-len-at-lt16 : goal.returns-then-len-at-lt16
returns-then-len-at-lt16 c = bounds_short _ c.args.at c.args.integer (omega (arith, c.len.ensures))

pub returns-in_err-interval : goal.returns-in_err-interval
returns-in_err-interval c =
    c.from_residual.ensures
    ∙ bounds_none _ c.in_err-interval.ensures.value
    ∙ bounds_some _ c.args.at c.args.integer _ _ _ (omega (arith, c.len.ensures)) c.read_word-lower.ensures
    c.read_word-upper.ensures c.interval_from_bits.ensures

pub returns : goal.returns
returns c =
    ap bounds_of (ok_some _ _ c.in_ok-interval.ensures.value)
    ∙ bounds_some _ c.args.at c.args.integer _ _ _ (omega (arith, c.len.ensures)) c.read_word-lower.ensures
    c.read_word-upper.ensures c.interval_from_bits.ensures
