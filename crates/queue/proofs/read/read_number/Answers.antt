-- `read_number` meets its contract: more bytes behind a number change nothing. Assumes nothing.
use Rattle.std.proofs.Common.{sym, ap, ◌∙◌}
use Rattle.small.specs.Small.{read_small}
use Rattle.queue.proofs.ReadLaws.{number_near, number_far}
use Rattle.queue.proofs.read.read_number.Goals as goal

pub returns-in-Ok : goal.returns-in-Ok
returns-in-Ok c =
    number_near _ _ c.args.at _ (sym c.in-Ok.is ∙ c.read_small.ensures ∙ ap read_small c.part.ensures.bytes)

pub returns-in-Err : goal.returns-in-Err
returns-in-Err c = number_far _ c.args.at _ c.read_across.ensures.is_byte c.read_across.ensures.value
