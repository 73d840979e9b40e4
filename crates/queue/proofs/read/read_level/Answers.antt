-- `read_level` meets its contract. Assumes nothing.
use Rattle.std.proofs.Common.{◌∙◌}
use Rattle.queue.specs.RingComputed.{bytes}
use Rattle.queue.proofs.ReadLaws.{level_none, level_some}
use Rattle.queue.proofs.read.read_level.Goals as goal

pub returns-in_err-get : goal.returns-in_err-get
returns-in_err-get c = c.from_residual.ensures ∙ level_none (bytes c.args.held) c.args.at c.in_err-get.ensures

pub returns : goal.returns
returns c = c.level_of.ensures ∙ level_some (bytes c.args.held) c.args.at _ c.in_ok-get.ensures
