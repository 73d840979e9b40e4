-- `leaf_records::rank_of` meets its contract. Assumes nothing.
use Rattle.capi.proofs.RecordLaws.{no_rank_here, sum_fits, sum_cast, sum_is}
use Rattle.capi.proofs.leaf_records.rank_of.Goals as goal

pub returns-then-level : goal.returns-then-level
returns-then-level c = no_rank_here c.args.level c.ranges.level c.if-level.true

pub overflow_add-result : goal.overflow_add-result
overflow_add-result c = sum_fits c.args.level c.ranges.level c.if-level.false

pub overflow_cast-result : goal.overflow_cast-result
overflow_cast-result c = sum_cast c.args.level c.ranges.level c.if-level.false

pub returns : goal.returns
returns c = sum_is c.args.level c.ranges.level c.if-level.false
