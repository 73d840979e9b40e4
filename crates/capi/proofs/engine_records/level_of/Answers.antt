-- `engine_records::level_of` meets its contract. Assumes nothing.
use Rattle.capi.proofs.RecordLaws.{less_fits, level_is}
use Rattle.capi.proofs.engine_records.level_of.Goals as goal

pub overflow_sub-result : goal.overflow_sub-result
overflow_sub-result c = less_fits c.args.rank c.ranges.rank.fits

pub returns : goal.returns
returns c = level_is c.args.rank c.ranges.rank.fits
