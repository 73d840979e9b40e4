-- `implicit::record::pixel_count` meets its contract. Assumes nothing.
use borrow.Author.Rules.{rules}
use Rattle.image.proofs.RangeLaws.{product_fits}
use Rattle.implicit.proofs.record.pixel_count.Goals as goal

pub overflow_mul-result : goal.overflow_mul-result
overflow_mul-result c = record { fits = product_fits _ _ (search rules) (search rules) }
