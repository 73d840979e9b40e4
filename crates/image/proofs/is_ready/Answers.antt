-- `is_ready` meets its contract. Assumes nothing.
use borrow.Author.Rules.{rules}
use Rattle.image.specs.Range.{in_picture, picture_ready}
use Rattle.image.proofs.RangeLaws.{product_fits}
use Rattle.image.proofs.is_ready.Goals as goal

pub overflow_mul-result : goal.overflow_mul-result
overflow_mul-result c = record { fits = product_fits _ _ (search rules) (search rules) }

pub returns : goal.returns
unfolding picture_ready in_picture
returns c = search rules
