-- `implicit::view::with_share` meets its contract. Assumes nothing.
use native.Mathlib.Omega.{arith}
use Rattle.implicit.proofs.RecordLaws.{sound_record_lem}
use Rattle.implicit.proofs.ViewLaws.{pixels_fit, counts_from_as}
use Rattle.implicit.proofs.view.with_share.Goals as goal

pub overflow_add-settled : goal.overflow_add-settled
overflow_add-settled c = let n = pixels_fit _ _ c.requires.0 c.requires.1 in record { fits = omega (arith, n) }

pub overflow_sub-result : goal.overflow_sub-result
overflow_sub-result c = omega (arith, (sound_record_lem _ _ c.requires.0).order)

pub overflow_cast-settled : goal.overflow_cast-settled
overflow_cast-settled c = record { fits = pixels_fit _ _ c.requires.0 c.requires.1 }

pub overflow_cast-pixel_count : goal.overflow_cast-pixel_count
overflow_cast-pixel_count c = record { fits = pixels_fit _ _ c.requires.0 (omega (arith, c.pixel_count.ensures)) }

pub returns : goal.returns
returns c = counts_from_as _ _ _ _ c.share_of.ensures c.pixel_count.ensures
