-- `pixel::Pixel::is_inside` meets its contract. Assumes nothing.
use mathlib.Core.Path.{refl}
use Rattle.explain.specs.Explained.{pixel_inside}
use Rattle.explain.proofs.pixel.Pixel.is_inside.Goals as goal

pub returns : goal.returns
unfolding pixel_inside
returns c = refl
