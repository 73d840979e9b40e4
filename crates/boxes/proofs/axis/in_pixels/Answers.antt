-- `axis::in_pixels` meets its contract. Assumes nothing.
use Rattle.boxes.proofs.PixelPoints.{in_pixels_is, in_float_lem}
use Rattle.boxes.proofs.axis.in_pixels.Goals as goal

pub int_to_float-result : goal.int_to_float-result
int_to_float-result c = in_float_lem c.args.n c.requires

pub returns : goal.returns
returns c = in_pixels_is c.args.n c.requires
