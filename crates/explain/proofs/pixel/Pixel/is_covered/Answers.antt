-- `pixel::Pixel::is_covered` meets its contract. Assumes nothing.
use Rattle.explain.specs.Reasons.{covers_at}
use Rattle.explain.proofs.pixel.Pixel.is_covered.Goals as goal

pub returns : goal.returns
unfolding covers_at
returns c = rw c.rectangle-r.ensures
