-- `rectangle` meets its contract. Assumes nothing.
use Rattle.image.proofs.RangeLaws.{rectangle_made}
use Rattle.image.proofs.rectangle.Goals as goal

pub returns : goal.returns
returns c =
    let a = c.args in
    rectangle_made a.x a.y a.width a.height c.first_pixel-left.result c.past_pixel-right.result c.first_pixel-low.result c.past_pixel-high.result
    c.first_pixel-left.ensures
    c.past_pixel-right.ensures
    c.first_pixel-low.ensures
    c.past_pixel-high.ensures
