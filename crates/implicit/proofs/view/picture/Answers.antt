-- `implicit::view::picture` meets its contract. Assumes nothing.
use mathlib.Core.Path.{refl, sym}
use Rattle.std.proofs.lemmas.Result.{err_from_is_err_and}
use Rattle.implicit.proofs.ViewLaws.{drawn_viewable}
use Rattle.implicit.proofs.view.picture.Goals as goal

pub draw-requires : goal.draw-requires
draw-requires c =
    let v = drawn_viewable _ _ _ (sym c.in_ok-examine.ensures) in
    (v.enough, v.room_left)

pub returns : goal.returns
returns c = record { value = c.in_ok-examine.ensures; out_after = c.draw.ensures }

pub returns-in_err-examine : goal.returns-in_err-examine
returns-in_err-examine c =
    let p = err_from_is_err_and c.from_residual.result c.from_residual.ensures.1 in rw (p.1, p.2) (record { value = c.in_err-examine.ensures; out_after = refl })
