-- `implicit::view::counts` meets its contract. Assumes nothing.
use mathlib.Core.Path.{sym, ◌∙◌}
use Rattle.std.proofs.lemmas.Result.{err_from_is_err_and}
use Rattle.implicit.proofs.ViewLaws.{drawn_viewable, counts_done, counts_refused}
use Rattle.implicit.proofs.view.counts.Goals as goal

pub count_pixels-requires : goal.count_pixels-requires
count_pixels-requires c =
    let v = drawn_viewable _ _ _ (sym c.in_ok-examine.ensures) in
    (v.record_sound, v.enough)

pub returns : goal.returns
returns c = c.count_pixels.ensures ∙ sym (counts_done _ _ _ c.pixel_count.ensures (sym c.in_ok-examine.ensures))

pub returns-in_err-examine : goal.returns-in_err-examine
returns-in_err-examine c =
    let p = err_from_is_err_and c.from_residual.result c.from_residual.ensures.1 in rw (p.1, p.2) (sym (counts_refused _ _ _ _ c.pixel_count.ensures (sym c.in_err-examine.ensures)))
