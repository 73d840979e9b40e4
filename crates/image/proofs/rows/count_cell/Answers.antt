-- `count_cell` meets its contract. Assumes nothing.
use mathlib.Core.Path.{◌≡◌, sym, ◌∙◌}
use Rattle.image.specs.declared.Reading.TheVariants as R
use Rattle.image.specs.Cell.{meaning_of}
use Rattle.image.proofs.CountLaws.{one_true, one_false, one_uncertain}
use Rattle.image.proofs.rows.count_cell.Goals as goal

pub returns-in-True : goal.returns-in-True
returns-in-True c =
    let a = c.args in
    let e : c.read_cell.result ≡ R.True = c.in-True.is in
    let f = sym (one_true a.taken (meaning_of a.cell) (sym c.read_cell.ensures ∙ e)) in
    cc

pub returns-in-False : goal.returns-in-False
returns-in-False c =
    let a = c.args in
    let e : c.read_cell.result ≡ R.False = c.in-False.is in
    let f = sym (one_false a.taken (meaning_of a.cell) (sym c.read_cell.ensures ∙ e)) in
    cc

pub returns-in-Uncertain : goal.returns-in-Uncertain
returns-in-Uncertain c =
    let a = c.args in
    let e : c.read_cell.result ≡ R.Uncertain = c.in-Uncertain.is in
    let f = sym (one_uncertain a.taken a.cell (sym c.read_cell.ensures ∙ e)) in
    cc
