-- `decide::children::piece_count` meets its contract. Assumes nothing.
use mathlib.Core.Path.{◌∙◌}
use Rattle.decide.proofs.ChildAtCode.{pieces_counted}
use Rattle.decide.proofs.children.piece_count.Goals as goal

pub returns-in-Ok : goal.returns-in-Ok
returns-in-Ok c =
    let a = c.args in
    c.count.ensures.value ∙ pieces_counted a.x a.integer c.later_cut.result _ c.later_cut.ensures c.in-Ok.is

pub returns-in-Err : goal.returns-in-Err
returns-in-Err c =
    let a = c.args in
    pieces_counted a.x a.integer c.later_cut.result _ c.later_cut.ensures c.in-Err.is
