-- `decide::children::piece_of` meets its contract. Assumes nothing.
use mathlib.Core.Path.{ap, ◌∙◌}
use Rattle.std.specs.Prelude.{unwrap_or}
use Rattle.std.proofs.lemmas.Option.{unwrap_or-slice_get}
use Rattle.decide.proofs.ChildAtCode.{piece_told}
use Rattle.decide.proofs.children.piece_of.Goals as goal

pub returns-in-Ok : goal.returns-in-Ok
returns-in-Ok c =
    let a = c.args in
    c.unwrap_or.ensures
    ∙ ap (λ o. unwrap_or o a.x) c.get.ensures
    ∙ unwrap_or-slice_get _ a.j a.x
    ∙ piece_told a.x a.integer c.later_cut.result _ c.later_cut.ensures c.in-Ok.is a.j

pub returns-in-Err : goal.returns-in-Err
returns-in-Err c =
    let a = c.args in
    piece_told a.x a.integer c.later_cut.result _ c.later_cut.ensures c.in-Err.is a.j
