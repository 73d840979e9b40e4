-- `decide::children::cut_of` meets its contract. Assumes nothing.
use Rattle.decide.proofs.ChildAtCode.{cut_damaged}
use Rattle.decide.proofs.children.cut_of.Goals as goal

pub cut_along-requires : goal.cut_along-requires
cut_along-requires c =
    (rw (← c.is_legal_chosen.ensures, ← c.is_undamaged.ensures) c.if-is_legal_chosen-is_undamaged.true, c.direction_at-along.ensures)

pub returns-then-is_legal_chosen-is_undamaged : goal.returns-then-is_legal_chosen-is_undamaged
returns-then-is_legal_chosen-is_undamaged c = c.cut_along.ensures

pub returns : goal.returns
returns c =
    let a = c.args in
    cut_damaged a.p a.b c.direction_at-along.result
    (rw (← c.is_legal_chosen.ensures, ← c.is_undamaged.ensures) c.if-is_legal_chosen-is_undamaged.false) c.direction_at-along.ensures
