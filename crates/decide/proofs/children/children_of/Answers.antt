-- `decide::children::children_of` meets its contract. Assumes nothing.
use Rattle.decide.proofs.ChildAtCode.{children_as}
use Rattle.decide.proofs.children.children_of.Goals as goal

pub returns : goal.returns
returns c =
    let a = c.args in
    children_as a.p a.b c.cut_of-k.result c.listed_at.result c.listed_at-2.result c.listed_at-3.result c.listed_at-4.result
    c.cut_of-k.ensures c.listed_at.ensures c.listed_at-2.ensures c.listed_at-3.ensures c.listed_at-4.ensures
